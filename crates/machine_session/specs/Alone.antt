-- The answers of the plain machine, one after another, which a caller gets that has the machine for itself.
use Rattle.std.specs.Prelude.{◌≡◌, ℕ, Bool, List, Result, Ok, Err, length}
use Rattle.history_lock.specs.Replies.{ReplyKind, accepted, fault, memory, plain, AnswersAs, grown}
use Rattle.history_lock.specs.Replay.{replay}
use Rattle.history_lock.specs.Seats.{SeatView}
use Rattle.http_session.specs.Requests.{Framed}
use Rattle.http_session.specs.Talk.{Answer, May}
use Rattle.machine_session.specs.Protocols.{Protocol}

-- the plain machine: its state, and the accepted changes from the first
pub record Plain (S C : Type 0) : Type 0 where
  pub state : S
  pub log : List (ℕ × C)

-- the state after a reply of this kind: only an accepted change changes it
abbrev pub state_after : {S : Type 0} → ReplyKind → S → S → S
state_after accepted old new = new
state_after fault old new = old
state_after memory old new = old
state_after plain old new = old

-- the reply to a call of the caller with this number is the plain step's, or reports a fault if that one is fallible, or out of memory;
-- and what is kept then
pub record IsReplied {S C A : Type 0} (step : S → C → S × A) (fallible : A → Bool) (number : ℕ) (old new : Plain S C) (call : C) (answer : A) (kind : ReplyKind) : Type 0 where
  pub right : AnswersAs fallible kind answer (step old.state call).1
  pub state : new.state ≡ state_after kind old.state (step old.state call).0
  pub log : new.log ≡ grown kind (number, call) old.log

-- the answer to what a request asks for; the place of a reply is the number of changes accepted before it
abbrev pub IsPlainAnswer : {S C A R W E : Type 0} → Protocol S C A R W E → ℕ → Plain S C → Framed → Result (C × W) E → Answer → Plain S C → Type 0
IsPlainAnswer {R = R} P number old request (Ok asked) answer new =
    (reply : R) × IsReplied P.step P.fallible number old new asked.0 (P.answer reply) (P.kind reply) × (answer ≡ P.tells asked.0 reply asked.1 (length old.log))
IsPlainAnswer P number old request (Err why) answer new = P.refuses request why answer × (new ≡ old)

-- a request is answered as the plain machine would
abbrev pub answers_plainly : {S C A R W E : Type 0} → Protocol S C A R W E → ℕ → May (Plain S C)
answers_plainly {C = C} {W = W} {E = E} P number =
    record {
      answers = λ old request answer new. (asked : Result (C × W) E) × P.asks request asked × IsPlainAnswer P number old request asked answer new;
      refuses = P.misread;
    }

-- the machine after these changes
abbrev pub plain_at : {S C A : Type 0} → (S → C → S × A) → S → List (ℕ × C) → Plain S C
plain_at step opening log = record { state = replay step opening log; log = log }

-- the machine as a seat has seen it
abbrev pub plain_of : {S C A : Type 0} → (S → C → S × A) → SeatView S C → Plain S C
plain_of step v = plain_at step v.opening v.seen
