-- A talk: what a caller of a shared machine is told in answer to its requests, one after another, read against one history.
use Rattle.std.specs.Prelude.{◌≡◌, ◌+◌, ◌≤◌, ℕ, Bool, List, [], length, Result, Ok, Err}
use mathlib.Core.List.{IsPrefix}
use Rattle.history_lock.specs.Replies.{ReplyKind, grown, rise_of, failures_of}
use Rattle.history_lock.specs.Replay.{own_entries}
use Rattle.history_lock.specs.Places.{IsLegalAt}
use Rattle.history_lock.specs.Seats.{SeatView, IsSameSeat}
use Rattle.http_session.specs.Requests.{Framed}
use Rattle.http_session.specs.Talk.{Answer, May}
use Rattle.machine_session.specs.Protocols.{Protocol}

-- what a caller's answers led to so far; a call is of type C
pub record Standing (C : Type 0) : Type 0 where
  -- no later answer is before this place
  pub place : ℕ
  -- its accepted changes, in order
  pub made : List (ℕ × C)
  -- how many of its calls were answered by a fault
  pub faults : ℕ

-- a caller that has asked nothing
abbrev pub newcomer : {C : Type 0} → Standing C
newcomer = record { place = 0; made = []; faults = 0 }

-- a seat between two calls: its next answer is after all that it has seen
abbrev pub standing_of : {S C : Type 0} → SeatView S C → Standing C
standing_of v = record { place = length v.seen; made = own_entries v.number v.seen; faults = v.faults }

-- one call that was answered, in a history from this opening state, of the caller with this number
pub record IsTold {S C A : Type 0} (step : S → C → S × A) (fallible : A → Bool) (opening : S) (history : List (ℕ × C)) (number : ℕ) (before after : Standing C) (call : C) (answer : A) (kind : ReplyKind) (place : ℕ) : Type 0 where
  -- the reply is the plain machine's after the entries before its place, and an accepted change is the entry there; or it reports
  -- a fault if that reply is fallible, or out of memory
  pub legal : IsLegalAt step fallible opening history number call answer kind place
  -- places never fall ..
  pub in_order : before.place ≤ place
  -- .. and that of the next answer is after an accepted change
  pub place_after : after.place ≡ place + rise_of kind
  -- the caller's accepted changes are those before, and this call if it was accepted
  pub made : after.made ≡ grown kind (number, call) before.made
  -- its faults are those before, and one if the reply reports one
  pub faults : after.faults ≡ before.faults + failures_of kind

-- the answer to what a request asks for
abbrev pub IsAnswerIn : {S C A R W E : Type 0} → Protocol S C A R W E → S → List (ℕ × C) → ℕ → Standing C → Framed → Result (C × W) E → Answer → Standing C → Type 0
-- a call's answer is the text of its reply, with the reply's place
IsAnswerIn {R = R} P opening history number before request (Ok asked) answer after =
    (reply : R) × (place : ℕ) × IsTold P.step P.fallible opening history number before after asked.0 (P.answer reply) (P.kind reply) place × (answer ≡ P.tells asked.0 reply asked.1 place)
-- what the bytes decide is refused without the machine
IsAnswerIn P opening history number before request (Err why) answer after = P.refuses request why answer × (after ≡ before)

-- what a request may be answered in this history
abbrev pub answers_in : {S C A R W E : Type 0} → Protocol S C A R W E → S → List (ℕ × C) → ℕ → May (Standing C)
answers_in {C = C} {W = W} {E = E} P opening history number =
    record {
      answers = λ before request answer after. (asked : Result (C × W) E) × P.asks request asked × IsAnswerIn P opening history number before request asked answer after;
      refuses = P.misread;
    }

-- a seat as it was and as it is after some calls of its own
pub record IsLater {S C : Type 0} (v w : SeatView S C) : Type 0 where
  pub same : IsSameSeat v w
  pub seen : IsPrefix v.seen w.seen
