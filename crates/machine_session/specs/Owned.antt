-- A machine that one caller has for itself: what is seen of it, and what its requests are answered.
use Rattle.std.specs.Prelude.{◌≡◌, ◌≢◌, ◌⊎◌, ◌+◌, ◌++◌, ◌≤◌, ℕ, Bool, List, [], ◌∷◌, Result, Ok, Err, IfOk, length}
use Rattle.history_lock.specs.Machines.{Reaches}
use Rattle.history_lock.specs.Replies.{ReplyKind, fault, failures_of}
use Rattle.http_session.specs.declared.reply.Reply.{Reply as Written}
use Rattle.http_session.specs.Replies.{answer_of}
use Rattle.http_session.specs.Requests.{Framed}
use Rattle.http_session.specs.Talk.{Answer, May}
use Rattle.machine_session.specs.Protocols.{Protocol}
use Rattle.machine_session.specs.Alone.{IsReplied, Plain, plain_at}

-- the state before the first accepted change, the accepted changes, and the count of faults
pub record Owned (S C : Type 0) : Type 0 where
  pub opening : S
  pub log : List (ℕ × C)
  pub faults : ℕ

-- these three as one value
abbrev pub owned : {S C : Type 0} → S → List (ℕ × C) → ℕ → Owned S C
owned opening log faults = record { opening = opening; log = log; faults = faults }

-- the same with a part of the state
abbrev pub owned_part : {S T C : Type 0} → (T → S) → Owned T C → Owned S C
owned_part part v = owned (part v.opening) v.log v.faults

-- the plain machine: its state is the replay of the accepted changes
abbrev pub plain_of_owned : {S C A : Type 0} → (S → C → S × A) → Owned S C → Plain S C
plain_of_owned step v = plain_at step v.opening v.log

-- what holds of all accepted changes but the last
abbrev pub IsBehind : {C : Type 0} → (List (ℕ × C) → Type 0) → List (ℕ × C) → Type 0
IsBehind {C} holds log = (before : List (ℕ × C)) × (entry : ℕ × C) × (log ≡ before ++ entry ∷ []) × holds before

-- a call was replied to; the caller's number is 0
pub record IsOwnCall {S C A : Type 0} (step : S → C → S × A) (fallible : A → Bool) (v w : Owned S C) (call : C) (answer : A) (kind : ReplyKind) : Type 0 where
  pub opening : w.opening ≡ v.opening
  pub replied : IsReplied step fallible 0 (plain_of_owned step v) (plain_of_owned step w) call answer kind
  -- the count of faults never falls, and rises if the reply reports a fault, as far as it goes, and with no other reply
  pub later : v.faults ≤ w.faults
  pub counted : Reaches (v.faults + failures_of kind) w.faults
  pub still : (kind ≡ fault) ⊎ (w.faults ≡ v.faults)

-- the answer to what a request asks for: the place of a reply is the number of changes accepted before it
abbrev pub IsOwnAnswer : {S C A R W E : Type 0} → Protocol S C A R W E → Owned S C → Framed → Result (C × W) E → Answer → Owned S C → Type 0
IsOwnAnswer {R = R} P v request (Ok asked) answer w =
    (reply : R) × IsOwnCall P.step P.fallible v w asked.0 (P.answer reply) (P.kind reply) × (answer ≡ P.tells asked.0 reply asked.1 (length v.log))
IsOwnAnswer P v request (Err why) answer w = P.refuses request why answer × (w ≡ v)

-- what a request may be answered
abbrev pub answers_alone : {S C A R W E : Type 0} → Protocol S C A R W E → May (Owned S C)
answers_alone {C = C} {W = W} {E = E} P =
    record {
      answers = λ v request answer w. (asked : Result (C × W) E) × P.asks request asked × IsOwnAnswer P v request asked answer w;
      refuses = P.misread;
    }

-- the same answers next to something that stays as it is
abbrev pub tagged : {S T : Type 0} → May S → May (S × T)
tagged may = record { answers = λ s request answer t. may.answers s.0 request answer t.0 × (t.1 ≡ s.1); refuses = may.refuses }

-- the machine, and how many calls were answered by a fault so far
pub record Counted (S C : Type 0) : Type 0 where
  pub now : Owned S C
  pub told : ℕ

abbrev pub counted : {S C : Type 0} → Owned S C → ℕ → Counted S C
counted now told = record { now = now; told = told }

-- the answer to what a request asks for, and the count of those that report a fault
abbrev pub IsCountedAnswer : {S C A R W E : Type 0} → Protocol S C A R W E → Counted S C → Framed → Result (C × W) E → Answer → Counted S C → Type 0
IsCountedAnswer {R = R} P old request (Ok asked) answer new =
    (reply : R) × IsOwnCall P.step P.fallible old.now new.now asked.0 (P.answer reply) (P.kind reply) × (answer ≡ P.tells asked.0 reply asked.1 (length old.now.log))
    × (new.told ≡ old.told + failures_of (P.kind reply))
IsCountedAnswer P old request (Err why) answer new = P.refuses request why answer × (new ≡ old)

-- what a request may be answered, and how many answers report a fault
abbrev pub answers_counted : {S C A R W E : Type 0} → Protocol S C A R W E → May (Counted S C)
answers_counted {C = C} {W = W} {E = E} P =
    record {
      answers = λ old request answer new. (asked : Result (C × W) E) × P.asks request asked × IsCountedAnswer P old request asked answer new;
      refuses = P.misread;
    }

-- a call was replied to; its answer is this, or is lost as memory ran out
abbrev pub IsActed : {S C A R W E F : Type 0} → Protocol S C A R W E → Owned S C → C → W → Result Written F → Owned S C → Type 0
IsActed {R = R} P v call shown result w =
    (reply : R) × IsOwnCall P.step P.fallible v w call (P.answer reply) (P.kind reply) × IfOk result (λ answer. answer_of answer ≡ P.tells call reply shown (length v.log))

-- the answer to what a request asks for, of a plain machine that does not fail
abbrev pub IsCertainAnswer : {S C A R W E : Type 0} → Protocol S C A R W E → Plain S C → Framed → Result (C × W) E → Answer → Plain S C → Type 0
IsCertainAnswer {R = R} P old request (Ok asked) answer new =
    (reply : R) × (P.kind reply ≢ fault) × IsReplied P.step P.fallible 0 old new asked.0 (P.answer reply) (P.kind reply) × (answer ≡ P.tells asked.0 reply asked.1 (length old.log))
IsCertainAnswer P old request (Err why) answer new = P.refuses request why answer × (new ≡ old)

-- a request is answered as a plain machine would that does not fail: only that memory ran out may be reported instead
abbrev pub answers_certainly : {S C A R W E : Type 0} → Protocol S C A R W E → May (Plain S C)
answers_certainly {C = C} {W = W} {E = E} P =
    record {
      answers = λ old request answer new. (asked : Result (C × W) E) × P.asks request asked × IsCertainAnswer P old request asked answer new;
      refuses = P.misread;
    }
