-- What a machine and its service are to contracts, as one value: which requests ask for which calls, and which answers give which replies.
use Rattle.std.specs.Prelude.{◌≡◌, ℕ, Bool, Result}
use Rattle.history_lock.specs.Replies.{ReplyKind}
use Rattle.http_session.specs.Requests.{Framed}
use Rattle.http_session.specs.Talk.{Answer}
use Rattle.http_session.specs.declared.request.Fault.{Fault}

-- S is a state of the machine, C a call, A an answer of the plain step, R a reply, W what an answer shows besides the reply and its place,
-- E why a request is refused without the machine
pub record Protocol (S C A R W E : Type 0) : Type 1 where
  -- of the machine: its plain step, a reply as the plain step gives it, which kind each reply has, and in place of which plain answers a
  -- fault may be reported
  pub step : S → C → S × A
  pub answer : R → A
  pub kind : R → ReplyKind
  pub fallible : A → Bool
  -- of the service: what a request asks for, ..
  pub asks : Framed → Result (C × W) E → Type 0
  -- .. the answer that gives a reply to a call, which has a place in the history, ..
  pub tells : C → R → W → ℕ → Answer
  -- .. the answer to a request that is refused, and to bytes that are refused in the place of one
  pub refuses : Framed → E → Answer → Type 0
  pub misread : Fault → Answer → Type 0

-- these members as one value
abbrev pub protocol : {S C A R W E : Type 0} → (S → C → S × A) → (R → A) → (R → ReplyKind) → (A → Bool) → (Framed → Result (C × W) E → Type 0)
    → (C → R → W → ℕ → Answer) → (Framed → E → Answer → Type 0) → (Fault → Answer → Type 0) → Protocol S C A R W E
protocol step answer kind fallible asks tells refuses misread =
    record { step = step; answer = answer; kind = kind; fallible = fallible; asks = asks; tells = tells; refuses = refuses; misread = misread }

-- the same service over a machine of which more is seen, by that machine's plain step
abbrev pub protocol_over : {S T C A R W E : Type 0} → (T → C → T × A) → Protocol S C A R W E → Protocol T C A R W E
protocol_over step P =
    record {
      step = step;
      answer = P.answer;
      kind = P.kind;
      fallible = P.fallible;
      asks = P.asks;
      tells = P.tells;
      refuses = P.refuses;
      misread = P.misread;
    }

-- a state of the one machine has a state of the other in it, and the steps of both go side by side
abbrev pub GoBeside : {S T C A : Type 0} → (S → C → S × A) → (T → C → T × A) → (T → S) → Type 0
GoBeside {T = T} {C = C} step more_step part = (t : T) (call : C) → step (part t) call ≡ (part (more_step t call).0, (more_step t call).1)
