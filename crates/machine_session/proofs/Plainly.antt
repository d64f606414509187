-- A seat beside which no other is live gets the answers of the plain machine, one after another.
use Rattle.std.proofs.Common.{◌≡◌, ℕ, Bool, List, [], ◌∷◌, ◌++◌, length, Option, Result, Ok, Err, refl, sym, ap, ◌∙◌, subst}
use Rattle.std.specs.Prelude.{take}
use mathlib.Core.List.{IsPrefix}
use Rattle.history_lock.specs.Replies.{ReplyKind, accepted, fault, memory, plain, grown, AnswersAs}
use Rattle.history_lock.specs.Replay.{replay}
use Rattle.history_lock.specs.Seats.{SeatView, IsCall}
use Rattle.http_session.specs.Requests.{Framed}
use Rattle.http_session.specs.Talk.{Answer}
use Rattle.http_session.specs.Ends.{IsEnd}
use Rattle.http_session.specs.declared.session.SessionEnd.{SessionEnd}
use Rattle.machine_session.specs.Protocols.{Protocol}
use Rattle.machine_session.specs.InTurn.{IsAnswerNow, answers_in_turn}
use Rattle.machine_session.specs.Alone.{IsPlainAnswer, IsReplied, answers_plainly, plain_of, state_after}
use Rattle.machine_session.proofs.Carried.{IsCarried, end_carried}

take_prefix : {A : Type 0} (xs ys : List A) → IsPrefix xs ys → take (length xs) ys ≡ xs
take_prefix [] ys p = refl
take_prefix (x ∷ xs) [] p = absurd (cc (p.1))
take_prefix (x ∷ xs) (y ∷ ys) p = let r = take_prefix xs ys (p.0, cc (p.1)) in cc (p.1, r)

module _ {S C A : Type 0} (step : S → C → S × A) where
  pub replay_push : (s : S) (xs : List (ℕ × C)) (e : ℕ × C) → replay step s (xs ++ e ∷ []) ≡ (step (replay step s xs) e.1).0
  replay_push s [] e = refl
  replay_push s (x ∷ xs) e = replay_push (step s x.1).0 xs e

  pub grown_replay : (kind : ReplyKind) (s : S) (h : List (ℕ × C)) (n : ℕ) (call : C)
      → replay step s (grown kind (n, call) h) ≡ state_after kind (replay step s h) (step (replay step s h) call).0
  grown_replay accepted s h n call = replay_push s h (n, call)
  grown_replay fault s h n call = refl
  grown_replay memory s h n call = refl
  grown_replay plain s h n call = refl

module _ {S C A : Type 0} (step : S → C → S × A) (fallible : A → Bool) where
  -- what the one caller had seen are all entries before its call
  seen_before : (v w : SeatView S C) (call : C) (answer : A) (kind : ReplyKind) (place : ℕ) → IsCall step fallible v w call answer kind place → v.weight ≡ 65536
      → take place w.seen ≡ v.seen
  seen_before v w call answer kind place c whole = ap (λ (n : ℕ). take n w.seen) (c.alone_misses_nothing whole) ∙ take_prefix v.seen w.seen c.seen_only_grows

  pub replied : (v w : SeatView S C) (call : C) (answer : A) (kind : ReplyKind) (place : ℕ) → IsCall step fallible v w call answer kind place → v.weight ≡ 65536
      → IsReplied step fallible v.number (plain_of step v) (plain_of step w) call answer kind
  replied v w call answer kind place c whole =
      let all = seen_before v w call answer kind place c whole in
      let log : w.seen ≡ grown kind (v.number, call) v.seen = c.seen_ends_at_place ∙ ap (grown kind (v.number, call)) all in
      record {
        right = subst (λ (h : List (ℕ × C)). AnswersAs fallible kind answer (step (replay step v.opening h) call).1) all c.reply_is_legal.right;
        state = ap (λ (o : S). replay step o w.seen) c.seat_stays.4 ∙ (ap (replay step v.opening) log ∙ grown_replay step kind v.opening v.seen v.number call);
        log = log;
      }

module _ {S C A R W E : Type 0} (P : Protocol S C A R W E) where
  plain_answer : (n : ℕ) (v : SeatView S C) (request : Framed) (asked : Result (C × W) E) (a : Answer) (w : SeatView S C) → (v.weight ≡ 65536) × (v.number ≡ n) → IsAnswerNow P v request asked a w
      → IsPlainAnswer P n (plain_of P.step v) request asked a (plain_of P.step w)
  plain_answer n v request (Ok asked) a w alone k = (
    k.0,
    subst (λ (m : ℕ). IsReplied P.step P.fallible m (plain_of P.step v) (plain_of P.step w) asked.0 (P.answer k.0) (P.kind k.0)) alone.1 (replied P.step P.fallible v w asked.0 (P.answer k.0) (P.kind k.0) k.1 k.2 alone.0),
    k.3 ∙ ap (P.tells asked.0 k.0 asked.1) (k.2.alone_misses_nothing alone.0),
  )
  plain_answer n v request (Err why) a w alone k = (k.0, ap (plain_of P.step) k.1)

  stays_alone : (n : ℕ) (v : SeatView S C) (request : Framed) (asked : Result (C × W) E) (a : Answer) (w : SeatView S C) → IsAnswerNow P v request asked a w → (v.weight ≡ 65536) × (v.number ≡ n)
      → (w.weight ≡ 65536) × (w.number ≡ n)
  stays_alone n v request (Ok asked) a w k alone = (k.2.seat_stays.3 ∙ alone.0, k.2.seat_stays.1 ∙ alone.1)
  stays_alone n v request (Err why) a w k alone = subst (λ (x : SeatView S C). (x.weight ≡ 65536) × (x.number ≡ n)) (sym k.1) alone

  alone : (n : ℕ) → IsCarried (answers_in_turn P) (answers_plainly P n) (plain_of P.step) (λ v. (v.weight ≡ 65536) × (v.number ≡ n)) (λ w. Unit {0})
  alone n =
      record {
        ahead = λ v r a w k x. stays_alone n v r k.0 a w k.2 x;
        behind = λ v r a w k y. y;
        carry = λ v r a w k x y. (k.0, k.1, plain_answer n v r k.0 a w x k.2);
        refuse = λ why a k. k;
      }

  pub in_turn_is_plain : (v w : SeatView S C) (old new : Option (List ℕ)) (bytes : List ℕ) (left : Option (List ℕ)) (how : SessionEnd)
      → v.weight ≡ 65536 → IsEnd (answers_in_turn P) v w old new bytes left how → IsEnd (answers_plainly P v.number) (plain_of P.step v) (plain_of P.step w) old new bytes left how
  in_turn_is_plain v w old new bytes left how whole e =
      end_carried (answers_in_turn P) (answers_plainly P v.number) (plain_of P.step) (λ x. (x.weight ≡ 65536) × (x.number ≡ v.number)) (λ x. Unit {0}) (alone v.number) v w old new bytes left how e (whole, refl) tt
