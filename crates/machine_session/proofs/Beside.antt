-- What is said of a machine's answers is said by a part of its state, where the steps of both go side by side.
use Rattle.std.proofs.Common.{◌≡◌, ℕ, Bool, List, [], ◌∷◌, Option, Result, Ok, Err, refl, sym, ap, ◌∙◌, subst}
use Rattle.std.specs.Prelude.{take}
use Rattle.ipam_edge.specs.Reading.{Step}
use Rattle.history_lock.specs.Replies.{ReplyKind, AnswersAs}
use Rattle.history_lock.specs.Replay.{replay}
use Rattle.history_lock.specs.Places.{IsLegalAt}
use Rattle.http_session.specs.Requests.{Framed}
use Rattle.http_session.specs.Talk.{Answer}
use Rattle.http_session.specs.declared.session.SessionEnd.{SessionEnd}
use Rattle.machine_session.specs.Protocols.{GoBeside, Protocol, protocol_over}
use Rattle.machine_session.specs.Told.{IsAnswerIn, IsTold, Standing, answers_in}
use Rattle.machine_session.specs.Owned.{Counted, IsCountedAnswer, IsOwnCall, Owned, answers_counted, counted, owned_part}
use Rattle.machine_session.specs.Sessions.{IsOwnSession}
use Rattle.machine_session.proofs.Carried.{IsCarried, end_carried}
use Rattle.machine_session.proofs.Certainly.{own_is_certain}
use Rattle.machine_session.proofs.Plainly.{grown_replay}

module _ {S T C A : Type 0} (step : S → C → S × A) (more_step : T → C → T × A) (part : T → S) (beside : GoBeside step more_step part) where
  pub part_replay : (t : T) (h : List (ℕ × C)) → part (replay more_step t h) ≡ replay step (part t) h
  part_replay t [] = refl
  part_replay t (e ∷ h) = part_replay (more_step t e.1).0 h ∙ ap (λ (x : S × A). replay step x.0 h) (sym (beside t e.1))

  part_answer : (t : T) (h : List (ℕ × C)) (call : C) → (more_step (replay more_step t h) call).1 ≡ (step (replay step (part t) h) call).1
  part_answer t h call =
      ap (λ (x : S × A). x.1) (sym (beside (replay more_step t h) call)) ∙ ap (λ (s : S). (step s call).1) (part_replay t h)

  part_right : (fallible : A → Bool) (t : T) (h : List (ℕ × C)) (call : C) (answer : A) (kind : ReplyKind)
      → AnswersAs fallible kind answer (more_step (replay more_step t h) call).1 → AnswersAs fallible kind answer (step (replay step (part t) h) call).1
  part_right fallible t h call answer kind right = subst (AnswersAs fallible kind answer) (part_answer t h call) right

  pub part_legal : (fallible : A → Bool) (t : T) (h : List (ℕ × C)) (who : ℕ) (call : C) (answer : A) (kind : ReplyKind) (place : ℕ)
      → IsLegalAt more_step fallible t h who call answer kind place → IsLegalAt step fallible (part t) h who call answer kind place
  part_legal fallible t h who call answer kind place k =
      record { within = k.within; right = part_right fallible t (take place h) call answer kind k.right; entry = k.entry }

  part_told : (fallible : A → Bool) (t : T) (h : List (ℕ × C)) (number : ℕ) (before after : Standing C) (call : C) (answer : A) (kind : ReplyKind) (place : ℕ)
      → IsTold more_step fallible t h number before after call answer kind place → IsTold step fallible (part t) h number before after call answer kind place
  part_told fallible t h number before after call answer kind place k =
      record {
        legal = part_legal fallible t h number call answer kind place k.legal;
        in_order = k.in_order;
        place_after = k.place_after;
        made = k.made;
        faults = k.faults;
      }

  part_called : (fallible : A → Bool) (v w : Owned T C) (call : C) (answer : A) (kind : ReplyKind)
      → IsOwnCall more_step fallible v w call answer kind → IsOwnCall step fallible (owned_part part v) (owned_part part w) call answer kind
  part_called fallible v w call answer kind k =
      record {
        opening = ap part k.opening;
        replied = record {
          right = part_right fallible v.opening v.log call answer kind k.replied.right;
          state = ap (λ (t : T). replay step (part t) w.log) k.opening
              ∙ (ap (replay step (part v.opening)) k.replied.log ∙ grown_replay step kind (part v.opening) v.log 0 call);
          log = k.replied.log;
        };
        later = k.later;
        counted = k.counted;
        still = k.still;
      }

module _ {S T C A R W E : Type 0} (P : Protocol S C A R W E) (more_step : T → C → T × A) (part : T → S) (beside : GoBeside P.step more_step part) where
  answer_in : (t : T) (h : List (ℕ × C)) (number : ℕ) (before : Standing C) (request : Framed) (asked : Result (C × W) E) (a : Answer) (after : Standing C)
      → IsAnswerIn (protocol_over more_step P) t h number before request asked a after → IsAnswerIn P (part t) h number before request asked a after
  answer_in t h number before request (Ok asked) a after k =
      (k.0, k.1, part_told P.step more_step part beside P.fallible t h number before after asked.0 (P.answer k.0) (P.kind k.0) k.1 k.2, k.3)
  answer_in t h number before request (Err why) a after k = k

  -- a talk of the one machine is a talk of the other
  pub talk_beside : (t : T) (h : List (ℕ × C)) (number : ℕ)
      → IsCarried (answers_in (protocol_over more_step P) t h number) (answers_in P (part t) h number) (λ s. s) (λ s. Unit {0}) (λ s. Unit {0})
  talk_beside t h number =
      record {
        ahead = λ s r a w k x. x;
        behind = λ s r a w k y. y;
        carry = λ s r a w k x y. (k.0, k.1, answer_in t h number s r k.0 a w k.2);
        refuse = λ why a k. k;
      }

  -- what is seen of the one machine and its faults, as it is seen of the other
  abbrev counted_part : Counted T C → Counted S C
  counted_part s = counted (owned_part part s.now) s.told

  counted_answer : (s : Counted T C) (request : Framed) (asked : Result (C × W) E) (a : Answer) (w : Counted T C)
      → IsCountedAnswer (protocol_over more_step P) s request asked a w → IsCountedAnswer P (counted_part s) request asked a (counted_part w)
  counted_answer s request (Ok asked) a w k =
      (k.0, part_called P.step more_step part beside P.fallible s.now w.now asked.0 (P.answer k.0) (P.kind k.0) k.1, k.2, k.3)
  counted_answer s request (Err why) a w k = (k.0, ap counted_part k.1)

  counts_beside : IsCarried (answers_counted (protocol_over more_step P)) (answers_counted P) counted_part (λ s. Unit {0}) (λ s. Unit {0})
  counts_beside =
      record {
        ahead = λ s r a w k x. x;
        behind = λ s r a w k y. y;
        carry = λ s r a w k x y. (k.0, k.1, counted_answer s r k.0 a w k.2);
        refuse = λ why a k. k;
      }

  -- a session of the one machine is a session of the other
  pub session_beside : {Z : Type 0} (reads : Step Z) (v w : Owned T C) (from to : Z) (left_old left_new old new : Option (List ℕ)) (how : SessionEnd)
      → IsOwnSession (protocol_over more_step P) reads v w from to left_old left_new old new how
      → IsOwnSession P reads (owned_part part v) (owned_part part w) from to left_old left_new old new how
  session_beside reads v w from to left_old left_new old new how s =
      let e = end_carried (answers_counted (protocol_over more_step P)) (answers_counted P) counted_part (λ x. Unit {0}) (λ x. Unit {0}) counts_beside
      (counted v 0) (counted w s.told) old new s.session.bytes left_new how s.session.ends tt tt in
      record {
        told = s.told;
        session = record {
          bytes = s.session.bytes;
          grown = s.session.grown;
          ends = e;
          needed = s.session.needed;
          last = s.session.last;
          last_is = s.session.last_is;
          reads = s.session.reads;
        };
        opening = ap part s.opening;
        later = s.later;
        bounded = s.bounded;
        still = s.still;
        certain = λ none. own_is_certain P (counted (owned_part part v) 0) (counted (owned_part part w) s.told) old new s.session.bytes left_new how e none;
      }
