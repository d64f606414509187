-- Calls of a seat, one after another, are a talk in what the seat has seen then, and in each longer history.
use Rattle.std.proofs.Common.{◌≡◌, ◌+◌, ◌≤◌, ℕ, Bool, zero, suc, List, [], ◌∷◌, ◌++◌, length, length-append, Option, Result, Ok, Err, refl, sym, ap, ◌∙◌, subst, arith}
use Rattle.std.specs.Prelude.{take}
use mathlib.Core.List.{IsPrefix}
use Rattle.history_lock.specs.Replies.{ReplyKind, accepted, fault, memory, plain, grown, rise_of}
use Rattle.history_lock.specs.Replay.{own_entries}
use Rattle.history_lock.specs.Seats.{SeatView, IsCall}
use Rattle.history_lock.proofs.Places.{IsLegalAt-longer}
use Rattle.http_session.specs.Requests.{Framed}
use Rattle.http_session.specs.Talk.{Answer}
use Rattle.http_session.specs.Ends.{IsEnd}
use Rattle.http_session.specs.declared.session.SessionEnd.{SessionEnd}
use Rattle.machine_session.specs.Protocols.{Protocol}
use Rattle.machine_session.specs.Told.{IsAnswerIn, IsLater, IsTold, Standing, answers_in, standing_of}
use Rattle.machine_session.specs.InTurn.{IsAnswerNow, answers_in_turn}
use Rattle.machine_session.proofs.Carried.{IsCarried, end_carried, end_ahead}

pub prefix_trans : {A : Type 0} (xs ys zs : List A) → IsPrefix xs ys → IsPrefix ys zs → IsPrefix xs zs
prefix_trans xs ys zs p q = (p.0 ++ q.0, sym (Rattle.std.proofs.Common.append_assoc xs p.0 q.0) ∙ (ap (λ l. l ++ q.0) p.1 ∙ q.1))

pub prefix_refl : {A : Type 0} (xs : List A) → IsPrefix xs xs
prefix_refl xs = ([], Rattle.std.proofs.Common.append-nil xs)

take_length : {A : Type 0} (n : ℕ) (xs : List A) → n ≤ length xs → length (take n xs) ≡ n
take_length zero xs le = refl
take_length (suc n) [] le = absurd (omega arith)
take_length (suc n) (x ∷ xs) le = let r = take_length n xs (omega arith) in omega arith

grown_length : {C : Type 0} (kind : ReplyKind) (e : ℕ × C) (h : List (ℕ × C)) → length (grown kind e h) ≡ length h + rise_of kind
grown_length accepted e h = length-append h (e ∷ [])
grown_length fault e h = omega arith
grown_length memory e h = omega arith
grown_length plain e h = omega arith

-- a seat that is later than v
pub later_refl : {S C : Type 0} (v : SeatView S C) → IsLater v v
later_refl v = record { same = (refl, refl, refl, refl, refl, refl, refl); seen = prefix_refl v.seen }

pub later_trans : {S C : Type 0} (u v w : SeatView S C) → IsLater u v → IsLater v w → IsLater u w
later_trans u v w a b =
    let p = a.same in
    let q = b.same in
    record {
      same = (q.0 ∙ p.0, q.1 ∙ p.1, q.2 ∙ p.2, q.3 ∙ p.3, q.4 ∙ p.4, q.5 ∙ p.5, q.6 ∙ p.6);
      seen = prefix_trans u.seen v.seen w.seen a.seen b.seen;
    }

module _ {S C A : Type 0} (step : S → C → S × A) (fallible : A → Bool) where
  -- where a seat stands that answered one call
  seen_length : (v w : SeatView S C) (call : C) (answer : A) (kind : ReplyKind) (place : ℕ) → IsCall step fallible v w call answer kind place
      → length w.seen ≡ place + rise_of kind
  seen_length v w call answer kind place c =
      ap length c.seen_ends_at_place ∙ (grown_length kind (v.number, call) (take place w.seen)
      ∙ ap (λ (n : ℕ). n + rise_of kind) (take_length place w.seen c.reply_is_legal.within))

  -- a call of the lock is one that was told in what the seat has seen then
  pub told_now : (v w : SeatView S C) (call : C) (answer : A) (kind : ReplyKind) (place : ℕ) → IsCall step fallible v w call answer kind place
      → IsTold step fallible v.opening w.seen v.number (standing_of v) (standing_of w) call answer kind place
  told_now v w call answer kind place c =
      record {
        legal = c.reply_is_legal;
        in_order = c.place_is_after_seen;
        place_after = seen_length v w call answer kind place c;
        made = ap (λ (n : ℕ). own_entries n w.seen) c.seat_stays.1 ∙ c.own_entries_grow;
        faults = c.faults_rise;
      }

  -- and in each longer history
  pub told_longer : (o : S) (h g : List (ℕ × C)) (n : ℕ) (s t : Standing C) (call : C) (answer : A) (kind : ReplyKind) (place : ℕ) → IsPrefix h g
      → IsTold step fallible o h n s t call answer kind place → IsTold step fallible o g n s t call answer kind place
  told_longer o h g n s t call answer kind place p k =
      record {
        legal = IsLegalAt-longer step fallible o h g n call answer kind place p k.legal;
        in_order = k.in_order;
        place_after = k.place_after;
        made = k.made;
        faults = k.faults;
      }

  pub call_later : (v w : SeatView S C) (call : C) (answer : A) (kind : ReplyKind) (place : ℕ) → IsCall step fallible v w call answer kind place → IsLater v w
  call_later v w call answer kind place c = record { same = c.seat_stays; seen = c.seen_only_grows }

module _ {S C A R W E : Type 0} (P : Protocol S C A R W E) where
  answer_longer : (o : S) (h g : List (ℕ × C)) (n : ℕ) (s : Standing C) (request : Framed) (asked : Result (C × W) E) (a : Answer) (t : Standing C) → IsPrefix h g
      → IsAnswerIn P o h n s request asked a t → IsAnswerIn P o g n s request asked a t
  answer_longer o h g n s request (Ok asked) a t p k = (k.0, k.1, told_longer P.step P.fallible o h g n s t asked.0 (P.answer k.0) (P.kind k.0) k.1 p k.2, k.3)
  answer_longer o h g n s request (Err why) a t p k = k

  -- a talk in a history is one in each longer history
  pub longer : (o : S) (h g : List (ℕ × C)) (n : ℕ) → IsPrefix h g → IsCarried (answers_in P o h n) (answers_in P o g n) (λ s. s) (λ s. Unit {0}) (λ s. Unit {0})
  longer o h g n p =
      record {
        ahead = λ s r a t k x. x;
        behind = λ s r a t k y. y;
        carry = λ s r a t k x y. (k.0, k.1, answer_longer o h g n s r k.0 a t p k.2);
        refuse = λ why a k. k;
      }

  pub talk_longer : (o : S) (h g : List (ℕ × C)) (n : ℕ) (s t : Standing C) (old new : Option (List ℕ)) (bytes : List ℕ) (left : Option (List ℕ)) (how : SessionEnd) → IsPrefix h g
      → IsEnd (answers_in P o h n) s t old new bytes left how → IsEnd (answers_in P o g n) s t old new bytes left how
  talk_longer o h g n s t old new bytes left how p e =
      end_carried (answers_in P o h n) (answers_in P o g n) (λ s. s) (λ s. Unit {0}) (λ s. Unit {0}) (longer o h g n p) s t old new bytes left how e tt tt

  answer_later : (v : SeatView S C) (request : Framed) (asked : Result (C × W) E) (a : Answer) (w : SeatView S C) → IsAnswerNow P v request asked a w → IsLater v w
  answer_later v request (Ok asked) a w k = call_later P.step P.fallible v w asked.0 (P.answer k.0) (P.kind k.0) k.1 k.2
  answer_later v request (Err why) a w k = subst (λ (x : SeatView S C). IsLater v x) (sym k.1) (later_refl v)

  -- answers of a seat that ends as w
  told_in : (w s : SeatView S C) (request : Framed) (asked : Result (C × W) E) (a : Answer) (t : SeatView S C) → IsLater t w → IsAnswerNow P s request asked a t
      → IsAnswerIn P w.opening w.seen w.number (standing_of s) request asked a (standing_of t)
  told_in w s request (Ok asked) a t later k =
      let l = later_trans s t w (call_later P.step P.fallible s t asked.0 (P.answer k.0) (P.kind k.0) k.1 k.2) later in
      let here : IsTold P.step P.fallible s.opening w.seen s.number (standing_of s) (standing_of t) asked.0 (P.answer k.0) (P.kind k.0) k.1 =
      told_longer P.step P.fallible s.opening t.seen w.seen s.number (standing_of s) (standing_of t) asked.0 (P.answer k.0) (P.kind k.0) k.1 later.seen (told_now P.step P.fallible s t asked.0 (P.answer k.0) (P.kind k.0) k.1 k.2) in (
        k.0,
        k.1,
        subst (λ (x : S × ℕ). IsTold P.step P.fallible x.0 w.seen x.1 (standing_of s) (standing_of t) asked.0 (P.answer k.0) (P.kind k.0) k.1) (λ i. (sym l.same.4 i, sym l.same.1 i)) here,
        k.3,
      )
  told_in w s request (Err why) a t later k = (k.0, ap standing_of k.1)

  pub in_turn : (w : SeatView S C) → IsCarried (answers_in_turn P) (answers_in P w.opening w.seen w.number) standing_of (λ s. Unit {0}) (λ t. IsLater t w)
  in_turn w =
      record {
        ahead = λ s r a t k x. x;
        behind = λ s r a t k y. later_trans s t w (answer_later s r k.0 a t k.2) y;
        carry = λ s r a t k x y. (k.0, k.1, told_in w s r k.0 a t y k.2);
        refuse = λ why a k. k;
      }

  pub in_turn_is_talk : (v w : SeatView S C) (old new : Option (List ℕ)) (bytes : List ℕ) (left : Option (List ℕ)) (how : SessionEnd)
      → IsEnd (answers_in_turn P) v w old new bytes left how → IsEnd (answers_in P w.opening w.seen w.number) (standing_of v) (standing_of w) old new bytes left how
  in_turn_is_talk v w old new bytes left how e =
      end_carried (answers_in_turn P) (answers_in P w.opening w.seen w.number) standing_of (λ s. Unit {0}) (λ t. IsLater t w) (in_turn w) v w old new bytes left how e tt (later_refl w)

  -- after some answers a seat is later
  pub since : (v : SeatView S C) → IsCarried (answers_in_turn P) (answers_in_turn P) (λ s. s) (λ s. IsLater v s) (λ s. Unit {0})
  since v =
      record {
        ahead = λ s r a t k x. later_trans v s t x (answer_later s r k.0 a t k.2);
        behind = λ s r a t k y. y;
        carry = λ s r a t k x y. k;
        refuse = λ why a k. k;
      }

  pub in_turn_is_later : (v w : SeatView S C) (old new : Option (List ℕ)) (bytes : List ℕ) (left : Option (List ℕ)) (how : SessionEnd)
      → IsEnd (answers_in_turn P) v w old new bytes left how → IsLater v w
  in_turn_is_later v w old new bytes left how e =
      end_ahead (answers_in_turn P) (answers_in_turn P) (λ s. s) (λ s. IsLater v s) (λ s. Unit {0}) (since v) v w old new bytes left how e (later_refl v)
