-- What is known of workers that were dismissed, from one to the next.
use Rattle.std.proofs.Common.{length, length-append, ◌≡◌, ◌+◌, ℕ, List, [], ◌∷◌, ◌++◌, All, Option, Some, None, IfSome, map, sym, ap, ◌∙◌, subst, append-nil, arith}
use Rattle.std.proofs.lemmas.List.Elements.{All-push}
use Rattle.std.proofs.lemmas.List.Sums.{sum_by_push}
use mathlib.Core.List.{IsPrefix, map-append}
use Rattle.history_lock.specs.Seats.{IsJoined, SeatView}
use Rattle.ipam_listen.specs.Connections.{Connection, Returned}
use Rattle.machine_session.specs.Protocols.{Protocol}
use Rattle.machine_session.specs.Told.{answers_in, newcomer, standing_of}
use Rattle.http_lanes.specs.Listened.{returned_as}
use Rattle.http_lanes.specs.Served.{AreServed}
use Rattle.machine_workers.proofs.CarriedOver.{all_longer}
use Rattle.machine_server.specs.History.{AreLanesOf, IsLaneOf, IsShift, Shift, ended_of}
use Rattle.atomic_table.specs.Seated.{TableId}
use Rattle.machine_server.proofs.Numbers.{shift_numbered}
use Rattle.machine_server.specs.Hired.{HasDismissed, IsHired}

lanes_push : {C : Type 0} (rs : List Returned) (ss : List (Shift C)) (r : Returned) (s : Shift C) → AreLanesOf rs ss → IsLaneOf r s → AreLanesOf (rs ++ r ∷ []) (ss ++ s ∷ [])
lanes_push [] [] r s k h = (h, tt)
lanes_push [] (y ∷ ys) r s k h = absurd k
lanes_push (x ∷ xs) [] r s k h = absurd k
lanes_push (x ∷ xs) (y ∷ ys) r s k h = (k.0, lanes_push xs ys r s k.1 h)

shift_longer : {S C A B W E : Type 0} (P : Protocol S C A B W E) (o : S) (h g : List (ℕ × C)) (s : Shift C) → IsPrefix h g → IsShift P o h s → IsShift P o g s
shift_longer P o h g s p k = all_longer P o h g s.number s.connections newcomer s.reached p k

module _ {S C A B W E L : Type 0} (P : Protocol S C A B W E) (told : L → Option (List Connection)) (accepts : L → ℕ) where
  -- none was dismissed yet
  pub none_dismissed : (none_left : Type 0) (first : ℕ) (o : S) (v : SeatView S C) → v.ended ≡ [] → v.faults ≡ 0 → HasDismissed P told accepts none_left first o v []
  none_dismissed none_left first o v ended faults =
      record {
        shifts = [];
        tell = tt;
        ended = ended;
        answered = λ k d lt. absurd (omega arith);
        faults = faults;
        numbers = tt;
        many = omega arith;
        spent = λ n k d lt. absurd (omega arith);
      }

  -- one more: its seat w was joined to v, which is r then, and its lane was put to the others
  pub one_dismissed : (none_left : Type 0) (first : ℕ) (o : S) (v w r : SeatView S C) (now : List L) (lane : L) (connections : List Connection)
      → (k : HasDismissed P told accepts none_left first o v now) → IsJoined v w r → w.number ≡ first + length k.shifts → w.ended ≡ [] → IfSome (told lane) (λ all. all ≡ connections)
      → AreServed (answers_in P o w.seen w.number) connections newcomer (standing_of w) → (none_left → accepts lane ≡ 0)
      → HasDismissed P told accepts none_left first o r (now ++ lane ∷ [])
  one_dismissed none_left first o v w r now lane connections k j number ended told_are served zero =
      let one : Shift C = record { number = w.number; connections = connections; reached = standing_of w } in
      let here : IsShift P o r.seen one = all_longer P o w.seen r.seen w.number connections newcomer (standing_of w) j.both_begin_seen.1 served in
      let back : map (returned_as told accepts) (now ++ lane ∷ []) ≡ map (returned_as told accepts) now ++ returned_as told accepts lane ∷ [] = map-append (returned_as told accepts) now (lane ∷ []) in
      record {
        shifts = k.shifts ++ one ∷ [];
        tell = subst (λ (rs : List Returned). AreLanesOf rs (k.shifts ++ one ∷ [])) (sym back) (lanes_push (map (returned_as told accepts) now) k.shifts (returned_as told accepts lane) one k.tell told_are);
        ended = j.ended_are_kept ∙ (ap (λ (l : List (ℕ × List (ℕ × C))). (v.ended ++ l) ++ ended_of one ∷ []) ended
            ∙ (ap (λ (l : List (ℕ × List (ℕ × C))). l ++ ended_of one ∷ []) (append-nil v.ended ∙ k.ended) ∙ sym (map-append ended_of k.shifts (one ∷ []))));
        answered = All-push (IsShift P o r.seen) k.shifts one (λ i d lt. shift_longer P o v.seen r.seen _ j.both_begin_seen.0 (k.answered i d lt)) here;
        faults = j.sums.1 ∙ (ap (λ (n : ℕ). n + w.faults) k.faults ∙ sym (sum_by_push (λ (s : Shift C). s.reached.faults) k.shifts one));
        numbers = shift_numbered first k.shifts one k.numbers number;
        many =
            let before = k.many in
            let more = length-append now (lane ∷ []) in
            let here = length-append k.shifts (one ∷ []) in
            omega arith;
        spent = λ n. subst (λ (rs : List Returned). All (λ x. x.accepts ≡ 0) rs) (sym back) (All-push (λ (x : Returned). x.accepts ≡ 0) (map (returned_as told accepts) now) (returned_as told accepts lane) (k.spent n) (zero n));
      }

abbrev value_or : {A : Type 0} → A → Option A → A
value_or d None = d
value_or d (Some x) = x

some_same : {A : Type 0} (x y : A) → Some x ≡ Some y → x ≡ y
some_same x y e = ap (value_or x) e

module _ {S C A B W E L : Type 0} (P : Protocol S C A B W E) (told : L → Option (List Connection)) (accepts : L → ℕ) (base : ℕ) (z : TableId) where
  pub hired_seat : (o : S) (had : Option (SeatView S C)) (lane : L) (other : SeatView S C) → IsHired P told o base z had lane → had ≡ Some other → (other.lock ≡ z) × (other.weight ≡ 1)
  hired_seat o had lane other k is =
      let same : k.seat ≡ other = some_same k.seat other (sym k.has ∙ is) in
      (ap (λ (x : SeatView S C). x.lock) (sym same) ∙ k.lock, ap (λ (x : SeatView S C). x.weight) (sym same) ∙ k.weight)

  pub hired_has : (o : S) (had : Option (SeatView S C)) (lane : L) → IsHired P told o base z had lane → had ≡ None → ⊥
  hired_has o had lane k is = absurd (cc (sym k.has ∙ is))

  -- one more worker was dismissed
  pub worker_dismissed : (none_left : Type 0) (first : ℕ) (o : S) (v other r : SeatView S C) (had : Option (SeatView S C)) (lane : L) (now new : List L)
      → (k : HasDismissed P told accepts none_left first o v now) → other.number ≡ first + length k.shifts → IsHired P told o base z had lane → had ≡ Some other → IsJoined v other r
      → new ≡ now ++ lane ∷ [] → (none_left → accepts lane ≡ 0) → HasDismissed P told accepts none_left first o r new
  worker_dismissed none_left first o v other r had lane now new k number h is j came zero =
      let same : h.seat ≡ other = some_same h.seat other (sym h.has ∙ is) in
      let ended : other.ended ≡ [] = ap (λ (x : SeatView S C). x.ended) (sym same) ∙ h.ended in
      let served = subst (λ (x : SeatView S C). AreServed (answers_in P o x.seen x.number) h.connections newcomer (standing_of x)) same h.served in
      subst (λ (l : List L). HasDismissed P told accepts none_left first o r l) (sym came)
      (one_dismissed P told accepts none_left first o v other r now lane h.connections k j number ended h.told_are served zero)
