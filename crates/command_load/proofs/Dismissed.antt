-- What is known of workers that were dismissed, from one to the next.
use Rattle.std.proofs.Common.{◌≡◌, ◌+◌, ◌-◌, ℕ, Bool, true, List, [], ◌∷◌, ◌++◌, length, length-append, Option, Some, None, All, refl, sym, ap, ◌∙◌, subst, append-nil, append_assoc, arith}
use Rattle.std.specs.Prelude.{map, min, max, sum_by}
use Rattle.std.specs.List.{AllByRecursion}
use Rattle.std.specs.Option.{option_to_list}
use Rattle.std.proofs.lemmas.List.Elements.{All-from_recursion, recursion_from_All}
use Rattle.std.proofs.lemmas.List.Sums.{sum_by_push}
use mathlib.Core.List.{IsPrefix, map-append}
use Rattle.atomic_table.specs.Seated.{TableId}
use Rattle.history_lock.specs.Seats.{IsJoined}
use Rattle.ipam_data.specs.declared.calls.Call.{Call}
use Rattle.command_load.specs.Tallies.{IsTallyOf}
use Rattle.command_load.proofs.Tallies.{both, nobody}
use Rattle.command_load.specs.declared.tally.Tally.{Tally}
use Rattle.command_load.specs.declared.workers.Claimer.{Claimer}
use Rattle.command_load.specs.Hired.{AreNumberedDown, Caller, IsDone, Notes, last_of_v4}
use Rattle.command_load.specs.Dismissed.{AreNumberedFrom, HasDismissed, IsNotedPart, IsTally, Part, ended_of, number_of}
use Rattle.command_load.proofs.Hired.{HasNumber, some_same}

-- ---- lists whose last element leaves, and lists with one more

module _ {X : Type 0} (P : X → Type 0) where
  pub parts_of : (xs : List X) (y : X) → AllByRecursion P (xs ++ y ∷ []) → AllByRecursion P xs × P y
  parts_of [] y h = (tt, h.0)
  parts_of (x ∷ xs) y h = let r = parts_of xs y h.1 in ((h.0, r.0), r.1)

  pub all_push : (xs : List X) (y : X) → AllByRecursion P xs → P y → AllByRecursion P (xs ++ y ∷ [])
  all_push [] y h k = (k, tt)
  all_push (x ∷ xs) y h k = (h.0, all_push xs y h.1 k)

  pub popped : (xs ys : List X) (r : Option X) (x : X) → xs ≡ ys ++ option_to_list r → r ≡ Some x → All P xs → All P ys × P x
  popped xs ys r x e is all = let h = parts_of ys x (recursion_from_All P (ys ++ x ∷ []) (subst (All P) (e ∙ ap (λ z. ys ++ option_to_list z) is) all)) in (All-from_recursion P ys h.0, h.1)

all_map : {X : Type 0} (P Q : X → Type 0) (xs : List X) → ((x : X) → P x → Q x) → AllByRecursion P xs → AllByRecursion Q xs
all_map P Q [] f h = tt
all_map P Q (x ∷ xs) f h = (f x h.0, all_map P Q xs f h.1)

-- ---- numbers

number_last : {K : Type 0} → (top : ℕ) (ws : List (Claimer K)) (w : Claimer K) → AreNumberedDown top (ws ++ w ∷ []) → AreNumberedDown top ws × HasNumber w (top - length ws)
number_last top [] w k =
    let none : top ≡ top - 0 = omega arith in
    (tt, subst (λ (n : ℕ). HasNumber w n) none k.0)
number_last top (x ∷ xs) w k =
    let r = number_last (top - 1) xs w k.1 in
    let same : (top - 1) - length xs ≡ top - length (x ∷ xs) = omega arith in
    ((k.0, r.0), subst (λ (n : ℕ). HasNumber w n) same r.1)

pub number_popped : {K : Type 0} → (top : ℕ) (xs ys : List (Claimer K)) (r : Option (Claimer K)) (w : Claimer K) → xs ≡ ys ++ option_to_list r → r ≡ Some w → AreNumberedDown top xs
    → AreNumberedDown top ys × HasNumber w (top - length ys)
number_popped top xs ys r w e is k = number_last top ys w (subst (AreNumberedDown top) (e ∙ ap (λ o. ys ++ option_to_list o) is) k)

numbered_push : (first : ℕ) (ps : List Part) (p : Part) → AreNumberedFrom first ps → p.seat.number ≡ first + length ps → AreNumberedFrom first (ps ++ p ∷ [])
numbered_push first [] p k e = (omega arith, tt)
numbered_push first (x ∷ xs) p k e = (k.0, numbered_push (first + 1) xs p k.1 (omega arith))

-- ---- dismissals

pub prefix_trans : {A : Type 0} (xs ys zs : List A) → IsPrefix xs ys → IsPrefix ys zs → IsPrefix xs zs
prefix_trans xs ys zs p q = (p.0 ++ q.0, sym (append_assoc xs p.0 q.0) ∙ (ap (λ l. l ++ q.0) p.1 ∙ q.1))

-- a tally said by equal numbers
retold : (history : List (ℕ × Call)) (ms ns : List ℕ) (c l g a b d : ℕ) → ns ≡ ms → a ≡ c → b ≡ l → d ≡ g → IsTallyOf history ms c l g → IsTallyOf history ns a b d
retold history ms ns c l g a b d n ac bl dg t =
    subst (λ (x : List ℕ). IsTallyOf history x a b d) (sym n)
    (subst (λ (x : ℕ). IsTallyOf history ms x b d) (sym ac)
    (subst (λ (x : ℕ). IsTallyOf history ms c x d) (sym bl)
    (subst (λ (x : ℕ). IsTallyOf history ms c l x) (sym dg) t)))

-- none was dismissed yet
pub none_dismissed : (first many : ℕ) (v : Caller) (all : Tally) → v.ended ≡ [] → (all.claimed ≡ 0) × (all.least ≡ last_of_v4) × (all.greatest ≡ 0) → many ≡ 0 → HasDismissed true first many v all
none_dismissed first many v all ended none zero =
    record {
      parts = [];
      many_are = zero;
      ended = ended;
      numbers = tt;
      seen = tt;
      noted = λ w. tt;
      count = none.0;
      tally = λ history h. retold history [] [] 0 last_of_v4 0 all.claimed all.least all.greatest refl none.0 none.1 none.2 (nobody history last_of_v4 (omega arith));
    }

-- one more: its seat was joined to v, which is r then
pub worker_dismissed : {K : Type 0} → (z : TableId) (whole now : Bool) (first many : ℕ) (v other r : Caller) (w : Claimer K) (all sum : Tally) → HasDismissed whole first many v all → IsDone z w
    → w.seat ≡ Some other → other.number ≡ first + many → IsJoined v other r
    → (sum.claimed ≡ all.claimed + w.tally.claimed) × (sum.least ≡ min all.least w.tally.least) × (sum.greatest ≡ max all.greatest w.tally.greatest)
    → (now ≡ true → (whole ≡ true) × (w.tally.claimed ≡ w.share)) → HasDismissed now first (many + 1) r sum
worker_dismissed z whole now first many v other r w all sum k h is number j came each =
    let same : h.seat ≡ other = some_same h.seat other (sym h.has ∙ is) in
    let one : Part = record { seat = other; tally = w.tally } in
    let ended : other.ended ≡ [] = ap (λ (x : Caller). x.ended) (sym same) ∙ h.ended in
    let many_are = k.many_are in
    let more = length-append k.parts (one ∷ []) in
    record {
      parts = k.parts ++ one ∷ [];
      many_are = omega arith;
      ended = j.ended_are_kept ∙ (ap (λ (l : List (ℕ × List (ℕ × Call))). (v.ended ++ l) ++ ended_of one ∷ []) ended
          ∙ (ap (λ (l : List (ℕ × List (ℕ × Call))). l ++ ended_of one ∷ []) (append-nil v.ended ∙ k.ended) ∙ sym (map-append ended_of k.parts (one ∷ []))));
      numbers = numbered_push first k.parts one k.numbers (number ∙ ap (λ (n : ℕ). first + n) k.many_are);
      seen = all_push (λ (p : Part). IsPrefix p.seat.seen r.seen) k.parts one
          (all_map (λ (p : Part). IsPrefix p.seat.seen v.seen) (λ (p : Part). IsPrefix p.seat.seen r.seen) k.parts (λ p q. prefix_trans p.seat.seen v.seen r.seen q j.both_begin_seen.0) k.seen)
          j.both_begin_seen.1;
      noted = λ t. all_push IsNotedPart k.parts one (k.noted (each t).0)
          (subst (λ (x : Caller). Notes x w.tally.claimed w.tally.least w.tally.greatest) same (h.noted (each t).1));
      count = came.0 ∙ (ap (λ (n : ℕ). n + w.tally.claimed) k.count ∙ sym (sum_by_push (λ (p : Part). p.tally.claimed) k.parts one));
      tally = λ history q.
          let s = parts_of (λ (p : Part). IsTally history (number_of p ∷ []) p.tally) k.parts one q in
          retold history (map number_of k.parts ++ other.number ∷ []) (map number_of (k.parts ++ one ∷ [])) _ _ _ sum.claimed sum.least sum.greatest
          (map-append number_of k.parts (one ∷ [])) came.0 came.1 came.2
          (both history (map number_of k.parts) (other.number ∷ []) all.claimed w.tally.claimed all.least w.tally.least all.greatest w.tally.greatest (k.tally history s.0) s.1);
    }

-- what a worker's seat has
pub done_seat : {K : Type 0} → (z : TableId) (w : Claimer K) (other : Caller) → IsDone z w → w.seat ≡ Some other → (other.lock ≡ z) × (other.weight ≡ 1)
done_seat z w other k is =
    let same : k.seat ≡ other = some_same k.seat other (sym k.has ∙ is) in
    (ap (λ (x : Caller). x.lock) (sym same) ∙ k.lock, ap (λ (x : Caller). x.weight) (sym same) ∙ k.weight)

pub done_has : {K : Type 0} → (z : TableId) (w : Claimer K) → IsDone z w → w.seat ≡ None → ⊥
done_has z w k is = absurd (cc (sym k.has ∙ is))

-- the shares without the last one
pub shares_popped : {K : Type 0} → (xs ys : List (Claimer K)) (r : Option (Claimer K)) (w : Claimer K) → xs ≡ ys ++ option_to_list r → r ≡ Some w
    → sum_by (λ x. x.share) xs ≡ sum_by (λ x. x.share) ys + w.share
shares_popped xs ys r w e is = ap (sum_by (λ x. x.share)) (e ∙ ap (λ o. ys ++ option_to_list o) is) ∙ sum_by_push (λ x. x.share) ys w
