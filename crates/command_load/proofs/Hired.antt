-- Workers that are newly hired, and workers that made their claims.
use Rattle.std.proofs.Common.{◌≡◌, ◌-◌, ◌<◌, ℕ, suc, List, [], ◌∷◌, ◌++◌, All, length, get_or, true, Option, Some, None, IfSome, refl, sym, ap, ◌∙◌, subst, arith}
use Rattle.std.specs.Prelude.{sum_by, take}
use Rattle.std.proofs.Math.Seq.{take-append_seam}
use Rattle.std.proofs.lemmas.List.Elements.{All-push}
use Rattle.std.proofs.lemmas.List.Sums.{sum_by-cons}
use Rattle.atomic_table.specs.Seated.{TableId}
use Rattle.history_lock.specs.Replay.{own_entries}
use Rattle.history_lock.specs.Seats.{IsSplit}
use Rattle.ipam_data.specs.State.{empty_state}
use Rattle.command_load.specs.Histories.{AreClaims}
use Rattle.command_load.proofs.Histories.{places_stay}
use Rattle.command_load.specs.declared.workers.Claimer.{Claimer}
use Rattle.command_load.specs.Hired.{AllHaveClaimed, AreNumberedDown, Caller, HasClaimed, IsDone, IsHired, Notes, last_of_v4}

-- a caller under whose number nobody called has claimed nothing
fresh_notes : (r : Caller) → r.opening.state ≡ empty_state true → own_entries r.number r.seen ≡ [] → Notes r 0 last_of_v4 0
fresh_notes r opening none =
    record {
      opening = opening;
      claims = subst AreClaims (sym none) tt;
      notes = [];
      places = places_stay r.number [] r.seen (r.seen, refl) none;
      got = tt;
      count = sym (ap length none);
      least_is = refl;
      greatest_is = refl;
    }

pub newly_hired : {K : Type 0} → (z : TableId) (v l r : Caller) (w : Claimer K) → IsSplit v 1 l r → v.lock ≡ z → v.opening.state ≡ empty_state true → w.seat ≡ Some r → IsHired z w
newly_hired z v l r w s lock opening has =
    record {
      seat = r;
      has = has;
      lock = ap (λ (k : Caller). k.lock) s.new_has_share ∙ lock;
      weight = ap (λ (k : Caller). k.weight) s.new_has_share;
      ended = ap (λ (k : Caller). k.ended) s.new_has_share;
      fresh = fresh_notes r (ap (λ (k : Caller). k.opening.state) s.new_has_share ∙ opening) s.new_number_is_fresh;
    }

-- one more element
pub pushed : {X : Type 0} (P : X → Type 0) (xs zs : List X) (x : X) → zs ≡ xs ++ x ∷ [] → All P xs → P x → All P zs
pushed P xs zs x e all one = subst (All P) (sym e) (All-push P xs x all one)

-- a list written over one that is as long
pub over : {X : Type 0} (P : List X → Type 0) (xs ys : List X) (n : ℕ) → n ≡ length xs → P xs → P (take n (xs ++ ys))
over P xs ys n is all = subst P (sym (ap (λ m. take m (xs ++ ys)) is ∙ take-append_seam xs ys)) all

-- ---- numbers

abbrev pub HasNumber : {K : Type 0} → Claimer K → ℕ → Type 0
HasNumber w n = IfSome w.seat (λ (v : Caller). v.number ≡ n)

pub number_pushed : {K : Type 0} → (top : ℕ) (ws : List (Claimer K)) (w : Claimer K) → AreNumberedDown top ws → HasNumber w (top - length ws) → AreNumberedDown top (ws ++ w ∷ [])
number_pushed top [] w k e =
    let none : top - 0 ≡ top = omega arith in
    (subst (λ (n : ℕ). HasNumber w n) none e, tt)
number_pushed top (x ∷ xs) w k e =
    let same : top - length (x ∷ xs) ≡ (top - 1) - length xs = omega arith in
    (k.0, number_pushed (top - 1) xs w k.1 (subst (λ (n : ℕ). HasNumber w n) same e))

pub seat_number : {K : Type 0} → (w : Claimer K) (v : Caller) (n : ℕ) → w.seat ≡ Some v → HasNumber w n → v.number ≡ n
seat_number w v n is k = subst (λ (o : Option Caller). IfSome o (λ (x : Caller). x.number ≡ n)) is k

number_kept : {K : Type 0} → (old new : Claimer K) (n : ℕ) → HasClaimed old new → HasNumber old n → HasNumber new n
number_kept old new n k h = subst (λ (o : Option Caller). IfSome o (λ (x : Caller). x.number ≡ n)) (sym k.has) (k.same.1 ∙ seat_number old k.before n k.had h)

-- claims change no number
pub numbers_kept : {K : Type 0} → (old new : List (Claimer K)) (top : ℕ) → length new ≡ length old → AllHaveClaimed old new → AreNumberedDown top old → AreNumberedDown top new
numbers_kept [] [] top same worked k = tt
numbers_kept [] (y ∷ ys) top same worked k = absurd (omega arith)
numbers_kept (x ∷ xs) [] top same worked k = absurd (omega arith)
numbers_kept (x ∷ xs) (y ∷ ys) top same worked k =
    (number_kept x y top (worked 0 x (omega arith)) k.0, numbers_kept xs ys (top - 1) (omega arith) (λ i w lt. worked (suc i) w (omega arith)) k.1)

-- and no share
pub shares_kept : {K : Type 0} → (old new : List (Claimer K)) → length new ≡ length old → AllHaveClaimed old new → sum_by (λ w. w.share) new ≡ sum_by (λ w. w.share) old
shares_kept [] [] same worked = refl
shares_kept [] (y ∷ ys) same worked = absurd (omega arith)
shares_kept (x ∷ xs) [] same worked = absurd (omega arith)
shares_kept (x ∷ xs) (y ∷ ys) same worked =
    let one = (worked 0 x (omega arith)).share in
    let rest = shares_kept xs ys (omega arith) (λ i w lt. worked (suc i) w (omega arith)) in
    let left = sum_by-cons (λ w. w.share) y ys in
    let right = sum_by-cons (λ w. w.share) x xs in
    omega arith

-- ---- claims

abbrev value_or : {A : Type 0} → A → Option A → A
value_or d None = d
value_or d (Some x) = x

pub some_same : {A : Type 0} (x y : A) → Some x ≡ Some y → x ≡ y
some_same x y e = ap (value_or x) e

one_done : {K : Type 0} → (z : TableId) (old new : Claimer K) → HasClaimed old new → IsHired z old → IsDone z new
one_done z old new k h =
    let same : h.seat ≡ k.before = some_same h.seat k.before (sym h.has ∙ k.had) in
    record {
      seat = k.after;
      has = k.has;
      lock = k.same.0 ∙ (ap (λ (x : Caller). x.lock) (sym same) ∙ h.lock);
      weight = k.same.3 ∙ (ap (λ (x : Caller). x.weight) (sym same) ∙ h.weight);
      ended = k.same.6 ∙ (ap (λ (x : Caller). x.ended) (sym same) ∙ h.ended);
      noted = k.noted (subst (λ (x : Caller). Notes x 0 last_of_v4 0) same h.fresh);
      few = k.few;
    }

pub all_done : {K : Type 0} → (z : TableId) (old new : List (Claimer K)) → length new ≡ length old → AllHaveClaimed old new → All (IsHired z) old → All (IsDone z) new
all_done z old new same worked hired = λ k d lt.
    let there = subst (λ (n : ℕ). k < n) same lt in
    one_done z (get_or old k d) (get_or new k d) (worked k d there) (hired k d there)
