-- Places that are compared digit by digit are in the order of their numbers.
use Rattle.std.proofs.Common.{◌≡◌, ℕ, suc, ◌+◌, ◌*◌, ◌^◌, ◌<◌, ◌≤◌, false, List, [], ◌∷◌, get_or, refl, subst, arith}
use Rattle.std.specs.declared.cmp.Ordering.{Ordering}
use Rattle.std.specs.declared.cmp.Ordering.TheVariants.{Less, Equal, Greater}
use Rattle.std.specs.Ordering.{ordering_then, nat_cmp, is_lt, MatchOrdering}
use Rattle.std.specs.List.Sorted.{IsSortedByKey}
use Rattle.std.specs.List.{AllByRecursion}
use Rattle.std.proofs.lemmas.Cmp.{ranked}
use Rattle.register_claims.specs.PlaceDigits.{Digits, digits_cmp}
use Rattle.register_claims.proofs.OneOrder.{Climbs}

-- the number that has these digits
abbrev pub number_of : Digits → ℕ
number_of d = (d.0 * 2 ^ 128 + d.1) * 2 ^ 40 + d.2

pub record AreDigits (d : Digits) : Type 0 where
  pub middle : d.1 < 2 ^ 128
  pub last : d.2 < 2 ^ 40

no_less : (x y : Digits) → AreDigits x → AreDigits y → is_lt (digits_cmp y x) ≡ false → number_of x ≤ number_of y
no_less x y p q h = go (nat_cmp y.0 x.0) (ranked y.0 x.0 _ refl) h
  where
    last : (o : Ordering) → MatchOrdering o (y.2 < x.2) (y.2 ≡ x.2) (x.2 < y.2) → is_lt o ≡ false → x.2 ≤ y.2
    last Less l h = absurd (cc)
    last Equal l h = omega arith
    last Greater l h = omega arith

    middle : x.0 ≡ y.0 → (o : Ordering) → MatchOrdering o (y.1 < x.1) (y.1 ≡ x.1) (x.1 < y.1) → is_lt (ordering_then o (nat_cmp y.2 x.2)) ≡ false → number_of x ≤ number_of y
    middle e Less l h = absurd (cc)
    middle e Equal l h = (let m = last (nat_cmp y.2 x.2) (ranked y.2 x.2 _ refl) h in omega arith)
    middle e Greater l h = (let a = p.last in omega arith)

    go : (o : Ordering) → MatchOrdering o (y.0 < x.0) (y.0 ≡ x.0) (x.0 < y.0) → is_lt (ordering_then (ordering_then o (nat_cmp y.1 x.1)) (nat_cmp y.2 x.2)) ≡ false → number_of x ≤ number_of y
    go Less l h = absurd (cc)
    go Equal l h = middle (omega arith) (nat_cmp y.1 x.1) (ranked y.1 x.1 _ refl) h
    go Greater l h = (let a = p.last in let b = p.middle in omega arith)

module _ {T : Type 0} (key : T → Digits) where
  abbrev place : T → ℕ
  place x = number_of (key x)

  one_on : (k : ℕ) → suc k + 1 ≡ suc (k + 1)
  one_on k = omega arith

  sorted_rest : (x y : T) (ys : List T) → IsSortedByKey key digits_cmp (x ∷ y ∷ ys) → IsSortedByKey key digits_cmp (y ∷ ys)
  sorted_rest x y ys s = λ k d h m.
      subst (λ (j : ℕ). is_lt (digits_cmp (key (get_or (x ∷ y ∷ ys) j d)) (key (get_or (y ∷ ys) k d))) ≡ false) (one_on k) (s (suc k) d (omega arith) (omega arith))

  climbs_on : (low : ℕ) (x : T) (xs : List T) → IsSortedByKey key digits_cmp (x ∷ xs) → AllByRecursion (λ x. AreDigits (key x)) (x ∷ xs) → low ≤ place x → Climbs place low (x ∷ xs)
  climbs_on low x [] s a l = (l, tt)
  climbs_on low x (y ∷ ys) s a l =
      let next : place x ≤ place y = no_less (key x) (key y) a.0 a.1.0 (s 0 x (omega arith) (omega arith)) in
      (l, climbs_on (place x) y ys (sorted_rest x y ys s) a.1 next)

  pub climbs : (xs : List T) → IsSortedByKey key digits_cmp xs → AllByRecursion (λ x. AreDigits (key x)) xs → Climbs place 0 xs
  climbs [] s a = tt
  climbs (x ∷ xs) s a = climbs_on 0 x xs s a (omega arith)
