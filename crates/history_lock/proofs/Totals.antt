-- Sums over views.
use Rattle.std.proofs.Common.{◌≡◌, ◌≢◌, ℕ, zero, suc, ◌+◌, ◌≤◌, List, [], ◌∷◌, ◌++◌, set, refl, sym, ap, arith}
use mathlib.Core.Option.{some, some-injective, some-ne-none}
use lib.ListN.{get_elem?}
use Rattle.history_lock.specs.LockRule.{total}

module _ {A : Type 0} (f : A → ℕ) where
  pub total_set : (l : List A) (i : ℕ) (a b : A) → get_elem? l i ≡ some a → total f (set l i b) + f a ≡ total f l + f b
  total_set [] i a b e = absurd (some-ne-none a (sym e))
  total_set (x ∷ xs) zero a b e = let h : f x ≡ f a = ap f (some-injective x a e) in omega arith
  total_set (x ∷ xs) (suc i) a b e = let h = total_set xs i a b e in omega arith

  pub total_at : (l : List A) (i : ℕ) (a : A) → get_elem? l i ≡ some a → f a ≤ total f l
  total_at [] i a e = absurd (some-ne-none a (sym e))
  total_at (x ∷ xs) zero a e = let h : f x ≡ f a = ap f (some-injective x a e) in omega arith
  total_at (x ∷ xs) (suc i) a e = let h = total_at xs i a e in omega arith

  pub total_two : (l : List A) (i j : ℕ) (a b : A) → i ≢ j → get_elem? l i ≡ some a → get_elem? l j ≡ some b → f a + f b ≤ total f l
  total_two [] i j a b n e d = absurd (some-ne-none a (sym e))
  total_two (x ∷ xs) zero zero a b n e d = absurd (n refl)
  total_two (x ∷ xs) zero (suc j) a b n e d = let h : f x ≡ f a = ap f (some-injective x a e) in let k = total_at xs j b d in omega arith
  total_two (x ∷ xs) (suc i) zero a b n e d = let h : f x ≡ f b = ap f (some-injective x b d) in let k = total_at xs i a e in omega arith
  total_two (x ∷ xs) (suc i) (suc j) a b n e d = let h = total_two xs i j a b (λ s. n (ap suc s)) e d in omega arith

  pub total_append : (l m : List A) → total f (l ++ m) ≡ total f l + total f m
  total_append [] m = omega arith
  total_append (x ∷ xs) m = let h = total_append xs m in omega arith

module _ {A : Type 0} (f g : A → ℕ) where
  pub total_le : (l : List A) → ((i : ℕ) (a : A) → get_elem? l i ≡ some a → f a ≤ g a) → total f l ≤ total g l
  total_le [] h = omega arith
  total_le (x ∷ xs) h = let one = h zero x refl in let more = total_le xs (λ i a e. h (suc i) a e) in omega arith
