-- What is known of the first elements of a list is known of one more.
use Rattle.std.proofs.Common.{◌≡◌, ℕ, zero, suc, ◌+◌, ◌<◌, List, [], ◌∷◌, length, take, get_or, subst, arith}
use Rattle.std.specs.List.{AllByRecursion}

front : {A : Type 0} (P : A → Type 0) (xs : List A) (i : ℕ) (x : A) → i < length xs → x ≡ get_or xs i x → P x → AllByRecursion P (take i xs) → AllByRecursion P (take (suc i) xs)
front P [] i x l e p h = tt
front P (y ∷ ys) zero x l e p h = (subst P e p, tt)
front P (y ∷ ys) (suc i) x l e p h = (h.0, front P ys i x (omega arith) e p h.1)

pub each_more : {A : Type 0} (P : A → Type 0) (xs : List A) (i : ℕ) (x : A) → i < length xs → x ≡ get_or xs i x → P x → AllByRecursion P (take i xs) → AllByRecursion P (take (i + 1) xs)
each_more P xs i x l e p h = let n : suc i ≡ i + 1 = omega arith in subst (λ (k : ℕ). AllByRecursion P (take k xs)) n (front P xs i x l e p h)
