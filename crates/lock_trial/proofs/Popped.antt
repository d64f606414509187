-- Lists whose last element leaves, or that are written over.
use Rattle.std.proofs.Math.Seq.{take-append_seam}
use Rattle.std.specs.Prelude.{take}
use Rattle.std.proofs.Common.{◌≡◌, ℕ, length, sym, All, List, [], ◌∷◌, ◌++◌, Option, Some, None, ap, subst, ◌∙◌}
use Rattle.std.specs.List.{AllByRecursion}
use Rattle.std.proofs.lemmas.List.Elements.{All-from_recursion, recursion_from_All}
use Rattle.std.specs.Option.{option_to_list}

abbrev value_or : {A : Type 0} → A → Option A → A
value_or d None = d
value_or d (Some x) = x

pub some_same : {A : Type 0} (x y : A) → Some x ≡ Some y → x ≡ y
some_same x y e = ap (value_or x) e

module _ {X : Type 0} (P : X → Type 0) where
  parts : (xs : List X) (y : X) → AllByRecursion P (xs ++ y ∷ []) → AllByRecursion P xs × P y
  parts [] y h = (tt, h.0)
  parts (x ∷ xs) y h = let r = parts xs y h.1 in ((h.0, r.0), r.1)

  pub popped : (xs ys : List X) (r : Option X) (x : X) → xs ≡ ys ++ option_to_list r → r ≡ Some x → All P xs → All P ys × P x
  popped xs ys r x e is all = let h = parts ys x (recursion_from_All P (ys ++ x ∷ []) (subst (All P) (e ∙ ap (λ z. ys ++ option_to_list z) is) all)) in (All-from_recursion P ys h.0, h.1)

-- a list written over one that is as long
pub all_over : {X : Type 0} (P : X → Type 0) (xs ys : List X) (n : ℕ) → n ≡ length xs → All P xs → All P (take n (xs ++ ys))
all_over P xs ys n is all = subst (All P) (sym (ap (λ m. take m (xs ++ ys)) is ∙ take-append_seam xs ys)) all
