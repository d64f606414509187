-- A list that is kept backwards, so that its first item is popped.
use Rattle.std.proofs.Common.{◌≡◌, ◌∙◌, List, [], ◌∷◌, ◌++◌, reverse, ap}
use mathlib.Core.List.{reverse-append}

pub first_of_popped : {A : Type 0} (xs ys : List A) (x : A) → xs ≡ ys ++ x ∷ [] → reverse xs ≡ x ∷ reverse ys
first_of_popped xs ys x e = ap reverse e ∙ reverse-append ys (x ∷ [])
