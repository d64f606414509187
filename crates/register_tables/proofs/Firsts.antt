-- Of two lists of checks the first that refuses decides.
use Rattle.std.proofs.Common.{◌≡◌, List, [], ◌∷◌, ◌++◌, Option, Some, None, refl}
use Rattle.ipam_data.specs.Checks.{first}

pub head_refuses : {A : Type 0} (xs ys : List (Option A)) (x : A) → first xs ≡ Some x → first (xs ++ ys) ≡ Some x
head_refuses [] ys x e = cc
head_refuses (None ∷ xs) ys x e = head_refuses xs ys x e
head_refuses (Some y ∷ xs) ys x e = e

pub head_passes : {A : Type 0} (xs ys : List (Option A)) → first xs ≡ None → first (xs ++ ys) ≡ first ys
head_passes [] ys e = refl
head_passes (None ∷ xs) ys e = head_passes xs ys e
head_passes (Some x ∷ xs) ys e = cc
