-- Rows that are looked at one after another.
use Rattle.std.proofs.Common.{◌≡◌, ℕ, ◌+◌, List, [], ◌∷◌, ◌++◌, map, take, get_or, Some, slice_get, ap, sym, ◌∙◌, Contains}
use Rattle.std.proofs.lemmas.List.{map_more}
use Rattle.std.proofs.lemmas.Option.{slice_get_within, get_or_from_slice_get}

module _ {T : Type 0} where
  -- a row that is found at an index is one of the list
  pub found_is_there : (xs : List T) (k : ℕ) (x : T) → Some x ≡ slice_get xs k → Contains xs x
  found_is_there xs k x e = (k, slice_get_within xs k x (sym e), get_or_from_slice_get xs k x x (sym e))

  -- with it one more is made
  pub one_more_made : {U : Type 0} (f : T → U) (xs : List T) (k : ℕ) (x : T) (made : List U) (u : U) → Some x ≡ slice_get xs k → made ≡ map f (take k xs) → u ≡ f x → made ++ u ∷ [] ≡ map f (take (k + 1) xs)
  one_more_made {U} f xs k x made u e m is =
      let here : u ≡ f (get_or xs k x) = is ∙ ap f (sym (get_or_from_slice_get xs k x x (sym e))) in
      ap (λ (us : List U). us ++ u ∷ []) m ∙ ap (λ (v : U). map f (take k xs) ++ v ∷ []) here ∙ sym (map_more f xs k x (slice_get_within xs k x (sym e)))
