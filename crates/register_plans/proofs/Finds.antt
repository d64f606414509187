-- What is looked for and gathered row by row.
use Rattle.std.proofs.Common.{◌≡◌, ℕ, zero, suc, ◌+◌, Bool, List, [], ◌∷◌, ◌++◌, map, filter, take, drop, find, Some, slice_get, get_or, true, false, refl, ap, sym, ◌∙◌, arith}
use Rattle.std.proofs.lemmas.List.{map-append}
use Rattle.std.proofs.lemmas.List.Elements.{filter-append}
use Rattle.std.proofs.lemmas.Option.{slice_get_within, get_or_from_slice_get}
use Rattle.std.proofs.Math.Seq.{take-suc}

module _ {T : Type 0} where
  drop_step : (xs : List T) (k : ℕ) (x : T) → slice_get xs k ≡ Some x → drop k xs ≡ x ∷ drop (suc k) xs
  drop_step [] k x e = cc
  drop_step (y ∷ ys) zero x e = let s : y ≡ x = cc in ap (λ (z : T). z ∷ ys) s
  drop_step (y ∷ ys) (suc k) x e = drop_step ys k x e

  -- the row at the index does not pass: what is looked for stands behind it
  pub find_next : (test : T → Bool) (xs : List T) (k : ℕ) (x : T) → slice_get xs k ≡ Some x → test x ≡ false → find test (drop k xs) ≡ find test (drop (k + 1) xs)
  find_next test xs k x e t = let next : k + 1 ≡ suc k = omega arith in rw (next, drop_step xs k x e, t) refl

  -- it passes: it is found
  pub find_this : (test : T → Bool) (xs : List T) (k : ℕ) (x : T) → slice_get xs k ≡ Some x → test x ≡ true → find test (drop k xs) ≡ Some x
  find_this test xs k x e t = rw (drop_step xs k x e, t) refl

  -- ---- rows that are gathered

  take_more : (xs : List T) (k : ℕ) (x : T) → slice_get xs k ≡ Some x → take (k + 1) xs ≡ take k xs ++ x ∷ []
  take_more xs k x e =
      let within = slice_get_within xs k x e in
      let next : k + 1 ≡ suc k = omega arith in
      let same : get_or xs k x ≡ x = get_or_from_slice_get xs k x x e in
      rw (next, take-suc xs k x within, same) refl

  -- those up to an index that pass, changed and seen, with that of the index
  pub gathered_more : {U : Type 0} (view : T → U) (f : T → T) (test : T → Bool) (xs : List T) (k : ℕ) (x : T) → slice_get xs k ≡ Some x
      → map view (map f (filter test (take k xs))) ++ map view (map f (filter test (x ∷ []))) ≡ map view (map f (filter test (take (k + 1) xs)))
  gathered_more view f test xs k x e =
      sym (ap (λ (ys : List T). map view (map f (filter test ys))) (take_more xs k x e)
      ∙ ap (λ (ys : List T). map view (map f ys)) (filter-append test (take k xs) (x ∷ []))
      ∙ ap (λ (ys : List T). map view ys) (map-append f (filter test (take k xs)) (filter test (x ∷ [])))
      ∙ map-append view (map f (filter test (take k xs))) (map f (filter test (x ∷ []))))
