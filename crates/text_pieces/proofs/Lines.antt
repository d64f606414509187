-- Lines that are put one after another: one for each element of a list.
use Rattle.std.proofs.Common.{◌≡◌, ℕ, ◌+◌, ◌<◌, sym, ◌∙◌, ap, subst, List, [], ◌∷◌, ◌++◌, Option, append-nil, length, take, drop, get_or, take-append-drop}
use Rattle.std.specs.List.{flat_map}
use Rattle.std.proofs.lemmas.Grind.{flat_map-append}
use Rattle.std.proofs.lemmas.List.{take_more}
use Rattle.ipam_edge.specs.Writing.{AppendsFront}
use Rattle.text_pieces.specs.Pieces.{Passes}
use Rattle.text_pieces.proofs.Passing.{passes_both, front_both, front_first}

module _ {X : Type 0} (line : X → List ℕ) (xs : List X) (i : ℕ) (x d : X) (less : i < length xs) (is : x ≡ get_or xs i d) where
  -- the text of one more
  text_more : flat_map line (take (i + 1) xs) ≡ flat_map line (take i xs) ++ line x
  text_more =
      ap (flat_map line) (take_more xs i d less ∙ ap (λ (y : X). take i xs ++ y ∷ []) (sym is))
      ∙ flat_map-append line (take i xs) (x ∷ [])
      ∙ ap (λ (t : List ℕ). flat_map line (take i xs) ++ t) (append-nil (line x))

  -- the text of some begins that of all
  text_front : flat_map line (take (i + 1) xs) ++ flat_map line (drop (i + 1) xs) ≡ flat_map line xs
  text_front = sym (flat_map-append line (take (i + 1) xs) (drop (i + 1) xs)) ∙ ap (flat_map line) (take-append-drop (i + 1) xs)

  -- the line of one more was put
  pub passes_more : (a b c : Option (List ℕ)) (p q r : List ℕ) → Passes a b p q (flat_map line (take i xs)) → Passes b c q r (line x)
      → Passes a c p r (flat_map line (take (i + 1) xs))
  passes_more a b c p q r h k = subst (λ (t : List ℕ). Passes a c p r t) (sym text_more) (passes_both a b c p q r (flat_map line (take i xs)) (line x) h k)

  -- or a front of it was written
  pub front_more : (a b c : Option (List ℕ)) (p q : List ℕ) → Passes a b p q (flat_map line (take i xs)) → AppendsFront b c (q ++ line x)
      → AppendsFront a c (p ++ flat_map line xs)
  front_more a b c p q h k =
      let here = front_both a b c p q (flat_map line (take i xs)) (line x) h k in
      let begun : AppendsFront a c (p ++ flat_map line (take (i + 1) xs)) = subst (λ (t : List ℕ). AppendsFront a c (p ++ t)) (sym text_more) here in
      subst (λ (t : List ℕ). AppendsFront a c (p ++ t)) text_front (front_first a c p (flat_map line (take (i + 1) xs)) (flat_map line (drop (i + 1) xs)) begun)
