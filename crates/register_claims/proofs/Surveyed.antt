-- Lines in the order of their places are the survey.
use Rattle.std.proofs.Common.{◌≡◌, ℕ, ◌+◌, ◌<◌, List, [], ◌∷◌, map, take, get_or, Some, slice_get, refl, ap, sym, subst, ◌∙◌, arith, ◌++◌, Contains, IsPermutation, inl, inr}
use Rattle.std.specs.List.{All}
use Rattle.std.specs.List.Sorted.{IsSortedByKey}
use Rattle.std.proofs.lemmas.List.{map_more}
use Rattle.std.proofs.lemmas.List.Elements.{All-map, recursion_from_All, Contains-get_or}
use Rattle.std.proofs.lemmas.List.Sorted.{IsPermutation-sym, IsPermutation-trans, IsPermutation-map, All-permutation}
use Rattle.std.proofs.lemmas.Option.{slice_get_within, get_or_from_slice_get}
use Rattle.inet_num.proofs.Numbers.{width_small, width_fits}
use Rattle.ipam_data.specs.declared.prefix.Prefix.{Prefix}
use Rattle.ipam_data.specs.RowList.{Rises, AllBelow}
use Rattle.ipam_data.specs.Rows.{prefix_id}
use Rattle.ipam_data.specs.State.{State}
use Rattle.ipam_data.specs.Lawful.{IsLawful, IsPrefix}
use Rattle.ipam_data.proofs.RowLists.{contains_cases}
use Rattle.ipam_data.specs.Survey.{survey_place, surveyed, survey_of}
use Rattle.ipam_data.proofs.SurveyWhole.{whole}
use Rattle.register_claims.specs.declared.surveys.line.Placed.{Placed}
use Rattle.register_claims.specs.PlaceDigits.{digits_cmp, place_digits, placed_row}
use Rattle.register_claims.proofs.OneOrder.{one_order}
use Rattle.register_claims.proofs.PlaceNumbers.{number_of, AreDigits, climbs}

module _ {T : Type 0} where
  -- a row that is found at an index is one of the list
  pub found_is_there : (xs : List T) (k : ℕ) (x : T) → Some x ≡ slice_get xs k → Contains xs x
  found_is_there xs k x e = (k, slice_get_within xs k x (sym e), get_or_from_slice_get xs k x x (sym e))

  -- with it one more is made
  pub one_more_made : {U : Type 0} (f : T → U) (xs : List T) (k : ℕ) (x : T) (made : List U) (u : U) → Some x ≡ slice_get xs k → made ≡ map f (take k xs) → u ≡ f x → made ++ u ∷ [] ≡ map f (take (k + 1) xs)
  one_more_made {U} f xs k x made u e m is =
      let here : u ≡ f (get_or xs k x) = is ∙ ap f (sym (get_or_from_slice_get xs k x x (sym e))) in
      ap (λ (us : List U). us ++ u ∷ []) m ∙ ap (λ (v : U). map f (take k xs) ++ v ∷ []) here ∙ sym (map_more f xs k x (slice_get_within xs k x (sym e)))

-- the lines of rows, without what stands beside them
mapped_twice : {A B C : Type 0} (f : B → C) (g : A → B) (xs : List A) → map f (map g xs) ≡ map (λ (x : A). f (g x)) xs
mapped_twice f g [] = refl
mapped_twice f g (x ∷ xs) = ap (λ ys. f (g x) ∷ ys) (mapped_twice f g xs)

-- ---- the place of a prefix

place_is : (row : Prefix) → number_of (place_digits row) ≡ survey_place row
place_is row = omega arith

below : (high : ℕ) (rows : List Prefix) (row : Prefix) → AllBelow prefix_id high rows → Contains rows row → prefix_id row < high
below high [] row b c = let h = c.1 in absurd (omega arith)
below high (x ∷ xs) row b c = elim (contains_cases x row xs c) [
  | inl e ↦ (let h = b.0 in let same : prefix_id x ≡ prefix_id row = ap prefix_id e in omega arith)
  | inr d ↦ below high xs row b.1 d
]

place_fits : (row : Prefix) → IsPrefix row → row.id < 4294967296 → AreDigits (place_digits row)
place_fits row p i =
    let block = p.bounds.block in
    let first = block.in_range in
    let short = block.short in
    let wide = width_small row.block.family in
    let room = width_fits row.block.family in
    record { middle = omega arith; last = omega arith }

fit_all : (s : State) → IsLawful s → All (λ (p : Placed). AreDigits p.place) (map (placed_row s) s.prefixes.rows)
fit_all s l =
    let rows = s.prefixes.rows in
    let row_list = l.prefixes.row_list in
    All-map (λ (p : Placed). AreDigits p.place) (placed_row s) rows (λ k d within.
    (let there = Contains-get_or rows k d within in
    let low = below s.prefixes.next rows (get_or rows k d) row_list.below there in
    let fits = row_list.next_fits in
    place_fits (get_or rows k d) (l.prefixes.each (get_or rows k d) there) (omega arith)))

-- ---- in the order of places

rises_made : (s : State) (low : ℕ) (rows : List Prefix) → Rises survey_place low rows → Rises (λ (p : Placed). number_of p.place) low (map (placed_row s) rows)
rises_made s low [] r = tt
rises_made s low (row ∷ rows) r =
    let is = place_is row in
    let above = r.0 in
    (omega arith, subst (λ (k : ℕ). Rises (λ (p : Placed). number_of p.place) k (map (placed_row s) rows)) (sym is) (rises_made s (survey_place row) rows r.1))

pub survey_is : (s : State) (sorted : List Placed) → IsLawful s → IsPermutation (map (placed_row s) s.prefixes.rows) sorted → IsSortedByKey (λ (p : Placed). p.place) digits_cmp sorted
    → map (λ (p : Placed). p.line) sorted ≡ survey_of s
survey_is s sorted l same up =
    let rows = s.prefixes.rows in
    let survey = whole s l in
    let ordered = rises_made s 0 (surveyed rows) survey.ordered in
    let fit = recursion_from_All (λ (p : Placed). AreDigits p.place) sorted (All-permutation (λ (p : Placed). AreDigits p.place) (map (placed_row s) rows) sorted same (fit_all s l)) in
    let one = IsPermutation-trans (map (placed_row s) (surveyed rows)) (map (placed_row s) rows) sorted (IsPermutation-sym (map (placed_row s) rows) (map (placed_row s) (surveyed rows)) (IsPermutation-map (placed_row s) rows (surveyed rows) survey.all)) same in
    let is : sorted ≡ map (placed_row s) (surveyed rows) =
    one_order (λ (p : Placed). number_of p.place) 0 0 (map (placed_row s) (surveyed rows)) sorted ordered (climbs (λ (p : Placed). p.place) sorted up fit) one in
    ap (λ (ps : List Placed). map (λ (p : Placed). p.line) ps) is ∙ mapped_twice (λ (p : Placed). p.line) (placed_row s) (surveyed rows)
