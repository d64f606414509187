-- A page, built row by row.
use Rattle.std.proofs.Common.{◌≡◌, ℕ, zero, suc, ◌+◌, ◌-◌, ◌&&◌, Bool, true, false, nat_le, nat_lt, List, [], ◌∷◌, ◌++◌, length, map, take, drop, filter, Some, slice_get, get_or, if◌then◌else◌, refl, ap, sym, ◌∙◌, arith}
use Rattle.std.specs.List.{count_by}
use Rattle.std.proofs.lemmas.List.{append-nil, map-append}
use Rattle.std.proofs.lemmas.List.Sums.{sum_by-append, length-filter}
use Rattle.std.proofs.lemmas.Option.{slice_get_within, get_or_from_slice_get}
use Rattle.std.proofs.Math.Seq.{take-suc}
use Rattle.std.proofs.lemmas.Bool.Decides.{nat_tests}
use Rattle.std.proofs.lemmas.List.Elements.{filter-append}
use Rattle.ipam_data.specs.RowList.{page}
use Rattle.ipam_data.specs.Pages.{is_paged, one_if, only_if, page_of}

lt_zero : (n : ℕ) → nat_lt n 0 ≡ false
lt_zero n = grind (arith, nat_tests)

zero_lt : (n : ℕ) → nat_lt 0 (suc n) ≡ true
zero_lt n = grind (arith, nat_tests)

lt_suc : (a b : ℕ) → nat_lt (suc a) (suc b) ≡ nat_lt a b
lt_suc a b = go (nat_lt a b) refl
  where
    go : (t : Bool) → nat_lt a b ≡ t → nat_lt (suc a) (suc b) ≡ t
    go true e = grind (arith, nat_tests, e)
    go false e = grind (arith, nat_tests, e)

paged_zero : (n limit : ℕ) → is_paged n limit 0 ≡ nat_lt n limit
paged_zero n limit = let a : nat_le 0 n ≡ true = grind (arith, nat_tests) in let b : n - 0 ≡ n = omega arith in rw (a, b) refl

paged_none : (limit offset : ℕ) → is_paged 0 limit (suc offset) ≡ false
paged_none limit offset = let a : nat_le (suc offset) 0 ≡ false = grind (arith, nat_tests) in rw a refl

paged_suc : (n limit offset : ℕ) → is_paged (suc n) limit (suc offset) ≡ is_paged n limit offset
paged_suc n limit offset = let d : suc n - suc offset ≡ n - offset = omega arith in rw (le_suc offset n, d) refl
  where
    le_suc : (a b : ℕ) → nat_le (suc a) (suc b) ≡ nat_le a b
    le_suc a b = go (nat_le a b) refl
      where
        go : (t : Bool) → nat_le a b ≡ t → nat_le (suc a) (suc b) ≡ t
        go true e = grind (arith, nat_tests, e)
        go false e = grind (arith, nat_tests, e)

only_map : {T U : Type 0} (f : T → U) (b : Bool) (x : T) → map f (only_if b x) ≡ only_if b (f x)
only_map f true x = refl
only_map f false x = refl

module _ {T : Type 0} where
  take_more : (xs : List T) (k : ℕ) (x : T) → slice_get xs k ≡ Some x → take (k + 1) xs ≡ take k xs ++ x ∷ []
  take_more xs k x e =
      let within = slice_get_within xs k x e in
      let next : k + 1 ≡ suc k = omega arith in
      let same : get_or xs k x ≡ x = get_or_from_slice_get xs k x x e in
      rw (next, take-suc xs k x within, same) refl

  count_more : (test : T → Bool) (xs : List T) (x : T) → count_by test (xs ++ x ∷ []) ≡ count_by test xs + one_if (test x)
  count_more test xs x =
      let e = sum_by-append (λ (y : T). if test y then 1 else 0) xs (x ∷ []) in
      let one : 0 + one_if (test x) ≡ one_if (test x) = omega arith in
      e ∙ ap (λ (k : ℕ). count_by test xs + k) one

  take_append : (limit : ℕ) (xs : List T) (x : T) → take limit (xs ++ x ∷ []) ≡ take limit xs ++ only_if (nat_lt (length xs) limit) x
  take_append zero [] x = refl
  take_append zero (y ∷ ys) x = rw (lt_zero (length (y ∷ ys))) refl
  take_append (suc limit) [] x = rw (zero_lt limit) (ap (λ (zs : List T). x ∷ zs) (take_none limit))
    where
      take_none : (n : ℕ) → take {A = T} n [] ≡ []
      take_none zero = refl
      take_none (suc n) = refl
  take_append (suc limit) (y ∷ ys) x = rw (lt_suc (length ys) limit) (ap (λ (zs : List T). y ∷ zs) (take_append limit ys x))

  none_taken : (limit offset : ℕ) → take limit (drop {A = T} offset []) ≡ []
  none_taken zero zero = refl
  none_taken zero (suc offset) = refl
  none_taken (suc limit) zero = refl
  none_taken (suc limit) (suc offset) = refl

  -- a row more on the page, where it stands on it
  page_more : (limit offset : ℕ) (xs : List T) (x : T) → page limit offset (xs ++ x ∷ []) ≡ page limit offset xs ++ only_if (is_paged (length xs) limit offset) x
  page_more limit zero xs x = rw (paged_zero (length xs) limit) (take_append limit xs x)
  page_more limit (suc offset) [] x = rw (paged_none limit offset) (none_taken limit offset ∙ sym (append-nil (take limit []) ∙ none_taken limit zero))
  page_more limit (suc offset) (y ∷ ys) x = rw (paged_suc (length ys) limit offset) (page_more limit offset ys x)

  -- ---- a row more

  pub met_next : (test : T → Bool) (seen : List T) (met : ℕ) (x : T) → met ≡ count_by test seen → met + one_if (test x) ≡ count_by test (seen ++ x ∷ [])
  met_next test seen met x m = rw (count_more test seen x, m) refl

  pub views_next : {U : Type 0} (view : T → U) (test : T → Bool) (limit offset : ℕ) (seen : List T) (met : ℕ) (x : T) (views : List U) → met ≡ count_by test seen
      → views ≡ page_of view test limit offset seen → views ++ only_if (test x && is_paged met limit offset) (view x) ≡ page_of view test limit offset (seen ++ x ∷ [])
  views_next {U} view test limit offset seen met x views m v = go (test x) (ap (λ (ys : List T). map view (page limit offset ys)) (filter-append test seen (x ∷ [])))
    where
      n : length (filter test seen) ≡ met
      n = length-filter test seen ∙ sym m

      go : (t : Bool) → page_of view test limit offset (seen ++ x ∷ []) ≡ map view (page limit offset (filter test seen ++ only_if t x))
          → views ++ only_if (t && is_paged met limit offset) (view x) ≡ page_of view test limit offset (seen ++ x ∷ [])
      go false w = append-nil views ∙ v ∙ sym (w ∙ ap (λ (ys : List T). map view (page limit offset ys)) (append-nil (filter test seen)))
      go true w =
          let old : List T = page limit offset (filter test seen) in
          sym (w ∙ ap (λ (ys : List T). map view ys) (page_more limit offset (filter test seen) x)
          ∙ map-append view old (only_if (is_paged (length (filter test seen)) limit offset) x)
          ∙ ap (λ (b : ℕ). map view old ++ map view (only_if (is_paged b limit offset) x)) n
          ∙ ap (λ (zs : List U). map view old ++ zs) (only_map view (is_paged met limit offset) x)
          ∙ ap (λ (ys : List U). ys ++ only_if (is_paged met limit offset) (view x)) (sym v))

  -- the count and the page of the rows up to an index, with that of the index
  pub met_more : (test : T → Bool) (xs : List T) (k met : ℕ) (x : T) → slice_get xs k ≡ Some x → met ≡ count_by test (take k xs)
      → met + one_if (test x) ≡ count_by test (take (k + 1) xs)
  met_more test xs k met x e m = met_next test (take k xs) met x m ∙ ap (λ (ys : List T). count_by test ys) (sym (take_more xs k x e))

  pub views_more : {U : Type 0} (view : T → U) (test : T → Bool) (limit offset : ℕ) (xs : List T) (k met : ℕ) (x : T) (views : List U) → slice_get xs k ≡ Some x → met ≡ count_by test (take k xs)
      → views ≡ page_of view test limit offset (take k xs)
      → views ++ only_if (test x && is_paged met limit offset) (view x) ≡ page_of view test limit offset (take (k + 1) xs)
  views_more view test limit offset xs k met x views e m v =
      views_next view test limit offset (take k xs) met x views m v ∙ ap (λ (ys : List T). page_of view test limit offset ys) (sym (take_more xs k x e))
