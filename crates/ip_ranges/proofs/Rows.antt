-- How many of the rows pass a test, with a row put in or taken out.
use Rattle.std.proofs.Common.{◌≡◌, ℕ, ◌+◌, ◌≤◌, ◌==◌, Bool, true, false, not, cond, List, [], ◌∷◌, Some, refl, ap, subst, ◌∙◌, arith, if◌then◌else◌, Contains}
use Rattle.std.specs.List.{count_by}
use Rattle.std.proofs.lemmas.Bool.Decides.{nat_tests}
use Rattle.ipam_data.specs.declared.range.IpRange.{IpRange}
use Rattle.ipam_data.specs.Rows.{range_id}
use Rattle.ipam_data.specs.RowList.{row_at, with_row, without, Rises, AllBelow}
use Rattle.ipam_data.proofs.RowLists.{contains_head, contains_rest}
use Rattle.placed_book.proofs.RowPlaces.{none_below, without_none, all_above}
use Rattle.ip_ranges.specs.Tracks.{one, one_of}
use Rattle.ip_ranges.proofs.Counts.{count_cons, count_yes, count_no, none_contained}

module _ (t : IpRange → Bool) where
  pub count_without : (low : ℕ) (rows : List IpRange) (n : ℕ) → Rises range_id low rows
      → count_by t (without range_id rows n) + one_of t (row_at range_id rows n) ≡ count_by t rows
  count_without low [] n r = refl
  count_without low (x ∷ xs) n r = go (x.id == n) refl (count_without x.id xs n r.1) where
    go : (s : Bool) → (x.id == n) ≡ s → count_by t (without range_id xs n) + one_of t (row_at range_id xs n) ≡ count_by t xs
        → count_by t (cond (not s) (x ∷ without range_id xs n) (without range_id xs n)) + one_of t (cond s (Some x) (row_at range_id xs n)) ≡ count_by t (x ∷ xs)
    go true s ih =
        let id_is : x.id ≡ n = grind (arith, nat_tests, s) in
        let none = ap (count_by t) (without_none range_id xs n (none_below range_id x.id n xs r.1 (omega arith))) in
        let a = count_cons t x xs in
        omega arith
    go false s ih =
        let a = count_cons t x xs in
        let b = count_cons t x (without range_id xs n) in
        omega arith

  pub count_with : (rows : List IpRange) (row : IpRange) → count_by t (with_row range_id rows row) + one_of t (row_at range_id rows row.id) ≡ count_by t rows + one (t row)
  count_with [] row = let a = count_cons t row [] in omega arith
  count_with (x ∷ xs) row = go (x.id == row.id) (count_with xs row) where
    go : (s : Bool) → count_by t (with_row range_id xs row) + one_of t (row_at range_id xs row.id) ≡ count_by t xs + one (t row)
        → count_by t (if s then row ∷ xs else x ∷ with_row range_id xs row) + one_of t (cond s (Some x) (row_at range_id xs row.id)) ≡ count_by t (x ∷ xs) + one (t row)
    go true ih =
        let a = count_cons t x xs in
        let b = count_cons t row xs in
        omega arith
    go false ih =
        let a = count_cons t x xs in
        let b = count_cons t x (with_row range_id xs row) in
        omega arith

  -- a row that is found and passes is counted
  pub at_least_once : (rows : List IpRange) (n : ℕ) (x : IpRange) → row_at range_id rows n ≡ Some x → t x ≡ true → 1 ≤ count_by t rows
  at_least_once [] n x e p = cc
  at_least_once (y ∷ ys) n x e p = go (y.id == n) e (at_least_once ys n x) where
    go : (s : Bool) → cond s (Some y) (row_at range_id ys n) ≡ Some x → (row_at range_id ys n ≡ Some x → t x ≡ true → 1 ≤ count_by t ys) → 1 ≤ count_by t (y ∷ ys)
    go true e ih = let is : y ≡ x = cc in let a = count_yes t y ys (ap t is ∙ p) in omega arith
    go false e ih = let a = count_cons t y ys in let b = ih e p in omega arith

  -- rows that pass only where they are one are at most one
  pub at_most_once : (low : ℕ) (rows : List IpRange) → Rises range_id low rows
      → ((x y : IpRange) → Contains rows x → Contains rows y → t x ≡ true → t y ≡ true → x.id ≡ y.id) → count_by t rows ≤ 1
  at_most_once low [] r h = omega arith
  at_most_once low (x ∷ xs) r h = go (t x) refl (at_most_once x.id xs r.1 (λ y z c d. h y z (contains_rest x y xs c) (contains_rest x z xs d))) where
    other : t x ≡ true → (y : IpRange) → Contains xs y → (s : Bool) → t y ≡ s → t y ≡ false
    other e y c true s =
        let same = h x y (contains_head x xs) (contains_rest x y xs c) e s in
        let above = all_above range_id x.id xs c.0 y r.1 c.1 in
        let at = ap range_id c.2 in
        absurd (omega arith)
    other e y c false s = s

    go : (s : Bool) → t x ≡ s → count_by t xs ≤ 1 → count_by t (x ∷ xs) ≤ 1
    go true s ih = let a = count_yes t x xs s in let b = none_contained t xs (λ y c. other s y c (t y) refl) in omega arith
    go false s ih = let a = count_no t x xs s in omega arith

-- a row that is found is one
pub found_there : (rows : List IpRange) (n : ℕ) (x : IpRange) → row_at range_id rows n ≡ Some x → Contains rows x
found_there [] n x e = cc
found_there (y ∷ ys) n x e = go (y.id == n) e (found_there ys n x) where
  go : (t : Bool) → cond t (Some y) (row_at range_id ys n) ≡ Some x → (row_at range_id ys n ≡ Some x → Contains ys x) → Contains (y ∷ ys) x
  go true e ih = (let is : y ≡ x = cc in subst (Contains (y ∷ ys)) is (contains_head y ys))
  go false e ih = contains_rest y x ys (ih e)

-- a row above all, put in, is the last
pub below_with : (rows : List IpRange) (row : IpRange) → AllBelow range_id row.id rows → AllBelow range_id (row.id + 1) (with_row range_id rows row)
below_with [] row h = (omega arith, tt)
below_with (x ∷ xs) row h = go (x.id == row.id) refl (below_with xs row h.1) where
  go : (t : Bool) → (x.id == row.id) ≡ t → AllBelow range_id (row.id + 1) (with_row range_id xs row) → AllBelow range_id (row.id + 1) (if t then row ∷ xs else x ∷ with_row range_id xs row)
  go true t ih = (let l = h.0 in let e : x.id ≡ row.id = grind (arith, nat_tests, t) in absurd (omega arith))
  go false t ih = (let l = h.0 in omega arith, ih)
