-- A row in its place, by the index of the place.
use Rattle.std.proofs.Common.{subst, ◌≡◌, ℕ, zero, suc, ◌+◌, ◌<◌, ◌≤◌, ◌==◌, nat_lt, Bool, true, false, cond, List, [], ◌∷◌, ◌++◌, length, take, drop, get_or, Some, None, refl, ap, sym, ◌∙◌, arith, add-one, if◌then◌else◌}
use Rattle.std.specs.List.{slice_set}
use Rattle.std.proofs.lemmas.Bool.Decides.{nat_tests}
use Rattle.ipam_data.specs.RowList.{row_at, placed, Rises}
use Rattle.ipam_data.proofs.RowLists.{eq_true, eq_false}
use Rattle.ipam_data.proofs.Placed.{lt_true, lt_false, is_ne, is_eq, is_lt}
use Rattle.placed_book.specs.RowBook.{place, IsAt}
use Rattle.placed_book.proofs.RowPlaces.{any_default}

module _ {T : Type 0} (id : T → ℕ) where
  -- where no row has the id, the row comes before the first whose id is above
  pub placed_new : (low : ℕ) (rows : List T) (row : T) → Rises id low rows → row_at id rows (id row) ≡ None → placed id rows row ≡ take (place id (id row) rows) rows ++ row ∷ drop (place id (id row) rows) rows
  placed_new low [] row r n = refl
  placed_new low (x ∷ xs) row r n = go (nat_lt (id x) (id row)) refl (id x == id row) refl n (placed_new (id x) xs row r.1)
    where
      go : (t : Bool) → nat_lt (id x) (id row) ≡ t → (u : Bool) → (id x == id row) ≡ u → cond u (Some x) (row_at id xs (id row)) ≡ None
          → (row_at id xs (id row) ≡ None → placed id xs row ≡ take (place id (id row) xs) xs ++ row ∷ drop (place id (id row) xs) xs)
          → (if u then row ∷ xs else (if nat_lt (id row) (id x) then row ∷ x ∷ xs else x ∷ placed id xs row))
          ≡ take (if t then place id (id row) xs + 1 else 0) (x ∷ xs) ++ row ∷ drop (if t then place id (id row) xs + 1 else 0) (x ∷ xs)
      go t k true u n ih = cc
      go true k false u n ih =
          let l : id x < id row = grind (arith, nat_tests, k) in
          rw (lt_false (id row) (id x) (omega arith), add-one) (ap (λ (zs : List T). x ∷ zs) (ih n))
      go false k false u n ih =
          let d = is_ne (id x) (id row) u in
          let l : id row ≤ id x = grind (arith, nat_tests, k) in
          let s : id row < id x = omega arith in
          rw (lt_true (id row) (id x) s) refl

  above_at : (low k : ℕ) (rows : List T) (y : T) → Rises id low rows → k < length rows → get_or rows k y ≡ y → low < id y
  above_at low k [] y r h g = absurd (omega arith)
  above_at low zero (x ∷ xs) y r h g = let l = r.0 in let e = ap id g in omega arith
  above_at low (suc k) (x ∷ xs) y r h g = let l = r.0 in let a = above_at (id x) k xs y r.1 (omega arith) g in omega arith

  -- where a row has the id, the row comes in its place
  pub placed_same : (low k : ℕ) (rows : List T) (row y : T) → Rises id low rows → k < length rows → get_or rows k y ≡ y → id y ≡ id row → placed id rows row ≡ slice_set rows k row
  placed_same low k [] row y r h g e = absurd (omega arith)
  placed_same low zero (x ∷ xs) row y r h g e = rw (eq_true (id x) (id row) (ap id g ∙ e)) refl
  placed_same low (suc k) (x ∷ xs) row y r h g e =
      let a = above_at (id x) k xs y r.1 (omega arith) g in
      rw (eq_false (id x) (id row) (omega arith), lt_false (id row) (id x) (omega arith)) (ap (λ (zs : List T). x ∷ zs) (placed_same (id x) k xs row y r.1 (omega arith) g e))

  -- and the rows stand in order after it
  pub rises_placed : (low : ℕ) (rows : List T) (row : T) → Rises id low rows → low < id row → Rises id low (placed id rows row)
  rises_placed low [] row r l = (l, tt)
  rises_placed low (x ∷ xs) row r l = go (id x == id row) refl (nat_lt (id row) (id x)) refl (rises_placed (id x) xs row r.1)
    where
      go : (t : Bool) → (id x == id row) ≡ t → (u : Bool) → nat_lt (id row) (id x) ≡ u → (id x < id row → Rises id (id x) (placed id xs row))
          → Rises id low (if t then row ∷ xs else (if u then row ∷ x ∷ xs else x ∷ placed id xs row))
      go true k u v ih = (l, subst (λ (n : ℕ). Rises id n xs) (is_eq (id x) (id row) k) r.1)
      go false k true v ih = (l, (is_lt (id row) (id x) v, r.1))
      go false k false v ih =
          let d = is_ne (id x) (id row) k in
          let g : id x ≤ id row = grind (arith, nat_tests, v) in
          (r.0, ih (omega arith))

  -- a row in the place of the one of its id
  pub placed_here : (rows : List T) (row : T) (n k : ℕ) → Rises id 0 rows → n ≡ id row → IsAt id rows n k → placed id rows row ≡ slice_set rows k row
  placed_here rows row n k r e h =
      placed_same 0 k rows row (get_or rows k row) r h.within (any_default id rows k (get_or rows k row) row h.within) (h.same row ∙ e)

  -- what an insertion at the place of a new row gives
  pub inserted : (items new : List T) (row : T) (here at : ℕ) → here ≡ id row → at ≡ place id here items → row_at id items here ≡ None → Rises id 0 items
      → new ≡ take at items ++ row ∷ drop at items → new ≡ placed id items row
  inserted items new row here at h a n r e =
      let p = a ∙ ap (λ (k : ℕ). place id k items) h in
      let none = subst (λ (k : ℕ). row_at id items k ≡ None) h n in
      e ∙ ap (λ (k : ℕ). take k items ++ row ∷ drop k items) p ∙ sym (placed_new 0 items row r none)
