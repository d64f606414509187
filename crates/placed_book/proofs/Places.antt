-- The places of rows: what a look-up, a put and a cut among rows are among their places.
use Rattle.std.proofs.Common.{◌≡◌, ℕ, suc, ◌+◌, ◌==◌, Bool, true, false, not, cond, List, [], ◌∷◌, length, map, Some, option_map, refl, ap, sym, ◌∙◌, subst, arith, if◌then◌else◌}
use Rattle.ipam_data.specs.RowList.{row_at, with_row, without, Rises, AllBelow}
use Rattle.placed_book.proofs.RowPlaces.{eq_false}
use Rattle.placed_book.specs.Book.{Placed, placed_id}

module _ {T : Type 0} (id : T → ℕ) (placed : T → Placed) (same : (x : T) → (placed x).id ≡ id x) where
  same_test : (x : T) (n : ℕ) → ((placed x).id == n) ≡ (id x == n)
  same_test x n = ap (λ (k : ℕ). k == n) (same x)

  same_tests : (x y : T) → ((placed x).id == (placed y).id) ≡ (id x == id y)
  same_tests x y = ap (λ (k : ℕ). (placed x).id == k) (same y) ∙ ap (λ (k : ℕ). k == id y) (same x)

  pub places_at : (rows : List T) (n : ℕ) → row_at placed_id (map placed rows) n ≡ option_map placed (row_at id rows n)
  places_at [] n = refl
  places_at (x ∷ xs) n = go ((placed x).id == n) (id x == n) (same_test x n) (places_at xs n)
    where
      go : (s t : Bool) → s ≡ t → row_at placed_id (map placed xs) n ≡ option_map placed (row_at id xs n)
          → cond s (Some (placed x)) (row_at placed_id (map placed xs) n) ≡ option_map placed (cond t (Some x) (row_at id xs n))
      go true true e ih = refl
      go true false e ih = cc
      go false true e ih = cc
      go false false e ih = ih

  pub places_with : (rows : List T) (row : T) → with_row placed_id (map placed rows) (placed row) ≡ map placed (with_row id rows row)
  places_with [] row = refl
  places_with (x ∷ xs) row = go ((placed x).id == (placed row).id) (id x == id row) (same_tests x row) (places_with xs row)
    where
      go : (s t : Bool) → s ≡ t → with_row placed_id (map placed xs) (placed row) ≡ map placed (with_row id xs row)
          → (if s then placed row ∷ map placed xs else placed x ∷ with_row placed_id (map placed xs) (placed row)) ≡ map placed (if t then row ∷ xs else x ∷ with_row id xs row)
      go true true e ih = refl
      go true false e ih = cc
      go false true e ih = cc
      go false false e ih = ap (λ (ys : List Placed). placed x ∷ ys) ih

  pub places_without : (rows : List T) (n : ℕ) → without placed_id (map placed rows) n ≡ map placed (without id rows n)
  places_without [] n = refl
  places_without (x ∷ xs) n = go ((placed x).id == n) (id x == n) (same_test x n) (places_without xs n)
    where
      go : (s t : Bool) → s ≡ t → without placed_id (map placed xs) n ≡ map placed (without id xs n)
          → cond (not s) (placed x ∷ without placed_id (map placed xs) n) (without placed_id (map placed xs) n) ≡ map placed (cond (not t) (x ∷ without id xs n) (without id xs n))
      go true true e ih = ih
      go true false e ih = cc
      go false true e ih = cc
      go false false e ih = ap (λ (ys : List Placed). placed x ∷ ys) ih

  pub places_rise : (low : ℕ) (rows : List T) → Rises id low rows → Rises placed_id low (map placed rows)
  places_rise low [] r = tt
  places_rise low (x ∷ xs) r =
      let l = r.0 in let s = same x in
      (omega arith, subst (λ (k : ℕ). Rises placed_id k (map placed xs)) (sym (same x)) (places_rise (id x) xs r.1))

  pub places_count : (rows : List T) → length (map placed rows) ≡ length rows
  places_count [] = refl
  places_count (x ∷ xs) = ap suc (places_count xs)

-- rows that are all below a row are below the next id with it
pub below_with : {T : Type 0} (id : T → ℕ) (rows : List T) (row : T) → AllBelow id (id row) rows → AllBelow id (id row + 1) (with_row id rows row)
below_with id [] row h = (omega arith, tt)
below_with id (y ∷ ys) row h = (let less = h.0 in rw (eq_false (id y) (id row) (omega arith)) (omega arith, below_with id ys row h.1))
