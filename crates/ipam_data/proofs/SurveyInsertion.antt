-- Rows that are put one after another in the order of their numbers: none is lost, and the numbers rise.
use Rattle.std.proofs.Common.{◌≡◌, ◌≢◌, ℕ, ◌<◌, Bool, true, false, List, [], ◌∷◌, ◌++◌, fold, refl, arith, nat_lt, ◌==◌, IsPermutation, if◌then◌else◌}
use Rattle.std.proofs.lemmas.Bool.Decides.{nat_tests}
use Rattle.std.proofs.lemmas.List.Sorted.{IsPermutation-refl, IsPermutation-sym, IsPermutation-trans, IsPermutation-cons, IsPermutation-middle, IsPermutation-append_right}
use Rattle.ipam_data.specs.RowList.{placed, Rises}

module _ {T : Type 0} (id : T → ℕ) where
  -- no row of the list has the row's number
  abbrev pub Absent : List T → T → Type 0
  Absent [] row = Unit {0}
  Absent (x ∷ xs) row = (id x ≢ id row) × Absent xs row

  -- the row has another number than each of these
  abbrev pub AllOther : T → List T → Type 0
  AllOther row [] = Unit {0}
  AllOther row (y ∷ ys) = (id row ≢ id y) × AllOther row ys

  -- no two have one number
  abbrev pub AreApart : List T → Type 0
  AreApart [] = Unit {0}
  AreApart (row ∷ rows) = AllOther row rows × AreApart rows

  abbrev AllAbsent : List T → List T → Type 0
  AllAbsent xs [] = Unit {0}
  AllAbsent xs (row ∷ rows) = Absent xs row × AllAbsent xs rows

  -- each number is above this one
  abbrev pub AllAbove : ℕ → List T → Type 0
  AllAbove low [] = Unit {0}
  AllAbove low (row ∷ rows) = (low < id row) × AllAbove low rows

  -- ---- one row

  same_number : (x row : T) → (id x == id row) ≡ true → id x ≡ id row
  same_number x row t = grind (arith, nat_tests, t)

  perm_placed : (xs : List T) (row : T) → Absent xs row → IsPermutation (row ∷ xs) (placed id xs row)
  perm_placed [] row a = IsPermutation-refl (row ∷ [])
  perm_placed (x ∷ xs) row a = go (id x == id row) refl (nat_lt (id row) (id x)) (perm_placed xs row a.1)
    where
      go : (t : Bool) → (id x == id row) ≡ t → (u : Bool) → IsPermutation (row ∷ xs) (placed id xs row)
          → IsPermutation (row ∷ x ∷ xs) (if t then row ∷ xs else (if u then row ∷ x ∷ xs else x ∷ placed id xs row))
      go true t u ih = absurd (a.0 (same_number x row t))
      go false t true ih = IsPermutation-refl (row ∷ x ∷ xs)
      go false t false ih =
          IsPermutation-trans (row ∷ x ∷ xs) (x ∷ row ∷ xs) (x ∷ placed id xs row) (IsPermutation-middle (row ∷ []) x xs) (IsPermutation-cons x (row ∷ xs) (placed id xs row) ih)

  is_below : (x row : T) → nat_lt (id row) (id x) ≡ true → id row < id x
  is_below x row u = grind (arith, nat_tests, u)

  is_above : (x row : T) → nat_lt (id row) (id x) ≡ false → id x ≢ id row → id x < id row
  is_above x row u n = go (nat_lt (id x) (id row)) refl
    where
      go : (t : Bool) → nat_lt (id x) (id row) ≡ t → id x < id row
      go true t = grind (arith, nat_tests, t)
      go false t = absurd (n (grind (arith, nat_tests, t, u)))

  rises_placed : (low : ℕ) (xs : List T) (row : T) → Rises id low xs → low < id row → Absent xs row → Rises id low (placed id xs row)
  rises_placed low [] row r l a = (l, tt)
  rises_placed low (x ∷ xs) row r l a = go (id x == id row) refl (nat_lt (id row) (id x)) refl (λ (h : id x < id row). rises_placed (id x) xs row r.1 h a.1)
    where
      go : (t : Bool) → (id x == id row) ≡ t → (u : Bool) → nat_lt (id row) (id x) ≡ u → (id x < id row → Rises id (id x) (placed id xs row))
          → Rises id low (if t then row ∷ xs else (if u then row ∷ x ∷ xs else x ∷ placed id xs row))
      go true t u v ih = absurd (a.0 (same_number x row t))
      go false t true v ih = (l, (is_below x row v, r.1))
      go false t false v ih = (r.0, ih (is_above x row v a.0))

  absent_placed : (xs : List T) (row other : T) → Absent xs other → id row ≢ id other → Absent (placed id xs row) other
  absent_placed [] row other a n = (n, tt)
  absent_placed (x ∷ xs) row other a n = go (id x == id row) (nat_lt (id row) (id x)) (absent_placed xs row other a.1 n)
    where
      go : (t u : Bool) → Absent (placed id xs row) other → Absent (if t then row ∷ xs else (if u then row ∷ x ∷ xs else x ∷ placed id xs row)) other
      go true u ih = (n, a.1)
      go false true ih = (n, (a.0, a.1))
      go false false ih = (a.0, ih)

  all_absent : (xs : List T) (row : T) (rows : List T) → AllAbsent xs rows → AllOther row rows → AllAbsent (placed id xs row) rows
  all_absent xs row [] a o = tt
  all_absent xs row (y ∷ ys) a o = (absent_placed xs row y a.0 o.0, all_absent xs row ys a.1 o.1)

  -- ---- all rows

  perm_all : (xs rows : List T) → AllAbsent xs rows → AreApart rows → IsPermutation (rows ++ xs) (fold (placed id) xs rows)
  perm_all xs [] a p = IsPermutation-refl xs
  perm_all xs (row ∷ rows) a p =
      let one : IsPermutation (row ∷ (rows ++ xs)) (rows ++ row ∷ xs) = IsPermutation-sym (rows ++ row ∷ xs) (row ∷ (rows ++ xs)) (IsPermutation-middle rows row xs) in
      let two : IsPermutation (rows ++ row ∷ xs) (rows ++ placed id xs row) = IsPermutation-append_right rows (row ∷ xs) (placed id xs row) (perm_placed xs row a.0) in
      IsPermutation-trans (row ∷ (rows ++ xs)) (rows ++ placed id xs row) (fold (placed id) (placed id xs row) rows)
      (IsPermutation-trans (row ∷ (rows ++ xs)) (rows ++ row ∷ xs) (rows ++ placed id xs row) one two)
      (perm_all (placed id xs row) rows (all_absent xs row rows a.1 p.0) p.1)

  pub rises_all : (low : ℕ) (xs rows : List T) → Rises id low xs → AllAbove low rows → AllAbsent xs rows → AreApart rows → Rises id low (fold (placed id) xs rows)
  rises_all low xs [] r h a p = r
  rises_all low xs (row ∷ rows) r h a p = rises_all low (placed id xs row) rows (rises_placed low xs row r h.0 a.0) h.1 (all_absent xs row rows a.1 p.0) p.1

  none_absent : (rows : List T) → AllAbsent [] rows
  none_absent [] = tt
  none_absent (row ∷ rows) = (tt, none_absent rows)

  pub sorted_all : (rows : List T) → AreApart rows → IsPermutation (rows ++ []) (fold (placed id) [] rows)
  sorted_all rows p = perm_all [] rows (none_absent rows) p

  pub sorted_rises : (low : ℕ) (rows : List T) → AllAbove low rows → AreApart rows → Rises id low (fold (placed id) [] rows)
  sorted_rises low rows h p = rises_all low [] rows tt h (none_absent rows) p
