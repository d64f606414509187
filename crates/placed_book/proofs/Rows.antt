-- The blocks of a table's rows, with a row put in or taken out.
use Rattle.std.proofs.Common.{◌≡◌, ℕ, ◌≤◌, ◌==◌, Bool, true, false, not, cond, List, [], ◌∷◌, length, map, filter, Some, refl, ap, sym, subst, ◌∙◌, arith, if◌then◌else◌, inl, inr, Contains, IsPermutation}
use Rattle.std.proofs.lemmas.Bool.Decides.{nat_tests}
use Rattle.std.proofs.lemmas.List.{length-map}
use Rattle.std.proofs.lemmas.List.Sorted.{IsPermutation-refl, IsPermutation-trans, IsPermutation-cons}
use Rattle.inet_num.specs.declared.Family.{Family}
use Rattle.inet_num.specs.Net.{Cidr}
use Rattle.ipam_data.specs.declared.kinds.Table.{Table}
use Rattle.ipam_data.specs.RowList.{row_at, with_row, without, Rises}
use Rattle.ipam_data.proofs.RowLists.{contains_cases, contains_head, contains_rest}
use Rattle.placed_book.proofs.RowPlaces.{none_below, without_none}
use Rattle.placed_book.specs.Book.{Placed, placed_id, TableBlocks, is_of, blocks_at, blocks_of_rows, AreInOrder}
use Rattle.placed_book.proofs.Orders.{swapped}

-- the blocks of the rows that pass
abbrev pub picked : (Placed → Bool) → List Placed → List Cidr
picked p rows = map (λ row. row.block) (filter p rows)

-- a row's block before others, where the row passes
abbrev pub with_picked : (Placed → Bool) → Placed → List Cidr → List Cidr
with_picked p row bs = cond (p row) (row.block ∷ bs) bs

module _ (p : Placed → Bool) where
  pub picked_cons : (x : Placed) (xs : List Placed) → picked p (x ∷ xs) ≡ with_picked p x (picked p xs)
  picked_cons x xs = go (p x) where
    go : (t : Bool) → map (λ row. row.block) (cond t (x ∷ filter (p) xs) (filter (p) xs)) ≡ cond t (x.block ∷ picked p xs) (picked p xs)
    go true = refl
    go false = refl

  with_picked_same : (row : Placed) (xs ys : List Cidr) → IsPermutation xs ys → IsPermutation (with_picked p row xs) (with_picked p row ys)
  with_picked_same row xs ys h = go (p row) where
    go : (t : Bool) → IsPermutation (cond t (row.block ∷ xs) xs) (cond t (row.block ∷ ys) ys)
    go true = IsPermutation-cons row.block xs ys h
    go false = h

  with_picked_swap : (row other : Placed) (xs : List Cidr) → IsPermutation (with_picked p row (with_picked p other xs)) (with_picked p other (with_picked p row xs))
  with_picked_swap row other xs = go (p row) (p other) where
    go : (s t : Bool) → IsPermutation (cond s (row.block ∷ cond t (other.block ∷ xs) xs) (cond t (other.block ∷ xs) xs)) (cond t (other.block ∷ cond s (row.block ∷ xs) xs) (cond s (row.block ∷ xs) xs))
    go true true = swapped row.block other.block xs
    go true false = IsPermutation-refl (row.block ∷ xs)
    go false true = IsPermutation-refl (other.block ∷ xs)
    go false false = IsPermutation-refl xs

  -- without the row of an id
  pub cut_picked : (low : ℕ) (rows : List Placed) (n : ℕ) (x : Placed) → Rises placed_id low rows → row_at placed_id rows n ≡ Some x
      → IsPermutation (picked p rows) (with_picked p x (picked p (without placed_id rows n)))
  cut_picked low [] n x r e = cc
  cut_picked low (y ∷ ys) n x r e = go (y.id == n) refl e (cut_picked y.id ys n x r.1)
    where
      go : (t : Bool) → (y.id == n) ≡ t → cond t (Some y) (row_at placed_id ys n) ≡ Some x → (row_at placed_id ys n ≡ Some x → IsPermutation (picked p ys) (with_picked p x (picked p (without placed_id ys n))))
          → IsPermutation (picked p (y ∷ ys)) (with_picked p x (picked p (cond (not t) (y ∷ without placed_id ys n) (without placed_id ys n))))
      go true t e ih =
          let is : y ≡ x = cc in
          let id_is : y.id ≡ n = grind (arith, nat_tests, t) in
          let none = without_none placed_id ys n (none_below placed_id y.id n ys r.1 (omega arith)) in
          let same : picked p (y ∷ ys) ≡ with_picked p x (picked p (without placed_id ys n)) =
          picked_cons y ys ∙ ap (λ (z : Placed). with_picked p z (picked p ys)) is ∙ ap (λ (zs : List Placed). with_picked p x (picked p zs)) (sym none) in
          subst (λ (bs : List Cidr). IsPermutation (picked p (y ∷ ys)) bs) same (IsPermutation-refl (picked p (y ∷ ys)))
      go false t e ih =
          let inner = with_picked_same y _ _ (ih e) in
          let outer = with_picked_swap y x (picked p (without placed_id ys n)) in
          let joined = IsPermutation-trans _ _ _ inner outer in
          let first = subst (λ (bs : List Cidr). IsPermutation bs (with_picked p x (with_picked p y (picked p (without placed_id ys n))))) (sym (picked_cons y ys)) joined in
          subst (λ (bs : List Cidr). IsPermutation (picked p (y ∷ ys)) (with_picked p x bs)) (sym (picked_cons y (without placed_id ys n))) first

  -- with a row in the place of the one of its id, or behind all
  pub put_picked : (low : ℕ) (rows : List Placed) (row : Placed) → Rises placed_id low rows
      → IsPermutation (with_picked p row (picked p (without placed_id rows row.id))) (picked p (with_row placed_id rows row))
  put_picked low [] row r = subst (λ (bs : List Cidr). IsPermutation (with_picked p row []) bs) (sym (picked_cons row [])) (IsPermutation-refl (with_picked p row []))
  put_picked low (y ∷ ys) row r = go (y.id == row.id) refl (put_picked y.id ys row r.1)
    where
      go : (t : Bool) → (y.id == row.id) ≡ t → IsPermutation (with_picked p row (picked p (without placed_id ys row.id))) (picked p (with_row placed_id ys row))
          → IsPermutation (with_picked p row (picked p (cond (not t) (y ∷ without placed_id ys row.id) (without placed_id ys row.id))))
          (picked p (if t then row ∷ ys else y ∷ with_row placed_id ys row))
      go true t ih =
          let id_is : y.id ≡ row.id = grind (arith, nat_tests, t) in
          let none = without_none placed_id ys row.id (none_below placed_id y.id row.id ys r.1 (omega arith)) in
          let same : with_picked p row (picked p (without placed_id ys row.id)) ≡ picked p (row ∷ ys) =
          ap (λ (zs : List Placed). with_picked p row (picked p zs)) none ∙ sym (picked_cons row ys) in
          subst (λ (bs : List Cidr). IsPermutation (with_picked p row (picked p (without placed_id ys row.id))) bs) same (IsPermutation-refl (with_picked p row (picked p (without placed_id ys row.id))))
      go false t ih =
          let outer = with_picked_swap row y (picked p (without placed_id ys row.id)) in
          let inner = with_picked_same y _ _ ih in
          let joined = IsPermutation-trans _ _ _ outer inner in
          let first = subst (λ (bs : List Cidr). IsPermutation (with_picked p row bs) (with_picked p y (picked p (with_row placed_id ys row)))) (sym (picked_cons y (without placed_id ys row.id))) joined in
          subst (λ (bs : List Cidr). IsPermutation (with_picked p row (picked p (y ∷ without placed_id ys row.id))) bs) (sym (picked_cons y (with_row placed_id ys row))) first

  -- there are no more than rows
  pub few_picked : (rows : List Placed) → length (picked p rows) ≤ length rows
  few_picked rows = (let n = length-map (filter (p) rows) (λ row. row.block) in let m = filtered rows in omega arith)
    where
      filtered : (xs : List Placed) → length (filter (p) xs) ≤ length xs
      filtered [] = omega arith
      filtered (x ∷ xs) = go (p x) (filtered xs) where
        go : (t : Bool) → length (filter (p) xs) ≤ length xs → length (cond t (x ∷ filter (p) xs) (filter (p) xs)) ≤ length (x ∷ xs)
        go true h = omega arith
        go false h = omega arith

-- the same of a table's rows of one family
abbrev pub with_block : Table → Family → Placed → List Cidr → List Cidr
with_block table family row bs = with_picked (is_of table family) row bs

pub rows_cons : (table : Table) (family : Family) (x : Placed) (xs : List Placed) → blocks_of_rows (x ∷ xs) table family ≡ with_block table family x (blocks_of_rows xs table family)
rows_cons table family = picked_cons (is_of table family)

pub cut_blocks : (table : Table) (family : Family) (low : ℕ) (rows : List Placed) (n : ℕ) (x : Placed) → Rises placed_id low rows → row_at placed_id rows n ≡ Some x
    → IsPermutation (blocks_of_rows rows table family) (with_block table family x (blocks_of_rows (without placed_id rows n) table family))
cut_blocks table family = cut_picked (is_of table family)

pub put_blocks : (table : Table) (family : Family) (low : ℕ) (rows : List Placed) (row : Placed) → Rises placed_id low rows
    → IsPermutation (with_block table family row (blocks_of_rows (without placed_id rows row.id) table family)) (blocks_of_rows (with_row placed_id rows row) table family)
put_blocks table family = put_picked (is_of table family)

pub few_blocks : (table : Table) (family : Family) (rows : List Placed) → length (blocks_of_rows rows table family) ≤ length rows
few_blocks table family = few_picked (is_of table family)

-- the rows of other ids are rows
pub contains_without : (rows : List Placed) (n : ℕ) (x : Placed) → Contains (without placed_id rows n) x → Contains rows x
contains_without [] n x c = c
contains_without (y ∷ ys) n x c = go (y.id == n) c (contains_without ys n x) where
  go : (t : Bool) → Contains (cond (not t) (y ∷ without placed_id ys n) (without placed_id ys n)) x → (Contains (without placed_id ys n) x → Contains ys x) → Contains (y ∷ ys) x
  go true c ih = contains_rest y x ys (ih c)
  go false c ih = elim (contains_cases y x (without placed_id ys n) c) [
    | inl e ↦ subst (Contains (y ∷ ys)) e (contains_head y ys)
    | inr d ↦ contains_rest y x ys (ih d)
  ]

-- a row that is found is one
pub found_row : (rows : List Placed) (n : ℕ) (x : Placed) → row_at placed_id rows n ≡ Some x → Contains rows x
found_row [] n x e = cc
found_row (y ∷ ys) n x e = go (y.id == n) e (found_row ys n x) where
  go : (t : Bool) → cond t (Some y) (row_at placed_id ys n) ≡ Some x → (row_at placed_id ys n ≡ Some x → Contains ys x) → Contains (y ∷ ys) x
  go true e ih = (let is : y ≡ x = cc in subst (Contains (y ∷ ys)) is (contains_head y ys))
  go false e ih = contains_rest y x ys (ih e)

-- and no more than the rows
pub few_without : (rows : List Placed) (n : ℕ) → length (without placed_id rows n) ≤ length rows
few_without [] n = omega arith
few_without (y ∷ ys) n = go (y.id == n) (few_without ys n) where
  go : (t : Bool) → length (without placed_id ys n) ≤ length ys → length (cond (not t) (y ∷ without placed_id ys n) (without placed_id ys n)) ≤ length (y ∷ ys)
  go true h = omega arith
  go false h = omega arith

-- the blocks of a table in order, by another name of the table
pub same_order : (rows : List Placed) (tables : List TableBlocks) (table other : Table) (family : Family) → table ≡ other → AreInOrder rows tables → IsPermutation (blocks_of_rows rows table family) (blocks_at tables other family)
same_order rows tables table other family is h = subst (λ (t : Table). IsPermutation (blocks_of_rows rows table family) (blocks_at tables t family)) is (h.blocks table family)
