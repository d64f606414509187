-- Rows that coincide: what the blocks of their table say of them.
use Rattle.std.proofs.Common.{◌≡◌, ℕ, ◌+◌, ◌<◌, ◌≤◌, ◌==◌, ◌&&◌, Bool, true, false, not, cond, List, [], ◌∷◌, map, length, drop, drop_of_length-le, Option, Some, None, find, slice_get, refl, ap, sym, subst, ◌∙◌, arith, option_map, if◌then◌else◌}
use Rattle.std.specs.List.{count_by}
use Rattle.std.proofs.lemmas.Bool.Decides.{nat_tests}
use Rattle.std.specs.Option.{option_or}
use Rattle.inet_num.specs.Net.{Cidr}
use Rattle.ipam_data.specs.declared.kinds.Table.{Table}
use Rattle.ipam_data.specs.RowList.{row_at, least, least_pair, Rises}
use Rattle.ipam_data.specs.Tables.{table_of, same_table}
use Rattle.inet_num.specs.Blocks.{same_family, same_block}
use Rattle.placed_book.proofs.RowPlaces.{none_below, eq_false}
use Rattle.block_space.specs.Listed.{is_same, times_of}
use Rattle.placed_book.specs.Book.{Placed, TableBlocks, is_of, blocks_at, AreInOrder}
use Rattle.placed_book.specs.Rivals.{in_one_table, is_where, own_times, coincide_in, is_rival}
use Rattle.placed_book.proofs.Lookups.{one_table}
use Rattle.placed_book.proofs.Orders.{count_yes, count_no, count_alike, count_map}
use Rattle.placed_book.proofs.Figures.{through_count}
use Rattle.placed_book.proofs.Searches.{none_counted, none_drop, never_found, rises_from, some_within, pair_step}
use mir.Val.{bool_byte}

-- as many rows are where the row is as the table has its block
block_test : (a b : Cidr) → (a.first == b.first && a.len == b.len) ≡ is_same b a
block_test a b = grind (arith, nat_tests)

and_groups : (t f a b : Bool) → (t && (f && a && b)) ≡ (t && f && (a && b))
and_groups true true a b = refl
and_groups true false a b = refl
and_groups false f a b = refl

where_agrees : (row x : Placed) → is_where row x ≡ (is_of (table_of row.vrf) row.block.family x && is_same row.block x.block)
where_agrees row x =
    and_groups (same_table (table_of x.vrf) (table_of row.vrf)) (same_family x.block.family row.block.family) (x.block.first == row.block.first) (x.block.len == row.block.len)
    ∙ ap (λ (t : Bool). is_of (table_of row.vrf) row.block.family x && t) (block_test x.block row.block)

pub where_times : (rows : List Placed) (tables : List TableBlocks) (row : Placed) → AreInOrder rows tables → count_by (is_where row) rows ≡ times_of (blocks_at tables (table_of row.vrf) row.block.family) row.block
where_times rows tables row h =
    through_count (table_of row.vrf) row.block.family (is_where row) (is_same row.block) (where_agrees row) rows ∙ count_alike (is_same row.block) _ _ (h.blocks (table_of row.vrf) row.block.family)

-- rows that coincide with it, and the one under its own id
and_first : (n a b : Bool) → (n && a && b) ≡ (n && (a && b))
and_first true a b = refl
and_first false a b = refl

module _ {T : Type 0} (id : T → ℕ) (placed : T → Placed) where
  pub rival_where : (row x : T) → is_rival id placed row x ≡ (not (id x == id row) && is_where (placed row) (placed x))
  rival_where row x = and_first (not (id x == id row)) (in_one_table (placed row) (placed x)) (same_block (placed x).block (placed row).block)

  own_apart : (low : ℕ) (rows : List T) (row : T) → Rises id low rows
      → count_by (is_rival id placed row) rows + own_times (placed row) (option_map placed (row_at id rows (id row))) ≡ count_by (λ x. is_where (placed row) (placed x)) rows
  own_apart low [] row r = refl
  own_apart low (y ∷ ys) row r = go (id y == id row) refl (is_where (placed row) (placed y)) refl (own_apart (id y) ys row r.1)
    where
      go : (t : Bool) → (id y == id row) ≡ t → (w : Bool) → is_where (placed row) (placed y) ≡ w
          → count_by (is_rival id placed row) ys + own_times (placed row) (option_map placed (row_at id ys (id row))) ≡ count_by (λ x. is_where (placed row) (placed x)) ys
          → count_by (is_rival id placed row) (y ∷ ys) + own_times (placed row) (option_map placed (cond t (Some y) (row_at id ys (id row)))) ≡ count_by (λ x. is_where (placed row) (placed x)) (y ∷ ys)
      go true t w s ih =
          let id_is : id y ≡ id row = grind (arith, nat_tests, t) in
          let none : own_times (placed row) (option_map placed (row_at id ys (id row))) ≡ 0 = ap (λ (o : Option T). own_times (placed row) (option_map placed o)) (none_below id (id y) (id row) ys r.1 (omega arith)) in
          let itself = count_no (is_rival id placed row) y ys (rival_where row y ∙ rw t refl) in
          own w s none itself
        where
          own : (w : Bool) → is_where (placed row) (placed y) ≡ w → own_times (placed row) (option_map placed (row_at id ys (id row))) ≡ 0 → count_by (is_rival id placed row) (y ∷ ys) ≡ count_by (is_rival id placed row) ys
              → count_by (is_rival id placed row) (y ∷ ys) + own_times (placed row) (Some (placed y)) ≡ count_by (λ x. is_where (placed row) (placed x)) (y ∷ ys)
          own true s none itself =
              let two = count_yes (λ x. is_where (placed row) (placed x)) y ys s in
              let once : own_times (placed row) (Some (placed y)) ≡ 1 = rw s refl in
              omega arith
          own false s none itself =
              let two = count_no (λ x. is_where (placed row) (placed x)) y ys s in
              let never : own_times (placed row) (Some (placed y)) ≡ 0 = rw s refl in
              omega arith
      go false t true s ih =
          let one = count_yes (is_rival id placed row) y ys (rival_where row y ∙ rw (t, s) refl) in
          let two = count_yes (λ x. is_where (placed row) (placed x)) y ys s in
          omega arith
      go false t false s ih =
          let one = count_no (is_rival id placed row) y ys (rival_where row y ∙ rw (t, s) refl) in
          let two = count_no (λ x. is_where (placed row) (placed x)) y ys s in
          omega arith

  -- what a table's blocks say of a row
  module _ (rows : List T) (tables : List TableBlocks) (row : T) (table : Table) (block : Cidr) (times own : ℕ) (r : Rises id 0 rows) (h : AreInOrder (map placed rows) tables)
      (table_is : table ≡ table_of (placed row).vrf) (block_is : block ≡ (placed row).block) (times_is : times ≡ times_of (blocks_at tables table block.family) block)
      (own_is : own ≡ own_times (placed row) (option_map placed (row_at id rows (id row)))) where
    there : times ≡ times_of (blocks_at tables (table_of (placed row).vrf) (placed row).block.family) (placed row).block
    there =
        times_is ∙ ap (λ (u : Table). times_of (blocks_at tables u block.family) block) table_is ∙ ap (λ (c : Cidr). times_of (blocks_at tables (table_of (placed row).vrf) c.family) c) block_is

    -- so many rows coincide with it
    pub rivals : count_by (is_rival id placed row) rows + own ≡ times
    rivals =
        let all = where_times (map placed rows) tables (placed row) h in
        let each = count_map placed (is_where (placed row)) rows in
        let apart = own_apart 0 rows row r in
        let is = there in
        let itself = own_is in
        omega arith

    -- where the table has the block no more often than the row meets itself, none coincides
    pub none_rival : (from : ℕ) → times ≤ own → None ≡ least id (is_rival id placed row) (drop from rows)
    none_rival from le =
        let sum = rivals in
        let none = none_counted (is_rival id placed row) rows (omega arith) in
        sym (ap (λ (o : Option T). option_map id o) (none_drop (is_rival id placed row) from rows none))

  -- ---- pairs in a table

  -- of rows with greater ids, those that coincide with a row of the table are those that are where it is
  later_alike : (table : Table) (row : T) (xs : List T) (low : ℕ) → id row ≤ low → Rises id low xs → same_table (table_of (placed row).vrf) table ≡ true → find (coincide_in placed table row) xs ≡ find (is_rival id placed row) xs
  later_alike table row [] low le r s = refl
  later_alike table row (y ∷ ys) low le r s =
      let above = r.0 in
      let other : (id y == id row) ≡ false = eq_false (id y) (id row) (omega arith) in
      let is = one_table (table_of (placed row).vrf) table s in
      let same : coincide_in placed table row y ≡ is_rival id placed row y =
      ap (λ (t : Bool). t && same_table (table_of (placed y).vrf) table && same_block (placed y).block (placed row).block) s
      ∙ ap (λ (t : Table). same_table (table_of (placed y).vrf) t && same_block (placed y).block (placed row).block) (sym is)
      ∙ sym (ap (λ (t : Bool). not t && in_one_table (placed row) (placed y) && same_block (placed y).block (placed row).block) other) in
      ap (λ (t : Bool). cond t (Some y) (find (coincide_in placed table row) ys)) same ∙ ap (λ (o : Option T). cond (is_rival id placed row y) (Some y) o) (later_alike table row ys (id y) (omega arith) r.1 s)

  other_table_none : (table : Table) (row : T) (xs : List T) → same_table (table_of (placed row).vrf) table ≡ false → find (coincide_in placed table row) xs ≡ None
  other_table_none table row xs s =
      never_found (coincide_in placed table row) xs (λ y. ap (λ (t : Bool). t && same_table (table_of (placed y).vrf) table && same_block (placed y).block (placed row).block) s)

  later_pair : (table : Table) (rows : List T) (i : ℕ) (row : T) → Rises id 0 rows → slice_get rows i ≡ Some row → same_table (table_of (placed row).vrf) table ≡ true
      → find (coincide_in placed table row) (drop (i + 1) rows) ≡ find (is_rival id placed row) (drop (i + 1) rows)
  later_pair table rows i row r e s = later_alike table row (drop (i + 1) rows) (id row) (omega arith) (rises_from id (coincide_in placed table) 0 rows i row r e) s

  -- ---- as the calls have it

  -- an id with that of a row, where there is one
  abbrev pub pair_with : ℕ → Option T → Option (ℕ × ℕ)
  pair_with n r = option_map (λ y. (n, id y)) r

  abbrev pub these : ℕ → ℕ → Option (ℕ × ℕ)
  these n m = Some (n, m)

  pair_of : (r : Option T) (n m : ℕ) → Some m ≡ option_map id r → these n m ≡ pair_with n r
  pair_of None n m e = cc
  pair_of (Some y) n m e = (let is : m ≡ id y = cc in ap (λ (k : ℕ). these n k) is)

  no_pair : (r : Option T) (n : ℕ) → None ≡ option_map id r → None ≡ pair_with n r
  no_pair None n e = refl
  no_pair (Some y) n e = cc

  module _ (table : Table) (rows : List T) (i : ℕ) (row x : T) (at : Some row ≡ slice_get rows i) (e : slice_get rows i ≡ Some x) where
    row_is : row ≡ x
    row_is = (let f : Some row ≡ Some x = at ∙ e in cc)

    pub pair_in_no_table : same_table (table_of (placed row).vrf) table ≡ false → None ≡ pair_with (id x) (find (coincide_in placed table x) (drop (i + 1) rows))
    pair_in_no_table s = sym (ap (λ (o : Option T). pair_with (id x) o) (other_table_none table x (drop (i + 1) rows) (ap (λ (z : T). same_table (table_of (placed z).vrf) table) (sym row_is) ∙ s)))

    pub pair_found : Rises id 0 rows → same_table (table_of (placed row).vrf) table ≡ true → (own other : ℕ) → own ≡ id row → Some other ≡ least id (is_rival id placed row) (drop (i + 1) rows)
        → these own other ≡ pair_with (id x) (find (coincide_in placed table x) (drop (i + 1) rows))
    pair_found r s own other own_is found =
        ap (λ (n : ℕ). these n other) own_is
        ∙ subst (λ (z : T). these (id row) other ≡ pair_with (id z) (find (coincide_in placed table z) (drop (i + 1) rows))) row_is
        (pair_of (find (is_rival id placed row) (drop (i + 1) rows)) (id row) other found ∙ ap (λ (o : Option T). pair_with (id row) o) (sym (later_pair table rows i row r (sym at) s)))

    pub pair_none : Rises id 0 rows → same_table (table_of (placed row).vrf) table ≡ true → None ≡ least id (is_rival id placed row) (drop (i + 1) rows) → None ≡ pair_with (id x) (find (coincide_in placed table x) (drop (i + 1) rows))
    pair_none r s found =
        subst (λ (z : T). None ≡ pair_with (id z) (find (coincide_in placed table z) (drop (i + 1) rows))) row_is
        (no_pair (find (is_rival id placed row) (drop (i + 1) rows)) (id row) found ∙ ap (λ (o : Option T). pair_with (id row) o) (sym (later_pair table rows i row r (sym at) s)))

  -- one row after another
  pub next_pair : (table : Table) (rows : List T) (i : ℕ) → i < length rows → ((x : T) → slice_get rows i ≡ Some x → None ≡ pair_with (id x) (find (coincide_in placed table x) (drop (i + 1) rows)))
      → least_pair id (coincide_in placed table) rows ≡ least_pair id (coincide_in placed table) (drop i rows) → least_pair id (coincide_in placed table) rows ≡ least_pair id (coincide_in placed table) (drop (i + 1) rows)
  next_pair table rows i h none so_far =
      let x = some_within rows i h in
      so_far ∙ pair_step id (coincide_in placed table) rows i x.0 x.1 ∙ ap (λ (o : Option (ℕ × ℕ)). option_or o (least_pair id (coincide_in placed table) (drop (i + 1) rows))) (sym (none x.0 x.1))

  pub this_pair : (table : Table) (rows : List T) (i : ℕ) (pair : ℕ × ℕ) → i < length rows → ((x : T) → slice_get rows i ≡ Some x → Some pair ≡ pair_with (id x) (find (coincide_in placed table x) (drop (i + 1) rows)))
      → least_pair id (coincide_in placed table) rows ≡ least_pair id (coincide_in placed table) (drop i rows) → Some pair ≡ least_pair id (coincide_in placed table) rows
  this_pair table rows i pair h some so_far =
      let x = some_within rows i h in
      sym (so_far ∙ pair_step id (coincide_in placed table) rows i x.0 x.1 ∙ ap (λ (o : Option (ℕ × ℕ)). option_or o (least_pair id (coincide_in placed table) (drop (i + 1) rows))) (sym (some x.0 x.1)))

  pub no_more_pairs : (table : Table) (rows : List T) (i : ℕ) → length rows ≤ i → least_pair id (coincide_in placed table) rows ≡ least_pair id (coincide_in placed table) (drop i rows) → None ≡ least_pair id (coincide_in placed table) rows
  no_more_pairs table rows i h so_far = sym (so_far ∙ ap (λ (xs : List T). least_pair id (coincide_in placed table) xs) (drop_of_length-le rows h))

abbrev pub some_of : ℕ × ℕ → Option (ℕ × ℕ)
some_of p = Some p

-- a test as a number is how often
pub own_number : (here stays : Bool) → here ≡ stays → bool_byte here ≡ (if stays then 1 else 0)
own_number true true e = refl
own_number false false e = refl
own_number true false e = cc
own_number false true e = cc
