-- What a row taken out and a row put in do to a book in order, said of the rows themselves.
use Rattle.std.proofs.Common.{◌≡◌, ℕ, ◌<◌, ◌≤◌, ◌==◌, Bool, true, false, cond, List, [], ◌∷◌, length, map, Option, Some, None, option_map, refl, ap, sym, ◌∙◌, subst, arith, Contains, IsPermutation, filter, if◌then◌else◌}
use Rattle.std.specs.List.{count_by}
use Rattle.std.proofs.lemmas.Bool.Decides.{nat_tests}
use Rattle.inet_num.specs.declared.Family.{Family}
use Rattle.inet_num.specs.Net.{Cidr}
use Rattle.block_space.specs.Listed.{times_of}
use Rattle.ipam_data.specs.declared.kinds.Table.{Table}
use Rattle.ipam_data.specs.RowList.{row_at, with_row, without, Rises}
use Rattle.ipam_data.specs.Tables.{table_of}
use Rattle.inet_num.specs.Blocks.{same_block, is_strictly_inside, distinct}
use Rattle.placed_book.specs.Book.{Placed, placed_id, TableBlocks, is_there, blocks_at, blocks_of_family, blocks_of_rows, AreInOrder, AreAll}
use Rattle.placed_book.specs.Changes.{IsOneMore, IsOneLess, IsChangedAt}
use Rattle.placed_book.specs.Rivals.{in_one_table, is_where, stays}
use Rattle.placed_book.specs.Figures.{around, inside}
use Rattle.placed_book.proofs.Lookups.{one_table}
use Rattle.placed_book.proofs.Orders.{both, is_block}
use Rattle.placed_book.proofs.Rows.{found_row, few_without, same_order}
use Rattle.placed_book.proofs.InOrder.{held_times, cut_in_order, none_in_order, still_there, few_at, put_in_order}
use Rattle.placed_book.proofs.Whole.{few_all, held_in_all, cut_all, none_all, put_all}
use Rattle.placed_book.proofs.Places.{places_at, places_with, places_without, places_rise, places_count}

module _ {T : Type 0} (id : T → ℕ) (placed : T → Placed) (same : (x : T) → (placed x).id ≡ id x) where
  -- a row that is found has its place under its id
  found : (rows : List T) (n : ℕ) (row : T) → row_at id rows n ≡ Some row → row_at placed_id (map placed rows) n ≡ Some (placed row)
  found rows n row e = places_at id placed same rows n ∙ ap (λ (o : Option T). option_map placed o) e

  changed_here : (Change : Cidr → TableBlocks → TableBlocks → Type 0) (table other : Table) (block b : Cidr) (old new : List TableBlocks) → table ≡ other → block ≡ b
      → IsChangedAt table (Change block) old new → IsChangedAt other (Change b) old new
  changed_here Change table other block b old new t k h =
      subst (λ (c : Cidr). IsChangedAt other (Change c) old new) k (subst (λ (u : Table). IsChangedAt u (Change block) old new) t h)

  pub held : (rows : List T) (n : ℕ) (row : T) (tables : List TableBlocks) (table : Table) (block : Cidr) → Rises id 0 rows → row_at id rows n ≡ Some row
      → table ≡ table_of (placed row).vrf → block ≡ (placed row).block → AreInOrder (map placed rows) tables → 0 < times_of (blocks_at tables table block.family) block
  held rows n row tables table block r e t b h =
      let known = held_times (map placed rows) tables n (placed row) (places_rise id placed same 0 rows r) (found rows n row e) h in
      subst (λ (c : Cidr). 0 < times_of (blocks_at tables table c.family) c) (sym b) (subst (λ (u : Table). 0 < times_of (blocks_at tables u (placed row).block.family) (placed row).block) (sym t) known)

  pub cut_places : (rows : List T) (n : ℕ) (row : T) (old new : List TableBlocks) (table : Table) (block : Cidr) → Rises id 0 rows → row_at id rows n ≡ Some row
      → table ≡ table_of (placed row).vrf → block ≡ (placed row).block → AreInOrder (map placed rows) old → IsChangedAt table (IsOneLess block) old new → AreInOrder (map placed (without id rows n)) new
  cut_places rows n row old new table block r e t b h c =
      subst (λ (ps : List Placed). AreInOrder ps new) (places_without id placed same rows n)
      (cut_in_order (map placed rows) old new n (placed row) (places_rise id placed same 0 rows r) (found rows n row e) h (changed_here IsOneLess table (table_of (placed row).vrf) block (placed row).block old new t b c))

  pub cut_there : (rows : List T) (n : ℕ) (row : T) (old new : List TableBlocks) (table : Table) (block : Cidr) → row_at id rows n ≡ Some row
      → table ≡ table_of (placed row).vrf → block ≡ (placed row).block → AreInOrder (map placed rows) old → IsChangedAt table (IsOneLess block) old new → (u : Table) → is_there new u ≡ is_there old u
  cut_there rows n row old new table block e t b h c =
      still_there (table_of (placed row).vrf) (IsOneLess (placed row).block) old new (changed_here IsOneLess table (table_of (placed row).vrf) block (placed row).block old new t b c)
      (h.named (placed row) (found_row (map placed rows) n (placed row) (found rows n row e)))

  pub cut_nothing : (rows : List T) (n : ℕ) (tables : List TableBlocks) → row_at id rows n ≡ None → AreInOrder (map placed rows) tables → AreInOrder (map placed (without id rows n)) tables
  cut_nothing rows n tables e h =
      subst (λ (ps : List Placed). AreInOrder ps tables) (places_without id placed same rows n)
      (none_in_order (map placed rows) tables n (places_at id placed same rows n ∙ ap (λ (o : Option T). option_map placed o) e) h)

  pub few_placed : (rows : List T) (n : ℕ) (tables : List TableBlocks) (table : Table) (family : Family) → AreInOrder (map placed (without id rows n)) tables → length (blocks_at tables table family) ≤ length rows
  few_placed rows n tables table family h =
      let a = few_at (map placed (without id rows n)) tables table family h in
      let b = few_without (map placed rows) n in
      let c = ap length (places_without id placed same rows n) in
      let d = places_count id placed same rows in
      omega arith

  pub few_of : (rows : List T) (tables : List TableBlocks) (table : Table) (family : Family) → AreInOrder (map placed rows) tables → length (blocks_at tables table family) ≤ length rows
  few_of rows tables table family h =
      let a = few_at (map placed rows) tables table family h in
      let d = places_count id placed same rows in
      omega arith

  pub put_places : (rows after : List T) (row : T) (old new : List TableBlocks) (table : Table) (block : Cidr) → Rises id 0 rows → after ≡ with_row id rows row
      → table ≡ table_of (placed row).vrf → block ≡ (placed row).block → AreInOrder (map placed (without id rows (id row))) old
      → ((other : Placed) → Contains (map placed rows) other → is_there old (table_of other.vrf) ≡ true) → is_there old (table_of (placed row).vrf) ≡ true
      → IsChangedAt table (IsOneMore block) old new → AreInOrder (map placed after) new
  put_places rows after row old new table block r is t b h named there c =
      put_in_order (map placed rows) (map placed after) old new (placed row) (places_rise id placed same 0 rows r)
      (ap (λ (xs : List T). map placed xs) is ∙ sym (places_with id placed same rows row))
      (subst (λ (k : ℕ). AreInOrder (without placed_id (map placed rows) k) old) (sym (same row)) (subst (λ (ps : List Placed). AreInOrder ps old) (sym (places_without id placed same rows (id row))) h))
      named there (changed_here IsOneMore table (table_of (placed row).vrf) block (placed row).block old new t b c)

  -- ---- a row that stays where it is

  -- a row that is where another of its id is has that one's place
  one_vrf : (a b : Option ℕ) → table_of a ≡ table_of b → a ≡ b
  one_vrf None None e = refl
  one_vrf None (Some m) e = cc
  one_vrf (Some n) None e = cc
  one_vrf (Some n) (Some m) e = (let is : n ≡ m = cc in ap Some is)

  one_place : (p x : Placed) → x.id ≡ p.id → is_where p x ≡ true → p ≡ x
  one_place p x i e =
      let h = both (in_one_table p x) (same_block x.block p.block) e in
      let vrf = one_vrf x.vrf p.vrf (one_table (table_of x.vrf) (table_of p.vrf) h.0) in
      let block = is_block x.block p.block h.1 in
      ap (λ (n : ℕ). let q : Placed = record { id = n; vrf = p.vrf; block = p.block } in q) (sym i)
      ∙ ap (λ (v : Option ℕ). let q : Placed = record { id = x.id; vrf = v; block = p.block } in q) (sym vrf)
      ∙ ap (λ (b : Cidr). let q : Placed = record { id = x.id; vrf = x.vrf; block = b } in q) (sym block)

  with_itself : (ps : List Placed) (p : Placed) → stays p (row_at placed_id ps p.id) ≡ true → with_row placed_id ps p ≡ ps
  with_itself [] p e = cc
  with_itself (x ∷ xs) p e = go (x.id == p.id) refl e (with_itself xs p)
    where
      go : (t : Bool) → (x.id == p.id) ≡ t → stays p (cond t (Some x) (row_at placed_id xs p.id)) ≡ true → (stays p (row_at placed_id xs p.id) ≡ true → with_row placed_id xs p ≡ xs)
          → (if t then p ∷ xs else x ∷ with_row placed_id xs p) ≡ x ∷ xs
      go true t e ih = (let i : x.id ≡ p.id = grind (arith, nat_tests, t) in ap (λ (q : Placed). q ∷ xs) (one_place p x i e))
      go false t e ih = ap (λ (qs : List Placed). x ∷ qs) (ih e)

  pub stays_places : (rows after : List T) (row : T) → after ≡ with_row id rows row → stays (placed row) (option_map placed (row_at id rows (id row))) ≡ true → map placed after ≡ map placed rows
  stays_places rows after row is e =
      let at : row_at placed_id (map placed rows) (placed row).id ≡ option_map placed (row_at id rows (id row)) =
      ap (λ (n : ℕ). row_at placed_id (map placed rows) n) (same row) ∙ places_at id placed same rows (id row) in
      ap (λ (xs : List T). map placed xs) is ∙ sym (places_with id placed same rows row)
      ∙ with_itself (map placed rows) (placed row) (subst (λ (o : Option Placed). stays (placed row) o ≡ true) (sym at) e)

  -- ---- the blocks of all tables

  pub few_all_of : (rows : List T) (all : TableBlocks) (family : Family) → AreAll (map placed rows) all → length (blocks_of_family all family) ≤ length rows
  few_all_of rows all family h =
      let a = few_all (map placed rows) all family h in
      let d = places_count id placed same rows in
      omega arith

  pub few_all_placed : (rows : List T) (n : ℕ) (all : TableBlocks) (family : Family) → AreAll (map placed (without id rows n)) all → length (blocks_of_family all family) ≤ length rows
  few_all_placed rows n all family h =
      let a = few_all (map placed (without id rows n)) all family h in
      let b = few_without (map placed rows) n in
      let c = ap length (places_without id placed same rows n) in
      let d = places_count id placed same rows in
      omega arith

  pub held_all : (rows : List T) (n : ℕ) (row : T) (all : TableBlocks) (block : Cidr) → Rises id 0 rows → row_at id rows n ≡ Some row → block ≡ (placed row).block → AreAll (map placed rows) all
      → 0 < times_of (blocks_of_family all block.family) block
  held_all rows n row all block r e b h =
      subst (λ (c : Cidr). 0 < times_of (blocks_of_family all c.family) c) (sym b) (held_in_all (map placed rows) all n (placed row) (places_rise id placed same 0 rows r) (found rows n row e) h)

  pub cut_all_places : (rows : List T) (n : ℕ) (row : T) (old new : TableBlocks) (block : Cidr) → Rises id 0 rows → row_at id rows n ≡ Some row → block ≡ (placed row).block → AreAll (map placed rows) old
      → IsOneLess block old new → AreAll (map placed (without id rows n)) new
  cut_all_places rows n row old new block r e b h less =
      subst (λ (ps : List Placed). AreAll ps new) (places_without id placed same rows n)
      (cut_all (map placed rows) old new n (placed row) (places_rise id placed same 0 rows r) (found rows n row e) h (subst (λ (c : Cidr). IsOneLess c old new) b less))

  pub cut_all_nothing : (rows : List T) (n : ℕ) (all : TableBlocks) → row_at id rows n ≡ None → AreAll (map placed rows) all → AreAll (map placed (without id rows n)) all
  cut_all_nothing rows n all e h =
      subst (λ (ps : List Placed). AreAll ps all) (places_without id placed same rows n)
      (none_all (map placed rows) all n (places_at id placed same rows n ∙ ap (λ (o : Option T). option_map placed o) e) h)

  pub put_all_places : (rows after : List T) (row : T) (old new : TableBlocks) (block : Cidr) → Rises id 0 rows → after ≡ with_row id rows row → block ≡ (placed row).block
      → AreAll (map placed (without id rows (id row))) old → IsOneMore block old new → AreAll (map placed after) new
  put_all_places rows after row old new block r is b h more =
      put_all (map placed rows) (map placed after) old new (placed row) (places_rise id placed same 0 rows r)
      (ap (λ (xs : List T). map placed xs) is ∙ sym (places_with id placed same rows row))
      (subst (λ (k : ℕ). AreAll (without placed_id (map placed rows) k) old) (sym (same row)) (subst (λ (ps : List Placed). AreAll ps old) (sym (places_without id placed same rows (id row))) h))
      (subst (λ (c : Cidr). IsOneMore c old new) b more)

-- ---- what a table's space counts

module _ (rows : List Placed) (tables : List TableBlocks) (row : Placed) (table : Table) (block : Cidr) (count : ℕ) (h : AreInOrder rows tables) (table_is : table ≡ table_of row.vrf) (block_is : block ≡ row.block) where
  own_order : IsPermutation (blocks_of_rows rows (table_of row.vrf) block.family) (blocks_at tables table block.family)
  own_order = same_order rows tables (table_of row.vrf) table block.family (sym table_is) h

  pub counted_around : ((blocks : List Cidr) → IsPermutation blocks (blocks_at tables table block.family) → count ≡ distinct (filter (λ b. is_strictly_inside block b) blocks)) → count ≡ around rows row
  counted_around is = is (blocks_of_rows rows (table_of row.vrf) block.family) own_order ∙ ap (λ (c : Cidr). distinct (filter (λ b. is_strictly_inside c b) (blocks_of_rows rows (table_of row.vrf) c.family))) block_is

  pub counted_inside : ((blocks : List Cidr) → IsPermutation blocks (blocks_at tables table block.family) → count ≡ count_by (λ b. is_strictly_inside b block) blocks) → count ≡ inside rows row
  counted_inside is = is (blocks_of_rows rows (table_of row.vrf) block.family) own_order ∙ ap (λ (c : Cidr). count_by (λ b. is_strictly_inside b c) (blocks_of_rows rows (table_of row.vrf) c.family)) block_is
