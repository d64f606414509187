-- Ids that are gathered block by block, and table by table.
use Rattle.std.proofs.Common.{◌≡◌, ℕ, ◌+◌, ◌-◌, ◌<◌, ◌≤◌, ◌^◌, ◌++◌, ◌⊎◌, ◌&&◌, ◌||◌, nat_le, Bool, true, false, List, [], ◌∷◌, length, get_or, map, filter, take, refl, ap, sym, subst, ◌∙◌, arith, inl, inr, Contains, IsPermutation}
use Rattle.std.specs.List.{flat_map, list_any}
use Rattle.std.proofs.lemmas.Bool.Decides.{nat_tests}
use Rattle.std.proofs.lemmas.Nat.{pow_pos}
use Rattle.std.proofs.lemmas.List.Elements.{Contains-append_left, Contains-append_right, Contains-append_cases, All-from_recursion, All-contains}
use Rattle.std.proofs.lemmas.List.Folds.{list_any_more}
use Rattle.std.proofs.lemmas.List.Sorted.{Contains-permutation}
use Rattle.inet_num.specs.declared.Family.{Family}
use Rattle.inet_num.specs.declared.Family.TheVariants.{V4, V6}
use Rattle.inet_num.specs.Net.{Cidr, IsBlock, IsInside, size_of, width_of, first_of, last_of}
use Rattle.inet_num.specs.Blocks.{same_family, same_block, is_block_inside}
use Rattle.inet_num.proofs.Numbers.{inside_by_ends, block_fits}
use Rattle.inet_num.proofs.Insides.{inside_tested, one_family, same_family-refl}
use Rattle.block_space.specs.Listed.{IsBlockOf, AreBlocksOf}
use Rattle.ipam_data.specs.declared.kinds.Table.{Table}
use Rattle.ipam_data.specs.Tables.{table_of, same_table}
use Rattle.radix_tree.specs.declared.Entry.{Entry}
use Rattle.radix_tree.specs.Inside.{ListsInside}
use Rattle.radix_tree.specs.Covering.{ListsCovering}
use Rattle.placed_book.specs.Book.{Placed, placed_id, TableBlocks, is_there, is_of, blocks_of_rows, AreInOrder}
use Rattle.placed_book.specs.Firsts.{is_at, ids_at}
use Rattle.placed_book.proofs.Orders.{is_block, same_block-refl}
use Rattle.placed_book.proofs.Lookups.{one_table}
use Rattle.place_search.specs.declared.Area.{Area}
use Rattle.place_search.specs.declared.Area.TheVariants.{At, Inside, Around, Anywhere}
use Rattle.place_search.specs.Areas.{in_area, is_in_table, is_looked_for}
use Rattle.place_search.specs.declared.TheConstants.{MOST_CANDIDATES}
use Rattle.place_search.specs.Ids.{IsIdOf, HasMore, IsRising, ListsIds}
use Rattle.place_search.proofs.Members.{both, none, map_has, filter_has, filter_from, flat_has, flat_from}
use Rattle.ipam_data.proofs.Kept.{contains_map}

-- ---- the ids at one place

ids_have : (rows : List Placed) (table : Table) (block : Cidr) (row : Placed) → Contains rows row → is_at table block row ≡ true → Contains (ids_at rows table block) row.id
ids_have rows table block row c t = map_has placed_id (filter (is_at table block) rows) row (filter_has (is_at table block) rows row c t)

ids_from : (rows : List Placed) (table : Table) (block : Cidr) (n : ℕ) → Contains (ids_at rows table block) n → IsIdOf (is_at table block) rows n
ids_from rows table block n c =
    let r = contains_map placed_id (filter (is_at table block) rows) n c in
    let k = filter_from (is_at table block) rows r.0 r.1 in
    (r.0, k.0, k.1, r.2)

-- of the rows with this block
pub one_gathered : (rows : List Placed) (table : Table) (block : Cidr) (old new : List ℕ) → new ≡ old ++ ids_at rows table block → HasMore (is_in_table table (At block)) rows old new
one_gathered rows table block old new e = record {
  kept = λ n c. rw e (Contains-append_left old (ids_at rows table block) n c);
  all = λ row c t. rw e (Contains-append_right old (ids_at rows table block) row.id (ids_have rows table block row c t));
  each = λ n c. elim (Contains-append_cases old (ids_at rows table block) n (rw e at c)) [ inl d ↦ inl d | inr d ↦ inr (ids_from rows table block n d) ];
}

-- ---- the ids at several places of one table

module _ {A : Type 0} (block : A → Cidr) (xs : List A) (table : Table) (test : Placed → Bool) (rows : List Placed) where
  abbrev pub Covers : Type 0
  Covers = (row : Placed) → Contains rows row → test row ≡ true → (same_table (table_of row.vrf) table ≡ true) × ((x : A) × Contains xs x × (block x ≡ row.block))

  abbrev pub Passes : Type 0
  Passes = (x : A) (row : Placed) → Contains xs x → same_table (table_of row.vrf) table ≡ true → row.block ≡ block x → test row ≡ true

  gathered : (old new : List ℕ) → Covers → Passes → new ≡ old ++ flat_map (λ x. ids_at rows table (block x)) xs → HasMore test rows old new
  gathered old new covers passes e = record {
    kept = λ n c. rw e (Contains-append_left old more n c);
    all = λ row c t. rw e (Contains-append_right old more row.id (has row c t));
    each = λ n c. elim (Contains-append_cases old more n (rw e at c)) [ inl d ↦ inl d | inr d ↦ inr (from n d) ];
  }
    where
      more : List ℕ
      more = flat_map (λ x. ids_at rows table (block x)) xs

      has : (row : Placed) → Contains rows row → test row ≡ true → Contains more row.id
      has row c t =
          let k = covers row c t in
          let one : same_block row.block (block k.1.0) ≡ true = ap (λ (b : Cidr). same_block row.block b) k.1.2 ∙ same_block-refl row.block in
          flat_has (λ x. ids_at rows table (block x)) xs k.1.0 row.id k.1.1 (ids_have rows table (block k.1.0) row c (rw (k.0, one) refl))

      from : (n : ℕ) → Contains more n → IsIdOf test rows n
      from n c =
          let r = flat_from (λ x. ids_at rows table (block x)) xs n c in
          let k = ids_from rows table (block r.0) n r.2 in
          let h = both (same_table (table_of k.0.vrf) table) (same_block k.0.block (block r.0)) k.2 in
          (k.0, k.1, passes r.0 k.0 r.1 h.0 (is_block k.0.block (block r.0) h.1), k.3)

-- a row's block stands in the space of its table and family
space_has : (rows : List Placed) (table : Table) (family : Family) (held : List Cidr) (row : Placed) → IsPermutation (blocks_of_rows rows table family) held → Contains rows row
    → same_table (table_of row.vrf) table ≡ true → row.block.family ≡ family → Contains held row.block
space_has rows table family held row p c t e =
    let one : same_family row.block.family family ≡ true = ap (λ (f : Family). same_family f family) e ∙ same_family-refl family in
    let is : is_of table family row ≡ true = rw (t, one) refl in
    Contains-permutation (blocks_of_rows rows table family) held row.block p (map_has (λ (r : Placed). r.block) (filter (is_of table family) rows) row (filter_has (is_of table family) rows row c is))

-- what the test by ends says
test_inside : (inner outer : Cidr) → is_block_inside inner outer ≡ true → IsInside inner outer
test_inside inner outer t =
    let families = same_family inner.family outer.family in
    let begins = nat_le outer.first inner.first in
    let h = both (families && begins) (nat_le (last_of inner).value (last_of outer).value) t in
    let k = both families begins h.0 in
    let low : outer.first ≤ inner.first = (let e = k.1 in grind (arith, nat_tests)) in
    let ends : inner.first + size_of inner - 1 ≤ outer.first + size_of outer - 1 = (let e = h.1 in grind (arith, nat_tests)) in
    let some : 0 < size_of inner = pow_pos (width_of inner.family - inner.len) in
    let some_outer : 0 < size_of outer = pow_pos (width_of outer.family - outer.len) in
    inside_by_ends inner outer (one_family inner.family outer.family k.0) low (omega arith)

-- the rows whose block lies in one
pub inside_gathered : (rows : List Placed) (table : Table) (within : Cidr) (family : Family) (held : List Cidr) (entries : List Entry) (old new : List ℕ) → family ≡ within.family
    → IsPermutation (blocks_of_rows rows table family) held → ListsInside held within entries → new ≡ old ++ flat_map (λ entry. ids_at rows table entry.block) entries → HasMore (is_in_table table (Inside within)) rows old new
inside_gathered rows table within family held entries old new own p lists e =
    gathered (λ (x : Entry). x.block) entries table (is_in_table table (Inside within)) rows old new
    (λ row c t.
    let h = both (same_table (table_of row.vrf) table) (is_block_inside row.block within) t in
    let i = test_inside row.block within h.1 in
    (h.0, lists.all row.block (space_has rows table family held row p c h.0 (i.family ∙ sym own)) i))
    (λ x row c t b.
    let k = lists.each x c in
    let i : is_block_inside row.block within ≡ true = ap (λ (d : Cidr). is_block_inside d within) b ∙ inside_tested x.block within k.1 in
    rw (t, i) refl)
    e

-- the rows whose block contains one
pub around_gathered : (rows : List Placed) (table : Table) (block : Cidr) (family : Family) (held blocks : List Cidr) (old new : List ℕ) → family ≡ block.family
    → IsPermutation (blocks_of_rows rows table family) held → ListsCovering held block blocks → new ≡ old ++ flat_map (λ b. ids_at rows table b) blocks → HasMore (is_in_table table (Around block)) rows old new
around_gathered rows table block family held blocks old new own p lists e =
    gathered (λ (b : Cidr). b) blocks table (is_in_table table (Around block)) rows old new
    (λ row c t.
    let h = both (same_table (table_of row.vrf) table) (is_block_inside block row.block) t in
    let i = test_inside block row.block h.1 in
    (h.0, (row.block, lists.all row.block (space_has rows table family held row p c h.0 (sym i.family ∙ sym own)) i, refl)))
    (λ x row c t b.
    let k = lists.each x c in
    let i : is_block_inside block row.block ≡ true = ap (λ (d : Cidr). is_block_inside block d) b ∙ inside_tested block x k.1 in
    rw (t, i) refl)
    e

-- each block of a family lies in that of all its addresses
whole_has : (b within : Cidr) → IsBlock b → b.family ≡ within.family → within.first ≡ 0 → within.len ≡ 0 → IsInside b within
whole_has b within h e first len =
    let fits = block_fits b h in
    let all : width_of within.family - within.len ≡ width_of within.family = omega arith in
    let size : size_of within ≡ 2 ^ width_of b.family = ap (λ (n : ℕ). 2 ^ n) all ∙ ap (λ (f : Family). 2 ^ width_of f) (sym e) in
    inside_by_ends b within e (omega arith) (omega arith)

-- the rows whose block is of a family
pub family_gathered : (rows : List Placed) (table : Table) (family : Family) (within : Cidr) (held : List Cidr) (entries : List Entry) (old new : List ℕ) → within ≡ record { family = family; first = 0; len = 0 }
    → AreBlocksOf family held → IsPermutation (blocks_of_rows rows table family) held → ListsInside held within entries → new ≡ old ++ flat_map (λ entry. ids_at rows table entry.block) entries
    → HasMore (is_of table family) rows old new
family_gathered rows table family within held entries old new is blocks p lists e =
    gathered (λ (x : Entry). x.block) entries table (is_of table family) rows old new
    (λ row c t.
    let h = both (same_table (table_of row.vrf) table) (same_family row.block.family family) t in
    let f = one_family row.block.family family h.1 in
    let there = space_has rows table family held row p c h.0 f in
    let lawful = All-contains (IsBlockOf family) held row.block (All-from_recursion (IsBlockOf family) held blocks) there in
    (h.0, lists.all row.block there (whole_has row.block within lawful.lawful (f ∙ sym (ap (λ (b : Cidr). b.family) is)) (ap (λ (b : Cidr). b.first) is) (ap (λ (b : Cidr). b.len) is))))
    (λ x row c t b.
    let k = lists.each x c in
    let own : row.block.family ≡ family = ap (λ (d : Cidr). d.family) b ∙ k.1.family ∙ ap (λ (d : Cidr). d.family) is in
    let one : same_family row.block.family family ≡ true = ap (λ (f : Family). same_family f family) own ∙ same_family-refl family in
    rw (t, one) refl)
    e

-- ---- nothing, and one after another

-- a table that is not there has no rows
pub none_there : (rows : List Placed) (tables : List TableBlocks) (table : Table) (test : Placed → Bool) (ids : List ℕ) → AreInOrder rows tables → (is_there tables table ≡ true → ⊥)
    → ((row : Placed) → test row ≡ true → same_table (table_of row.vrf) table ≡ true) → HasMore test rows ids ids
none_there rows tables table test ids order absent of = record {
  kept = λ n c. c;
  all = λ row c t. absurd (absent (ap (λ (u : Table). is_there tables u) (sym (one_table (table_of row.vrf) table (of row t))) ∙ order.named row c));
  each = λ n c. inl c;
}

module _ (rows : List Placed) where
  pub none_more : (test : Placed → Bool) (ids : List ℕ) → ((row : Placed) → test row ≡ false) → HasMore test rows ids ids
  none_more test ids fails = record {
    kept = λ n c. c;
    all = λ row c t. (let f : true ≡ false = sym t ∙ fails row in cc);
    each = λ n c. inl c;
  }

  pub more_then : (p q r : Placed → Bool) (a b c : List ℕ) → ((row : Placed) → r row ≡ (p row || q row)) → HasMore p rows a b → HasMore q rows b c → HasMore r rows a c
  more_then p q r a b c is h k = record {
    kept = λ n d. k.kept n (h.kept n d);
    all = λ row d t. go row d (p row) refl (sym (is row) ∙ t);
    each = λ n d. elim (k.each n d) [
      | inr w ↦ inr (w.0, w.1, is w.0 ∙ right (p w.0) (q w.0) w.2, w.3)
      | inl d ↦ elim (h.each n d) [ inl e ↦ inl e | inr w ↦ inr (w.0, w.1, is w.0 ∙ left (p w.0) (q w.0) w.2, w.3) ]
    ];
  }
    where
      left : (s t : Bool) → s ≡ true → (s || t) ≡ true
      left true t e = refl
      left false t e = cc

      right : (s t : Bool) → t ≡ true → (s || t) ≡ true
      right true t e = refl
      right false t e = e

      go : (row : Placed) → Contains rows row → (t : Bool) → p row ≡ t → (p row || q row) ≡ true → Contains c row.id
      go row d true e o = k.kept row.id (h.all row d e)
      go row d false e o = k.all row d (sym (ap (λ (s : Bool). s || q row) e) ∙ o)

-- both families are all
pub families_then : (rows : List Placed) (table : Table) (a b c : List ℕ) → HasMore (is_of table V4) rows a b → HasMore (is_of table V6) rows b c → HasMore (is_in_table table Anywhere) rows a c
families_then rows table a b c h k = more_then rows (is_of table V4) (is_of table V6) (is_in_table table Anywhere) a b c (λ row. go (same_table (table_of row.vrf) table) row.block.family) h k
  where
    go : (t : Bool) (f : Family) → (t && true) ≡ ((t && same_family f V4) || (t && same_family f V6))
    go true V4 = refl
    go true V6 = refl
    go false V4 = refl
    go false V6 = refl

-- a table more
pub table_then : (rows : List Placed) (tables : List Table) (area : Area) (i : ℕ) (table : Table) (a b c : List ℕ) → i < length tables
    → HasMore (is_looked_for (take i tables) area) rows a b → HasMore (is_in_table (get_or tables i table) area) rows b c → HasMore (is_looked_for (take (i + 1) tables) area) rows a c
table_then rows tables area i table a b c l h k =
    more_then rows (is_looked_for (take i tables) area) (is_in_table (get_or tables i table) area) (is_looked_for (take (i + 1) tables) area) a b c
    (λ row. list_any_more (λ t. is_in_table t area row) tables i table l) h k

-- what was gathered from nothing, in order
pub listed : (rows : List Placed) (test : Placed → Bool) (old new ids : List ℕ) → old ≡ [] → HasMore test rows old new → IsRising new ids → length new ≤ MOST_CANDIDATES → length ids ≤ length new → ListsIds test rows ids
listed rows test old new ids e h r few less = record {
  rises = r.rises;
  few = omega (arith, few, less);
  all = λ row c t. r.all row.id (h.all row c t);
  each = λ n d. elim (h.each n (r.each n d)) [ inl o ↦ none n (subst (λ (ns : List ℕ). Contains ns n) e o) | inr w ↦ w ];
}
