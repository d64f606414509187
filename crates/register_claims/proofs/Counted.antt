-- The blocks that count for a prefix or an aggregate, as a space has them and as the rows say.
use Rattle.std.proofs.Common.{◌≡◌, ℕ, ◌&&◌, ◌||◌, ◌+◌, ◌-◌, ◌<◌, ◌≤◌, nat_le, Bool, true, false, not, cond, List, [], ◌∷◌, map, filter, Option, Some, option_map, refl, ap, sym, subst, ◌∙◌, arith, Contains, IsPermutation, if◌then◌else◌}
use Rattle.std.proofs.lemmas.Bool.Decides.{nat_tests}
use Rattle.std.proofs.lemmas.Nat.{pow_pos}
use Rattle.inet_num.specs.declared.Family.{Family}
use Rattle.inet_num.specs.Net.{Cidr, IsBlock, IsInside, size_of, width_of, last_of}
use Rattle.inet_num.specs.Free.{is_inside, available_blocks_of}
use Rattle.inet_num.specs.Blocks.{same_family, is_strictly_inside, is_block_inside}
use Rattle.inet_num.proofs.Numbers.{inside_by_ends}
use Rattle.inet_num.proofs.Available.{inside_test, inside_tested}
use Rattle.inet_num.proofs.Insides.{both, one_family, inside_tested as inside_by_blocks}
use Rattle.block_space.specs.Listed.{IsBlockOf, AreBlocksOf, counts, counting_of, covered_of}
use Rattle.block_space.proofs.Alike.{answer_alike}
use Rattle.ipam_data.specs.declared.kinds.Table.{Table}
use Rattle.ipam_data.specs.declared.prefix.Prefix.{Prefix}
use Rattle.ipam_data.specs.declared.aggregate.Aggregate.{Aggregate}
use Rattle.ipam_data.specs.Tables.{table_of, same_table}
use Rattle.ipam_data.specs.Rows.{prefix_id}
use Rattle.ipam_data.specs.RowList.{row_at, AllAre}
use Rattle.ipam_data.specs.Lawful.{IsPrefix}
use Rattle.ipam_data.specs.Prefixes.{in_one_table, is_child}
use Rattle.ipam_data.specs.Claims.{sees_all, is_child_prefix, child_blocks, own_blocks, aggregated_blocks}
use Rattle.ipam_data.proofs.Kept.{found_there}
use Rattle.ipam_data.proofs.RowLists.{contains_rest, contains_head}
use Rattle.placed_book.specs.Book.{Placed, TableBlocks, TabledRows, placed_id, is_there, is_of, AreInOrder}
use Rattle.placed_book.specs.Kinds.{placed_prefix}
use Rattle.placed_book.proofs.Inside.{counts_strictly}
use Rattle.placed_book.proofs.Places.{places_at}
use Rattle.placed_book.proofs.Rows.{found_row}
use Rattle.register_tables.specs.Beside.{blocks_in_table, blocks_in_all}
use Rattle.register_claims.specs.Children.{IsThere, own_table_blocks, blocks_beside}

-- ---- a prefix that is there is lawful, and has its table

pub lawful_there : (rows : List Prefix) (row : Prefix) → AllAre IsPrefix rows → IsThere rows row → IsPrefix row
lawful_there rows row each there = each row (found_there prefix_id rows row.id row there).0

-- what was found under an id is there under its own
pub there_at : {T : Type 0} (id : T → ℕ) (rows : List T) (n : ℕ) (row : T) → row_at id rows n ≡ Some row → row_at id rows (id row) ≡ Some row
there_at id rows n row e = subst (λ (m : ℕ). row_at id rows m ≡ Some row) (sym (found_there id rows n row e).1) e

pub table_there : (rows : List Prefix) (tables : List TableBlocks) (row : Prefix) → AreInOrder (map placed_prefix rows) tables → IsThere rows row → is_there tables (table_of row.vrf) ≡ true
table_there rows tables row h there =
    h.named (placed_prefix row) (found_row (map placed_prefix rows) row.id (placed_prefix row)
    (places_at prefix_id placed_prefix (λ x. refl) rows row.id ∙ ap (λ (o : Option Prefix). option_map placed_prefix o) there))

-- ---- rows that pass, as the blocks that pass

-- the blocks of the prefixes that pass a test, as those of a wider one that pass by their block
through : (q : Prefix → Bool) (t : Placed → Bool) (p : Cidr → Bool) → ((x : Prefix) → q x ≡ (t (placed_prefix x) && p x.block)) → (rows : List Prefix)
    → map (λ (r : Prefix). r.block) (filter q rows) ≡ filter p (map (λ (r : Placed). r.block) (filter t (map placed_prefix rows)))
through q t p agree [] = refl
through q t p agree (x ∷ xs) = go (t (placed_prefix x)) (agree x) (through q t p agree xs)
  where
    go : (s : Bool) → q x ≡ (s && p x.block) → map (λ (r : Prefix). r.block) (filter q xs) ≡ filter p (map (λ (r : Placed). r.block) (filter t (map placed_prefix xs)))
        → map (λ (r : Prefix). r.block) (cond (q x) (x ∷ filter q xs) (filter q xs))
        ≡ filter p (map (λ (r : Placed). r.block) (cond s (placed_prefix x ∷ filter t (map placed_prefix xs)) (filter t (map placed_prefix xs))))
    go true e ih = rw e (pick (p x.block)) where
      pick : (u : Bool) → map (λ (r : Prefix). r.block) (cond u (x ∷ filter q xs) (filter q xs))
          ≡ cond u (x.block ∷ filter p (map (λ (r : Placed). r.block) (filter t (map placed_prefix xs)))) (filter p (map (λ (r : Placed). r.block) (filter t (map placed_prefix xs))))
      pick true = ap (λ (bs : List Cidr). x.block ∷ bs) ih
      pick false = ih
    go false e ih = rw e ih

-- the blocks of lawful prefixes that pass a test of the family are blocks of it
of_family : (f : Family) (t : Placed → Bool) (rows : List Prefix) → ((x : Placed) → t x ≡ true → x.block.family ≡ f) → AllAre IsPrefix rows
    → AreBlocksOf f (map (λ (r : Placed). r.block) (filter t (map placed_prefix rows)))
of_family f t [] fits each = tt
of_family f t (x ∷ xs) fits each = go (t (placed_prefix x)) refl (of_family f t xs fits (λ y c. each y (contains_rest x y xs c)))
  where
    go : (s : Bool) → t (placed_prefix x) ≡ s → AreBlocksOf f (map (λ (r : Placed). r.block) (filter t (map placed_prefix xs)))
        → AreBlocksOf f (map (λ (r : Placed). r.block) (cond s (placed_prefix x ∷ filter t (map placed_prefix xs)) (filter t (map placed_prefix xs))))
    go true e ih = (record { lawful = (each x (contains_head x xs)).bounds.block; family_is = fits (placed_prefix x) e }, ih)
    go false e ih = ih

-- ---- what counts

strictly : (w : Cidr) (bs : List Cidr) → IsBlock w → AreBlocksOf w.family bs → counting_of bs w true ≡ filter (λ b. is_strictly_inside b w) bs
strictly w [] hw h = refl
strictly w (b ∷ bs) hw h =
    ap (λ (t : Bool). cond t (b ∷ counting_of bs w true) (counting_of bs w true)) (counts_strictly w b hw h.0.lawful h.0.family_is)
    ∙ ap (λ (cs : List Cidr). cond (is_strictly_inside b w) (b ∷ cs) cs) (strictly w bs hw h.1)

-- a block that lies inside by its ends does so
inside_from_ends : (b w : Cidr) → is_block_inside b w ≡ true → IsInside b w
inside_from_ends b w t =
    let families = same_family b.family w.family in
    let begins = nat_le w.first b.first in
    let h = both (families && begins) (nat_le (last_of b).value (last_of w).value) t in
    let k = both families begins h.0 in
    let low : w.first ≤ b.first = (let e = k.1 in grind (arith, nat_tests)) in
    let ends : b.first + size_of b - 1 ≤ w.first + size_of w - 1 = (let e = h.1 in grind (arith, nat_tests)) in
    let some : 0 < size_of b = pow_pos (width_of b.family - b.len) in
    let some_outer : 0 < size_of w = pow_pos (width_of w.family - w.len) in
    inside_by_ends b w (one_family b.family w.family k.0) low (omega arith)

counts_inside : (w b : Cidr) → b.family ≡ w.family → counts w false b ≡ is_block_inside b w
counts_inside w b e = go (is_inside b w) refl (is_block_inside b w) refl
  where
    go : (s : Bool) → is_inside b w ≡ s → (t : Bool) → is_block_inside b w ≡ t → (s && true) ≡ t
    go true s true t = refl
    go true s false t = (let k = inside_by_blocks b w (inside_test b w e s) in cc)
    go false s true t = (let k = inside_tested b w (inside_from_ends b w t) in cc)
    go false s false t = refl

inside : (w : Cidr) (bs : List Cidr) → AreBlocksOf w.family bs → counting_of bs w false ≡ filter (λ b. is_block_inside b w) bs
inside w [] h = refl
inside w (b ∷ bs) h =
    ap (λ (t : Bool). cond t (b ∷ counting_of bs w false) (counting_of bs w false)) (counts_inside w b h.0.family_is)
    ∙ ap (λ (cs : List Cidr). cond (is_block_inside b w) (b ∷ cs) cs) (inside w bs h.1)

-- ---- the tests of rows

-- a test that asks for the family asks for it once more
again : (f a b c : Bool) → (f && a && b && c) ≡ (f && (f && a && b && c))
again true a b c = refl
again false a b c = refl

again_ends : (f a b : Bool) → (f && a && b) ≡ (f && (f && a && b))
again_ends true a b = refl
again_ends false a b = refl

in_table : (t f i : Bool) → i ≡ (f && i) → (t && i) ≡ ((t && f) && i)
in_table true f i e = e
in_table false f i e = refl

strictly_again : (b w : Cidr) → is_strictly_inside b w ≡ (same_family b.family w.family && is_strictly_inside b w)
strictly_again b w = again (same_family b.family w.family) _ _ _

inside_again : (b w : Cidr) → is_block_inside b w ≡ (same_family b.family w.family && is_block_inside b w)
inside_again b w = again_ends (same_family b.family w.family) _ _

table_family : (table : Table) (f : Family) (x : Placed) → is_of table f x ≡ true → x.block.family ≡ f
table_family table f x e = one_family x.block.family f (both (same_table (table_of x.vrf) table) (same_family x.block.family f) e).1

all_family : (f : Family) (x : Placed) → same_family x.block.family f ≡ true → x.block.family ≡ f
all_family f x e = one_family x.block.family f e

-- ---- spaces and rows

module _ (rows : List Prefix) (each : AllAre IsPrefix rows) where
  pub own_counted : (row : Prefix) → IsBlock row.block → counting_of (own_table_blocks rows row) row.block true ≡ own_blocks rows row
  own_counted row hw =
      strictly row.block (own_table_blocks rows row) hw (of_family row.block.family (is_of (table_of row.vrf) row.block.family) rows (table_family (table_of row.vrf) row.block.family) each)
      ∙ sym (through (is_child row) (is_of (table_of row.vrf) row.block.family) (λ b. is_strictly_inside b row.block)
      (λ x. in_table (same_table (table_of x.vrf) (table_of row.vrf)) (same_family x.block.family row.block.family) (is_strictly_inside x.block row.block) (strictly_again x.block row.block)) rows)

  seen : (s : Bool) (row x : Prefix) → sees_all row ≡ s → is_child_prefix row x ≡ ((s || in_one_table row x) && is_strictly_inside x.block row.block)
  seen s row x e = ap (λ (u : Bool). (u || in_one_table row x) && is_strictly_inside x.block row.block) e

  -- where the rows of every table count, and where those of its own
  pub all_counted : (row : Prefix) → IsBlock row.block → sees_all row ≡ true → counting_of (blocks_in_all rows row.block.family) row.block true ≡ child_blocks rows row
  all_counted row hw e =
      strictly row.block (blocks_in_all rows row.block.family) hw (of_family row.block.family (λ x. same_family x.block.family row.block.family) rows (all_family row.block.family) each)
      ∙ sym (through (is_child_prefix row) (λ x. same_family x.block.family row.block.family) (λ b. is_strictly_inside b row.block)
      (λ x. seen true row x e ∙ strictly_again x.block row.block) rows)

  pub table_counted : (row : Prefix) → IsBlock row.block → sees_all row ≡ false → counting_of (own_table_blocks rows row) row.block true ≡ child_blocks rows row
  table_counted row hw e =
      strictly row.block (own_table_blocks rows row) hw (of_family row.block.family (is_of (table_of row.vrf) row.block.family) rows (table_family (table_of row.vrf) row.block.family) each)
      ∙ sym (through (is_child_prefix row) (is_of (table_of row.vrf) row.block.family) (λ b. is_strictly_inside b row.block)
      (λ x. seen false row x e ∙ in_table (same_table (table_of x.vrf) (table_of row.vrf)) (same_family x.block.family row.block.family) (is_strictly_inside x.block row.block) (strictly_again x.block row.block)) rows)

  pub beside_counted : (row : Prefix) → IsBlock row.block → counting_of (blocks_beside rows row) row.block true ≡ child_blocks rows row
  beside_counted row hw = go (sees_all row) refl
    where
      go : (s : Bool) → sees_all row ≡ s → counting_of (if s then blocks_in_all rows row.block.family else own_table_blocks rows row) row.block true ≡ child_blocks rows row
      go true e = all_counted row hw e
      go false e = table_counted row hw e

  pub aggregate_counted : (row : Aggregate) → counting_of (blocks_in_all rows row.block.family) row.block false ≡ aggregated_blocks rows row
  aggregate_counted row =
      inside row.block (blocks_in_all rows row.block.family) (of_family row.block.family (λ x. same_family x.block.family row.block.family) rows (all_family row.block.family) each)
      ∙ sym (through (λ x. is_block_inside x.block row.block) (λ x. same_family x.block.family row.block.family) (λ b. is_block_inside b row.block)
      (λ x. inside_again x.block row.block) rows)

-- ---- what a space answers, as asked of the rows

pub available_beside : (within : Cidr) (blocks held counted : List Cidr) → IsBlock within → IsPermutation blocks held → counting_of blocks within true ≡ counted
    → available_blocks_of within (counting_of held within true) ≡ available_blocks_of within counted
available_beside within blocks held counted hw h e =
    sym (((answer_alike blocks held h).counting within true).available_blocks within hw) ∙ ap (λ (bs : List Cidr). available_blocks_of within bs) e

pub covered_beside : (within : Cidr) (strict : Bool) (blocks held counted : List Cidr) → IsPermutation blocks held → counting_of blocks within strict ≡ counted
    → covered_of (counting_of held within strict) within ≡ covered_of counted within
covered_beside within strict blocks held counted h e =
    sym (((answer_alike blocks held h).counting within strict).covered within) ∙ ap (λ (bs : List Cidr). covered_of bs within) e

-- the same blocks, where the book is known under another name
pub beside_in : (book known : TabledRows Prefix) (row : Prefix) (held : List Cidr) → book ≡ known → IsPermutation (blocks_beside book.rows row) held → IsPermutation (blocks_beside known.rows row) held
beside_in book known row held e h = subst (λ (b : TabledRows Prefix). IsPermutation (blocks_beside b.rows row) held) e h

pub own_in : (book known : TabledRows Prefix) (row : Prefix) (held : List Cidr) → book ≡ known → IsPermutation (own_table_blocks book.rows row) held → IsPermutation (own_table_blocks known.rows row) held
own_in book known row held e h = subst (λ (b : TabledRows Prefix). IsPermutation (own_table_blocks b.rows row) held) e h

pub all_in : (book known : TabledRows Prefix) (f g : Family) (held : List Cidr) → book ≡ known → f ≡ g → IsPermutation (blocks_in_all book.rows f) held → IsPermutation (blocks_in_all known.rows g) held
all_in book known f g held e k h =
    subst (λ (x : Family). IsPermutation (blocks_in_all known.rows x) held) k (subst (λ (b : TabledRows Prefix). IsPermutation (blocks_in_all b.rows f) held) e h)
