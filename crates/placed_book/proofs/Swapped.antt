-- A space that was taken out of a book in order, and put back with the same blocks in some order: the book is in order again.
use Rattle.std.proofs.Common.{◌≡◌, Bool, true, false, List, Option, Some, refl, ap, sym, subst, ◌∙◌, IsPermutation}
use Rattle.std.proofs.lemmas.List.Sorted.{IsPermutation-trans}
use Rattle.inet_num.specs.declared.Family.{Family}
use Rattle.inet_num.specs.Net.{Cidr}
use Rattle.ipam_data.specs.declared.kinds.Table.{Table}
use Rattle.ipam_data.specs.Tables.{table_of, same_table}
use Rattle.inet_num.specs.Blocks.{same_family}
use Rattle.placed_book.specs.Book.{Placed, TableBlocks, table_at, is_there, blocks_of_family, blocks_in, blocks_at, blocks_of_rows, blocks_of_all, AreAll, AreInOrder}
use Rattle.placed_book.specs.Changes.{IsSwapped, IsChangedAt}
use Rattle.placed_book.proofs.Lookups.{one_table}
use Rattle.placed_book.proofs.Orders.{one_family}
use Rattle.placed_book.proofs.InOrder.{there_found, still_there}

found : (ts : List TableBlocks) (table : Table) (t : TableBlocks) (family : Family) → table_at ts table ≡ Some t → blocks_at ts table family ≡ blocks_of_family t family
found ts table t family e = ap (λ (o : Option TableBlocks). blocks_in o family) e

module _ (rows : List Placed) (t0 t1 t2 : List TableBlocks) (table : Table) (family : Family) (out back : List Cidr) where
  -- the tables after both swaps, beside the one that was swapped and its family
  pub there_again : is_there t0 table ≡ true → IsChangedAt table (IsSwapped family out) t0 t1 → IsChangedAt table (IsSwapped family back) t1 t2 → (t : Table) → is_there t2 t ≡ is_there t0 t
  there_again there first second t =
      let once = still_there table (IsSwapped family out) t0 t1 first there in
      still_there table (IsSwapped family back) t1 t2 second (once table ∙ there) t ∙ once t

  pub in_order_again : AreInOrder rows t0 → is_there t0 table ≡ true → IsChangedAt table (IsSwapped family out) t0 t1 → IsChangedAt table (IsSwapped family back) t1 t2 → IsPermutation (blocks_at t0 table family) back → AreInOrder rows t2
  in_order_again h there first second same =
      let x = there_found t0 table there in
      let y = first.here x.0 x.1 in
      let z = second.here y.0 y.1 in
      record {
        named = λ row c. there_again there first second (table_of row.vrf) ∙ h.named row c;
        blocks = λ other f. go x.0 x.1 y.0 y.2 z.0 z.1 z.2 other f (same_table other table) refl (same_family family f) refl;
      }
    where
      go : (x : TableBlocks) → table_at t0 table ≡ Some x → (y : TableBlocks) → IsSwapped family out x y → (z : TableBlocks) → table_at t2 table ≡ Some z → IsSwapped family back y z
          → (other : Table) (f : Family) (s : Bool) → same_table other table ≡ s → (k : Bool) → same_family family f ≡ k → IsPermutation (blocks_of_rows rows other f) (blocks_at t2 other f)
      go x xe y ys z ze zs other f false s k e =
          let is : blocks_at t2 other f ≡ blocks_at t0 other f = ap (λ (o : Option TableBlocks). blocks_in o f) (second.others other s ∙ first.others other s) in
          subst (λ (bs : List Cidr). IsPermutation (blocks_of_rows rows other f) bs) (sym is) (h.blocks other f)
      go x xe y ys z ze zs other f true s false e =
          let t_is = one_table other table s in
          let is : blocks_at t2 table f ≡ blocks_at t0 table f = found t2 table z f ze ∙ zs.others f e ∙ ys.others f e ∙ sym (found t0 table x f xe) in
          subst (λ (t : Table). IsPermutation (blocks_of_rows rows t f) (blocks_at t2 t f)) (sym t_is) (subst (λ (bs : List Cidr). IsPermutation (blocks_of_rows rows table f) bs) (sym is) (h.blocks table f))
      go x xe y ys z ze zs other f true s true e =
          let t_is = one_table other table s in
          let here : blocks_at t2 table family ≡ back = found t2 table z family ze ∙ zs.here in
          let order = IsPermutation-trans (blocks_of_rows rows table family) (blocks_at t0 table family) back (h.blocks table family) same in
          subst (λ (t : Table). IsPermutation (blocks_of_rows rows t f) (blocks_at t2 t f)) (sym t_is)
          (subst (λ (g : Family). IsPermutation (blocks_of_rows rows table g) (blocks_at t2 table g)) (one_family family f e)
          (subst (λ (bs : List Cidr). IsPermutation (blocks_of_rows rows table family) bs) (sym here) order))

-- the same of the blocks of all tables
pub all_again : (rows : List Placed) (a0 a1 a2 : TableBlocks) (family : Family) (out back : List Cidr) → AreAll rows a0 → IsSwapped family out a0 a1 → IsSwapped family back a1 a2 → IsPermutation (blocks_of_family a0 family) back → AreAll rows a2
all_again rows a0 a1 a2 family out back h first second same f = go (same_family family f) refl where
  go : (k : Bool) → same_family family f ≡ k → IsPermutation (blocks_of_all rows f) (blocks_of_family a2 f)
  go false e = subst (λ (bs : List Cidr). IsPermutation (blocks_of_all rows f) bs) (sym (second.others f e ∙ first.others f e)) (h f)
  go true e =
      let order = IsPermutation-trans (blocks_of_all rows family) (blocks_of_family a0 family) back (h family) same in
      subst (λ (g : Family). IsPermutation (blocks_of_all rows g) (blocks_of_family a2 g)) (one_family family f e)
      (subst (λ (bs : List Cidr). IsPermutation (blocks_of_all rows family) bs) (sym second.here) order)
