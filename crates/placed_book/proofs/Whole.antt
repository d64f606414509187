-- The blocks of all tables, with a row put in or taken out.
use Rattle.std.proofs.Common.{◌≡◌, ℕ, ◌<◌, ◌≤◌, Bool, true, false, cond, List, ◌∷◌, length, Some, None, refl, ap, sym, subst, arith, IsPermutation}
use Rattle.std.specs.List.{count_by}
use Rattle.std.proofs.lemmas.Bool.Decides.{nat_tests}
use Rattle.std.proofs.lemmas.List.Sorted.{IsPermutation-sym, IsPermutation-trans, IsPermutation-cons, length_permutation}
use Rattle.inet_num.specs.declared.Family.{Family}
use Rattle.inet_num.specs.Net.{Cidr}
use Rattle.block_space.specs.Listed.{times_of, is_same}
use Rattle.ipam_data.specs.RowList.{row_at, with_row, without, Rises}
use Rattle.inet_num.specs.Blocks.{same_family}
use Rattle.placed_book.proofs.RowPlaces.{without_none}
use Rattle.placed_book.specs.Book.{Placed, placed_id, TableBlocks, blocks_of_family, blocks_of_all, AreAll}
use Rattle.placed_book.specs.Changes.{IsOneMore, IsOneLess}
use Rattle.placed_book.proofs.Orders.{one_family, same_family-refl, count_alike, count_yes, beside}
use Rattle.placed_book.proofs.Rows.{picked, with_picked, cut_picked, put_picked, few_picked}

-- the row's block is of the family
abbrev is_in : Family → Placed → Bool
is_in family row = same_family row.block.family family

own : (x : Placed) (bs : List Cidr) → with_picked (is_in x.block.family) x bs ≡ x.block ∷ bs
own x bs = ap (λ (t : Bool). cond t (x.block ∷ bs) bs) (same_family-refl x.block.family)

other : (x : Placed) (family : Family) (bs : List Cidr) → same_family x.block.family family ≡ false → with_picked (is_in family) x bs ≡ bs
other x family bs e = ap (λ (t : Bool). cond t (x.block ∷ bs) bs) e

-- there are no more than rows
pub few_all : (rows : List Placed) (all : TableBlocks) (family : Family) → AreAll rows all → length (blocks_of_family all family) ≤ length rows
few_all rows all family h = (let n = length_permutation _ _ (h family) in let m = few_picked (is_in family) rows in omega arith)

-- the block of a row that is there stands among them
pub held_in_all : (rows : List Placed) (all : TableBlocks) (n : ℕ) (x : Placed) → Rises placed_id 0 rows → row_at placed_id rows n ≡ Some x → AreAll rows all → 0 < times_of (blocks_of_family all x.block.family) x.block
held_in_all rows all n x r e h =
    let cut = cut_picked (is_in x.block.family) 0 rows n x r e in
    let part = own x (picked (is_in x.block.family) (without placed_id rows n)) in
    let one = count_alike (is_same x.block) _ _ (h x.block.family) in
    let two = count_alike (is_same x.block) _ _ cut in
    let three = ap (λ (bs : List Cidr). count_by (is_same x.block) bs) part in
    let same : is_same x.block x.block ≡ true = grind (arith, nat_tests) in
    let four = count_yes (is_same x.block) x.block (picked (is_in x.block.family) (without placed_id rows n)) same in
    omega arith

pub cut_all : (rows : List Placed) (old new : TableBlocks) (n : ℕ) (x : Placed) → Rises placed_id 0 rows → row_at placed_id rows n ≡ Some x → AreAll rows old → IsOneLess x.block old new → AreAll (without placed_id rows n) new
cut_all rows old new n x r e h less family = go (same_family x.block.family family) refl where
  joined : (f : Family) → IsPermutation (with_picked (is_in f) x (picked (is_in f) (without placed_id rows n))) (blocks_of_family old f)
  joined f = IsPermutation-trans _ _ _ (IsPermutation-sym _ _ (cut_picked (is_in f) 0 rows n x r e)) (h f)

  go : (t : Bool) → same_family x.block.family family ≡ t → IsPermutation (blocks_of_all (without placed_id rows n) family) (blocks_of_family new family)
  go false k =
      subst (λ (bs : List Cidr). IsPermutation (blocks_of_all (without placed_id rows n) family) bs) (sym (less.others family k))
      (subst (λ (bs : List Cidr). IsPermutation bs (blocks_of_family old family)) (other x family (picked (is_in family) (without placed_id rows n)) k) (joined family))
  go true k =
      let mine = subst (λ (bs : List Cidr). IsPermutation bs (blocks_of_family old x.block.family)) (own x (picked (is_in x.block.family) (without placed_id rows n))) (joined x.block.family) in
      let whole = IsPermutation-trans _ _ _ mine less.taken in
      subst (λ (f : Family). IsPermutation (blocks_of_all (without placed_id rows n) f) (blocks_of_family new f)) (one_family x.block.family family k)
      (beside x.block (picked (is_in x.block.family) (without placed_id rows n)) (blocks_of_family new x.block.family) whole)

pub none_all : (rows : List Placed) (all : TableBlocks) (n : ℕ) → row_at placed_id rows n ≡ None → AreAll rows all → AreAll (without placed_id rows n) all
none_all rows all n e h = subst (λ (xs : List Placed). AreAll xs all) (sym (without_none placed_id rows n e)) h

pub put_all : (rows new_rows : List Placed) (old new : TableBlocks) (row : Placed) → Rises placed_id 0 rows → new_rows ≡ with_row placed_id rows row → AreAll (without placed_id rows row.id) old → IsOneMore row.block old new → AreAll new_rows new
put_all rows new_rows old new row r is h more = subst (λ (xs : List Placed). AreAll xs new) (sym is) (λ family. IsPermutation-trans _ _ _ (IsPermutation-sym _ _ (put_picked (is_in family) 0 rows row r)) (go family (same_family row.block.family family) refl)) where
  go : (family : Family) (t : Bool) → same_family row.block.family family ≡ t → IsPermutation (with_picked (is_in family) row (picked (is_in family) (without placed_id rows row.id))) (blocks_of_family new family)
  go family false k =
      subst (λ (bs : List Cidr). IsPermutation bs (blocks_of_family new family)) (sym (other row family (picked (is_in family) (without placed_id rows row.id)) k))
      (subst (λ (bs : List Cidr). IsPermutation (picked (is_in family) (without placed_id rows row.id)) bs) (sym (more.others family k)) (h family))
  go family true k =
      let whole = IsPermutation-trans _ _ _ (IsPermutation-cons row.block _ _ (h row.block.family)) more.put in
      subst (λ (f : Family). IsPermutation (with_picked (is_in f) row (picked (is_in f) (without placed_id rows row.id))) (blocks_of_family new f)) (one_family row.block.family family k)
      (subst (λ (bs : List Cidr). IsPermutation bs (blocks_of_family new row.block.family)) (sym (own row (picked (is_in row.block.family) (without placed_id rows row.id)))) whole)
