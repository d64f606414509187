-- The tree goes on with the members: a member more, a member fewer, a range or a member in the place of another.
use Rattle.std.proofs.Common.{◌≡◌, ◌≢◌, ◌==◌, ◌++◌, ℕ, Bool, true, false, cond, Option, Some, refl, sym, ap, ◌∙◌, subst, List, [], ◌∷◌, map, arith, if◌then◌else◌, IsPermutation}
use Rattle.std.proofs.lemmas.Bool.Decides.{nat_tests}
use mathlib.Core.List.{map-append}
use Rattle.std.proofs.lemmas.List.{append-nil}
use Rattle.std.proofs.lemmas.List.Sorted.{IsPermutation-cons, IsPermutation-middle, IsPermutation-sym, IsPermutation-trans}
use Rattle.inet_num.specs.Net.{Cidr}
use Rattle.placed_book.proofs.Orders.{beside}
use Rattle.number_pools.specs.declared.rows.NumberRange.{NumberRange}
use Rattle.number_pools.specs.declared.rows.Member.{Member}
use Rattle.ipam_data.specs.RowList.{row_at, with_row}
use Rattle.ipam_data.proofs.RowLists.{eq_true}
use Rattle.ipam_data.proofs.Kept.{found_there, put_found}
use Rattle.number_pools.specs.declared.rows.PoolKind.{PoolKind}
use Rattle.number_pools.specs.Rows.{member_id, range_id}
use Rattle.number_pools.specs.Free.{pool_at, pool_by, pool_found}
use Rattle.number_pools.specs.Keys.{AreKeys, key_block}
use Rattle.number_pools.proofs.Lists.{row_at_else}

-- one more member, whose block was put in
pub keys_more : (ranges : List NumberRange) (members : List Member) (m : Member) (held new : List Cidr) → AreKeys ranges members held → IsPermutation (key_block ranges m ∷ held) new → AreKeys ranges (members ++ m ∷ []) new
keys_more ranges members m held new keys put =
    let all : map (key_block ranges) (members ++ m ∷ []) ≡ map (key_block ranges) members ++ key_block ranges m ∷ [] = map-append (key_block ranges) members (m ∷ []) in
    let front : IsPermutation (map (key_block ranges) members ++ key_block ranges m ∷ []) (key_block ranges m ∷ map (key_block ranges) members) =
    subst (λ (l : List Cidr). IsPermutation (map (key_block ranges) members ++ key_block ranges m ∷ []) (key_block ranges m ∷ l)) (append-nil (map (key_block ranges) members))
    (IsPermutation-middle (map (key_block ranges) members) (key_block ranges m) []) in
    subst (λ (l : List Cidr). IsPermutation l new) (sym all)
    (IsPermutation-trans (map (key_block ranges) members ++ key_block ranges m ∷ []) (key_block ranges m ∷ map (key_block ranges) members) new front
    (IsPermutation-trans (key_block ranges m ∷ map (key_block ranges) members) (key_block ranges m ∷ held) new (IsPermutation-cons (key_block ranges m) (map (key_block ranges) members) held keys) put))

-- one member fewer, whose block was taken out
pub keys_fewer : (ranges : List NumberRange) (before behind : List Member) (m : Member) (held new : List Cidr) → AreKeys ranges (before ++ m ∷ behind) held → IsPermutation held (key_block ranges m ∷ new) → AreKeys ranges (before ++ behind) new
keys_fewer ranges before behind m held new keys took =
    let key = key_block ranges in
    let whole : map key (before ++ m ∷ behind) ≡ map key before ++ key m ∷ map key behind = map-append key before (m ∷ behind) in
    let here : IsPermutation (map key before ++ key m ∷ map key behind) held = subst (λ (l : List Cidr). IsPermutation l held) whole keys in
    let front : IsPermutation (key m ∷ (map key before ++ map key behind)) (map key before ++ key m ∷ map key behind) =
    IsPermutation-sym (map key before ++ key m ∷ map key behind) (key m ∷ (map key before ++ map key behind)) (IsPermutation-middle (map key before) (key m) (map key behind)) in
    let both : IsPermutation (key m ∷ (map key before ++ map key behind)) (key m ∷ new) =
    IsPermutation-trans (key m ∷ (map key before ++ map key behind)) (map key before ++ key m ∷ map key behind) (key m ∷ new) front
    (IsPermutation-trans (map key before ++ key m ∷ map key behind) held (key m ∷ new) here took) in
    subst (λ (l : List Cidr). IsPermutation l new) (sym (map-append key before behind)) (beside (key m) (map key before ++ map key behind) new both)

-- a range in the place of one of its kind: members stay in their pools
pub same_pool : (ranges : List NumberRange) (old row : NumberRange) → row_at range_id ranges row.id ≡ Some old → old.kind ≡ row.kind → (m : Member) → pool_at (with_row range_id ranges row) m ≡ pool_at ranges m
same_pool ranges old row there kind m = go (row.id == m.range) refl
  where
    own : old.id ≡ row.id
    own = (found_there range_id ranges row.id old there).1

    go : (t : Bool) → (row.id == m.range) ≡ t → pool_at (with_row range_id ranges row) m ≡ pool_at ranges m
    go true t =
        let q : row.id ≡ m.range = grind (arith, nat_tests, t) in
        let new : row_at range_id (with_row range_id ranges row) m.range ≡ Some row = ap (row_at range_id (with_row range_id ranges row)) (sym q) ∙ put_found range_id ranges row in
        let was : row_at range_id ranges m.range ≡ Some old = ap (row_at range_id ranges) (sym q) ∙ there in
        ap (λ (o : Option NumberRange). pool_found o m.range) new ∙ ap (λ (k : PoolKind). pool_by k row.id) (sym kind) ∙ ap (pool_by old.kind) (sym own) ∙ sym (ap (λ (o : Option NumberRange). pool_found o m.range) was)
    go false t =
        let d : row.id ≢ m.range = (λ q. let b : true ≡ false = sym (eq_true row.id m.range q) ∙ t in cc) in
        ap (λ (o : Option NumberRange). pool_found o m.range) (row_at_else range_id ranges row m.range d)

-- a member in the place of one with its block: the blocks are those of before
pub same_blocks : (f : Member → Cidr) (members : List Member) (old new : Member) → row_at member_id members new.id ≡ Some old → f new ≡ f old → map f (with_row member_id members new) ≡ map f members
same_blocks f [] old new there same = cc
same_blocks f (m ∷ ms) old new there same = go (m.id == new.id) there (λ e. same_blocks f ms old new e same)
  where
    go : (t : Bool) → cond t (Some m) (row_at member_id ms new.id) ≡ Some old → (row_at member_id ms new.id ≡ Some old → map f (with_row member_id ms new) ≡ map f ms)
        → map f (if t then new ∷ ms else m ∷ with_row member_id ms new) ≡ f m ∷ map f ms
    go true e ih = (let is : m ≡ old = cc in ap (λ (c : Cidr). c ∷ map f ms) (same ∙ ap f (sym is)))
    go false e ih = ap (λ (cs : List Cidr). f m ∷ cs) (ih e)
