-- One row more of a pass over stored rows.
use Rattle.std.proofs.Common.{◌≡◌, ℕ, zero, suc, ◌+◌, ◌<◌, ◌≤◌, ◌==◌, ◌||◌, ◌&&◌, ◌++◌, nat_eq, nat_le, nat_lt, Bool, true, false, List, [], ◌∷◌, count_by, drop, fold, get_or, length, map, take, Option, Some, None, refl, ap, sym, ◌∙◌, subst, arith, IsPermutation}
use Rattle.std.proofs.lemmas.Bool.Decides.{nat_tests}
use Rattle.std.proofs.lemmas.List.{take_more, drop_more}
use Rattle.std.proofs.lemmas.List.Sums.{fold_more}
use Rattle.inet_num.specs.declared.Family.{Family}
use Rattle.inet_num.specs.declared.Family.TheVariants.{V6}
use Rattle.inet_num.specs.Net.{Cidr}
use Rattle.block_space.specs.Listed.{is_same, times_of}
use Rattle.ipam_data.specs.RowList.{row_at}
use Rattle.placed_book.proofs.Orders.{count_alike, count_no, count_yes}
use Rattle.number_pools.specs.declared.rows.NumberRange.{NumberRange}
use Rattle.number_pools.specs.declared.rows.Member.{Member}
use Rattle.number_pools.specs.Rows.{member_id, range_id}
use Rattle.number_pools.specs.Free.{is_held, pool_at, pool_found}
use Rattle.number_pools.specs.Keys.{AreKeys, key_block, key_of, pool_size}
use Rattle.number_pools.proofs.Frees.{AreNumbers}
use Rattle.number_pools.proofs.Kept.{keys_more}
use Rattle.pool_rows.proofs.KeysStay.{keys_length}
use Rattle.pool_opening.specs.Faults.{breaks_member, breaks_range, greater, is_out_of_order, is_outside, least_broken, lesser_if, top_of}

module _ {T : Type 0} (id : T → ℕ) where
  pub broken_more : (breaks : List T → T → Bool) (xs : List T) (k : ℕ) (d : T) (found all : Option ℕ) → k < length xs → least_broken id breaks (take k xs) found (drop k xs) ≡ all
      → least_broken id breaks (take (k + 1) xs) (lesser_if (breaks (take k xs) (get_or xs k d)) (id (get_or xs k d)) found) (drop (k + 1) xs) ≡ all
  broken_more breaks xs k d found all lt e =
      ap (λ (before : List T). least_broken id breaks before (lesser_if (breaks (take k xs) (get_or xs k d)) (id (get_or xs k d)) found) (drop (k + 1) xs)) (take_more xs k d lt)
      ∙ ap (λ (left : List T). least_broken id breaks (take k xs) found left) (sym (drop_more xs k d lt)) ∙ e

  pub top_next : (xs : List T) (k : ℕ) (d : T) (top new : ℕ) → k < length xs → top ≡ top_of id (take k xs) → new ≡ greater top (id (get_or xs k d)) → new ≡ top_of id (take (k + 1) xs)
  top_next xs k d top new lt t n = n ∙ ap (λ (m : ℕ). greater m (id (get_or xs k d))) t ∙ sym (fold_more (λ m x. greater m (id x)) 0 xs k d lt)

-- ---- the tree tells which numbers are held

same_key : (p n q k : ℕ) → n < pool_size → k < pool_size → (nat_eq (key_of p n) (key_of q k) && nat_eq 128 128) ≡ (q == p && k == n)
same_key p n q k ln lk = go (q == p) refl (k == n) refl
  where
    go : (s : Bool) → (q == p) ≡ s → (t : Bool) → (k == n) ≡ t → (nat_eq (key_of p n) (key_of q k) && nat_eq 128 128) ≡ (s && t)
    go true e true f = grind (arith, nat_tests)
    go true e false f = grind (arith, nat_tests)
    go false e true f = grind (arith, nat_tests)
    go false e false f = grind (arith, nat_tests)

counted_held : (ranges : List NumberRange) (before : List Member) (m : Member) → AreNumbers before → m.number < pool_size
    → nat_lt 0 (count_by (is_same (key_block ranges m)) (map (key_block ranges) before)) ≡ is_held ranges before (pool_at ranges m) m.number
counted_held ranges [] m all lt = refl
counted_held ranges (x ∷ xs) m all lt =
    go (is_same (key_block ranges m) (key_block ranges x)) refl (same_key (pool_at ranges m) m.number (pool_at ranges x) x.number lt all.0) (counted_held ranges xs m all.1 lt)
  where
    go : (t : Bool) → is_same (key_block ranges m) (key_block ranges x) ≡ t → is_same (key_block ranges m) (key_block ranges x) ≡ (pool_at ranges x == pool_at ranges m && x.number == m.number)
        → nat_lt 0 (count_by (is_same (key_block ranges m)) (map (key_block ranges) xs)) ≡ is_held ranges xs (pool_at ranges m) m.number
        → nat_lt 0 (count_by (is_same (key_block ranges m)) (key_block ranges x ∷ map (key_block ranges) xs)) ≡ is_held ranges (x ∷ xs) (pool_at ranges m) m.number
    go true t e ih =
        let n = count_yes (is_same (key_block ranges m)) (key_block ranges x) (map (key_block ranges) xs) t in
        let more : nat_lt 0 (count_by (is_same (key_block ranges m)) (key_block ranges x ∷ map (key_block ranges) xs)) ≡ true = grind (arith, nat_tests, n) in
        more ∙ ap (λ (b : Bool). b || is_held ranges xs (pool_at ranges m) m.number) (sym t ∙ e)
    go false t e ih =
        ap (nat_lt 0) (count_no (is_same (key_block ranges m)) (key_block ranges x) (map (key_block ranges) xs) t) ∙ ih ∙ ap (λ (b : Bool). b || is_held ranges xs (pool_at ranges m) m.number) (sym t ∙ e)

tree_held : (ranges : List NumberRange) (before : List Member) (m : Member) (held : List Cidr) → AreNumbers before → m.number < pool_size → AreKeys ranges before held
    → nat_lt 0 (times_of held (key_block ranges m)) ≡ is_held ranges before (pool_at ranges m) m.number
tree_held ranges before m held all lt keys =
    ap (nat_lt 0) (sym (count_alike (is_same (key_block ranges m)) (map (key_block ranges) before) held keys)) ∙ counted_held ranges before m all lt

-- ---- a range that was looked up

-- the block of the number, by the range that was found
pub key_by_range : (ranges : List NumberRange) (m : Member) (range : Option NumberRange) (key : Cidr) → range ≡ row_at range_id ranges m.range
    → key ≡ record { family = V6; first = key_of (pool_found range m.range) m.number; len = 128 } → key ≡ key_block ranges m
key_by_range ranges m range key r k = k ∙ ap (λ (o : Option NumberRange). let block : Cidr = record { family = V6; first = key_of (pool_found o m.range) m.number; len = 128 } in block) r

-- what the tree says, by the range and the block that were found
pub told_by_range : (ranges : List NumberRange) (m : Member) (range : Option NumberRange) (key : Cidr) (broken : Bool) (highest : ℕ) (held : List Cidr) → range ≡ row_at range_id ranges m.range
    → key ≡ key_block ranges m → broken ≡ (nat_le m.id highest || is_outside range m.number || nat_lt 0 (times_of held key))
    → broken ≡ (nat_le m.id highest || is_outside (row_at range_id ranges m.range) m.number || nat_lt 0 (times_of held (key_block ranges m)))
told_by_range ranges m range key broken highest held r k e =
    e ∙ ap (λ (o : Option NumberRange). nat_le m.id highest || is_outside o m.number || nat_lt 0 (times_of held key)) r
    ∙ ap (λ (b : Cidr). nat_le m.id highest || is_outside (row_at range_id ranges m.range) m.number || nat_lt 0 (times_of held b)) k

-- ---- the pass over members

pub record IsPassing (ranges : List NumberRange) (members : List Member) (least : Option ℕ) (highest place : ℕ) (held : List Cidr) (kind : Family) (spare : ℕ) : Type 0 where
  pub found : least_broken member_id (breaks_member ranges) (take place members) least (drop place members) ≡ least_broken member_id (breaks_member ranges) [] None members
  pub top : highest ≡ top_of member_id (take place members)
  pub within : place ≤ length members
  pub keys : AreKeys ranges (take place members) held
  pub family : kind ≡ V6
  pub room : length members ≤ place + spare
  pub numbers : AreNumbers (take place members)

numbers_more : (xs : List Member) (m : Member) → AreNumbers xs → m.number < pool_size → AreNumbers (xs ++ m ∷ [])
numbers_more [] m all lt = (lt, tt)
numbers_more (x ∷ xs) m all lt = (all.0, numbers_more xs m all.1 lt)

module _ (ranges : List NumberRange) (members : List Member) (least : Option ℕ) (highest place : ℕ) (held : List Cidr) (kind : Family) (spare : ℕ) where
  -- what the tree says of the next row is the rule
  told_by_tree : (m : Member) (broken : Bool) → IsPassing ranges members least highest place held kind spare → m.number < pool_size
      → broken ≡ (nat_le m.id highest || is_outside (row_at range_id ranges m.range) m.number || nat_lt 0 (times_of held (key_block ranges m))) → broken ≡ breaks_member ranges (take place members) m
  told_by_tree m broken h lt e =
      e ∙ ap (λ (n : ℕ). nat_le m.id n || is_outside (row_at range_id ranges m.range) m.number || nat_lt 0 (times_of held (key_block ranges m))) h.top
      ∙ ap (λ (b : Bool). is_out_of_order member_id (take place members) m || is_outside (row_at range_id ranges m.range) m.number || b) (tree_held ranges (take place members) m held h.numbers lt h.keys)

  pub one_passed : (d m : Member) (broken : Bool) (new_least : Option ℕ) (new_highest : ℕ) (new : List Cidr) (new_kind : Family) (new_spare : ℕ) → IsPassing ranges members least highest place held kind spare
      → place < length members → m ≡ get_or members place d → m.number < pool_size
      → broken ≡ (nat_le m.id highest || is_outside (row_at range_id ranges m.range) m.number || nat_lt 0 (times_of held (key_block ranges m)))
      → new_least ≡ lesser_if broken m.id least → new_highest ≡ greater highest m.id → IsPermutation (key_block ranges m ∷ held) new → new_kind ≡ kind → spare ≤ new_spare + 1
      → IsPassing ranges members new_least new_highest (place + 1) new new_kind new_spare
  one_passed d m broken new_least new_highest new new_kind new_spare h lt is fits e l t put f s =
      let b = told_by_tree m broken h fits e in
      let least_is : new_least ≡ lesser_if (breaks_member ranges (take place members) m) m.id least = l ∙ ap (λ (t : Bool). lesser_if t m.id least) b in
      let there : new_least ≡ lesser_if (breaks_member ranges (take place members) (get_or members place d)) (member_id (get_or members place d)) least =
      subst (λ (x : Member). new_least ≡ lesser_if (breaks_member ranges (take place members) x) x.id least) is least_is in
      let more : take place members ++ m ∷ [] ≡ take (place + 1) members = ap (λ (x : Member). take place members ++ x ∷ []) is ∙ sym (take_more members place d lt) in
      let r = h.room in
      record {
        found = ap (λ (o : Option ℕ). least_broken member_id (breaks_member ranges) (take (place + 1) members) o (drop (place + 1) members)) there
            ∙ broken_more member_id (breaks_member ranges) members place d least (least_broken member_id (breaks_member ranges) [] None members) lt h.found;
        top = top_next member_id members place d highest new_highest lt h.top (t ∙ ap (λ (x : Member). greater highest x.id) is);
        within = omega arith;
        keys = subst (λ (ms : List Member). AreKeys ranges ms new) more (keys_more ranges (take place members) m held new h.keys put);
        family = f ∙ h.family;
        room = omega arith;
        numbers = subst AreNumbers more (numbers_more (take place members) m h.numbers fits);
      }

take_short : (k : ℕ) (xs : List Member) → length (take k xs) ≤ length xs
take_short zero xs = omega arith
take_short (suc k) [] = omega arith
take_short (suc k) (x ∷ xs) = (let h = take_short k xs in omega arith)

-- the tree has no more numbers than there are members
pub few_held : (ranges : List NumberRange) (members : List Member) (least : Option ℕ) (highest place : ℕ) (held : List Cidr) (kind : Family) (spare : ℕ) → IsPassing ranges members least highest place held kind spare → length held ≤ length members
few_held ranges members least highest place held kind spare h =
    let n = keys_length ranges (take place members) held h.keys in
    let t = take_short place members in
    omega arith
