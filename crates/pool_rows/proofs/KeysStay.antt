-- The tree has the numbers of all members still, when a range comes or goes, and when a member does.
use Rattle.std.proofs.Common.{◌≡◌, ◌≢◌, ℕ, ◌<◌, ◌≤◌, ◌==◌, ◌++◌, ◌⊎◌, Bool, true, false, cond, List, [], ◌∷◌, length, map, Option, Some, refl, ap, sym, ◌∙◌, subst, arith, MatchBool, inl, inr, Contains, IsPermutation}
use Rattle.std.specs.List.{count_by}
use Rattle.std.proofs.lemmas.Bool.Decides.{nat_tests}
use Rattle.std.proofs.lemmas.List.{length-map}
use Rattle.std.proofs.lemmas.List.Sorted.{length_permutation}
use Rattle.inet_num.specs.declared.Family.TheVariants.{V6}
use Rattle.inet_num.specs.Net.{Cidr}
use Rattle.ipam_data.specs.RowList.{AllBelow, Rises, row_at, with_row, without}
use Rattle.block_space.specs.Listed.{is_same, times_of}
use Rattle.ipam_data.proofs.RowLists.{contains_cases, contains_head, contains_rest, id_below}
use Rattle.ipam_data.proofs.Kept.{found_there, none_above}
use Rattle.placed_book.proofs.Orders.{count_alike, count_no, count_yes}
use Rattle.placed_book.proofs.RowPlaces.{none_below, with_row_new, without_none}
use Rattle.number_pools.specs.declared.rows.NumberRange.{NumberRange}
use Rattle.number_pools.specs.declared.rows.Member.{Member}
use Rattle.number_pools.specs.Rows.{Pools, member_id, range_id}
use Rattle.number_pools.specs.Free.{pool_at, pool_found}
use Rattle.number_pools.specs.Keys.{AreKeys, key_block, key_of}
use Rattle.number_pools.specs.Lawful.{IsLawfulPools}
use Rattle.number_pools.proofs.Kept.{keys_fewer, keys_more, same_blocks, same_pool}
use Rattle.number_pools.proofs.Lists.{row_at_beside, row_at_else}

map_same : {X Y : Type 0} (f g : X → Y) (xs : List X) → ((x : X) → Contains xs x → f x ≡ g x) → map f xs ≡ map g xs
map_same f g [] h = refl
map_same f g (x ∷ xs) h = λ i. h x (contains_head x xs) i ∷ map_same f g xs (λ y c. h y (contains_rest x y xs c)) i

-- the ranges of all members are found as before
keys_beside : (old new : List NumberRange) (members : List Member) (held : List Cidr) → ((m : Member) → Contains members m → row_at range_id new m.range ≡ row_at range_id old m.range)
    → AreKeys old members held → AreKeys new members held
keys_beside old new members held same keys =
    subst (λ (bs : List Cidr). IsPermutation bs held)
    (sym (map_same (key_block new) (key_block old) members (λ m c. ap (λ (o : Option NumberRange). record { family = V6; first = key_of (pool_found o m.range) m.number; len = 128 }) (same m c)))) keys

pub keys_with_range : (s : Pools) (row : NumberRange) (held : List Cidr) → IsLawfulPools s → row.id ≡ s.ranges.next → AreKeys s.ranges.rows s.members.rows held
    → AreKeys (with_row range_id s.ranges.rows row) s.members.rows held
keys_with_range s row held h id keys =
    keys_beside s.ranges.rows (with_row range_id s.ranges.rows row) s.members.rows held
    (λ m c. row_at_else range_id s.ranges.rows row m.range
    (λ q. let r = h.within m c in let b = id_below range_id s.ranges.next m.range s.ranges.rows h.ranges.below (rw r.1 refl) in absurd (omega arith))) keys

pub keys_without_range : (ranges : List NumberRange) (members : List Member) (id : ℕ) (held : List Cidr) → ((m : Member) → Contains members m → m.range ≢ id)
    → AreKeys ranges members held → AreKeys (without range_id ranges id) members held
keys_without_range ranges members id held unused keys =
    keys_beside ranges (without range_id ranges id) members held (λ m c. row_at_beside range_id ranges id m.range (unused m c)) keys

-- a range in the place of one of its kind, and a member in the place of one that holds its number
pub keys_with_edited_range : (ranges : List NumberRange) (members : List Member) (old row : NumberRange) (held : List Cidr) → row_at range_id ranges row.id ≡ Some old → old.kind ≡ row.kind
    → AreKeys ranges members held → AreKeys (with_row range_id ranges row) members held
keys_with_edited_range ranges members old row held there kind keys =
    subst (λ (bs : List Cidr). IsPermutation bs held)
    (sym (map_same (key_block (with_row range_id ranges row)) (key_block ranges) members
    (λ m c. ap (λ (pool : ℕ). let b : Cidr = record { family = V6; first = key_of pool m.number; len = 128 } in b) (same_pool ranges old row there kind m)))) keys

pub keys_with_edited_member : (ranges : List NumberRange) (members : List Member) (old new : Member) (held : List Cidr) → row_at member_id members new.id ≡ Some old → old.range ≡ new.range → old.number ≡ new.number
    → AreKeys ranges members held → AreKeys ranges (with_row member_id members new) held
keys_with_edited_member ranges members old new held there range number keys =
    let pool : pool_at ranges new ≡ pool_at ranges old = ap (λ (n : ℕ). pool_found (row_at range_id ranges n) n) (sym range) in
    let same : key_block ranges new ≡ key_block ranges old = (λ i. record { family = V6; first = key_of (pool i) (sym number i); len = 128 }) in
    subst (λ (bs : List Cidr). IsPermutation bs held) (sym (same_blocks (key_block ranges) members old new there same)) keys

pub keys_with_member : (ranges : List NumberRange) (members : List Member) (m : Member) (held new : List Cidr) → AllBelow member_id m.id members → AreKeys ranges members held
    → IsPermutation (key_block ranges m ∷ held) new → AreKeys ranges (with_row member_id members m) new
keys_with_member ranges members m held new below keys put =
    subst (λ (ms : List Member). AreKeys ranges ms new) (sym (with_row_new member_id members m (none_above member_id m.id m.id members below (omega arith)))) (keys_more ranges members m held new keys put)

-- a row that is found parts the list
pub record IsParted (rows : List Member) (n : ℕ) (m : Member) : Type 0 where
  pub before : List Member
  pub rest : List Member
  pub whole : rows ≡ before ++ m ∷ rest
  pub cut : without member_id rows n ≡ before ++ rest

pub parted : (low : ℕ) (rows : List Member) (n : ℕ) (m : Member) → Rises member_id low rows → row_at member_id rows n ≡ Some m → IsParted rows n m
parted low [] n m r e = cc
parted low (x ∷ xs) n m r e = go (x.id == n) refl e (parted x.id xs n m r.1)
  where
    go : (t : Bool) → (x.id == n) ≡ t → cond t (Some x) (row_at member_id xs n) ≡ Some m → (row_at member_id xs n ≡ Some m → IsParted xs n m) → IsParted (x ∷ xs) n m
    go true t e ih =
        let is : x ≡ m = cc in
        let k : n ≤ x.id = grind (arith, nat_tests, t) in
        record { before = []; rest = xs; whole = ap (λ (y : Member). y ∷ xs) is; cut = rw t (without_none member_id xs n (none_below member_id x.id n xs r.1 k)) }
    go false t e ih =
        let p = ih e in
        record { before = x ∷ p.before; rest = p.rest; whole = ap (λ (ys : List Member). x ∷ ys) p.whole; cut = rw t (ap (λ (ys : List Member). x ∷ ys) p.cut) }

pub keys_without_member : (ranges : List NumberRange) (members : List Member) (n : ℕ) (m : Member) (held new : List Cidr) → Rises member_id 0 members → row_at member_id members n ≡ Some m
    → AreKeys ranges members held → IsPermutation held (key_block ranges m ∷ new) → AreKeys ranges (without member_id members n) new
keys_without_member ranges members n m held new r e keys took =
    let p = parted 0 members n m r e in
    subst (λ (ms : List Member). AreKeys ranges ms new) (sym p.cut)
    (keys_fewer ranges p.before p.rest m held new (subst (λ (ms : List Member). AreKeys ranges ms held) p.whole keys) took)

-- the tree has as many addresses as there are members
pub keys_length : (ranges : List NumberRange) (members : List Member) (held : List Cidr) → AreKeys ranges members held → length held ≡ length members
keys_length ranges members held keys = (let a = length_permutation (map (key_block ranges) members) held keys in let b = length-map members (key_block ranges) in omega arith)

-- the block of a row that is there is counted
counted : (f : Member → Cidr) (b : Cidr) (xs : List Member) (m : Member) → is_same b (f m) ≡ true → Contains xs m → 0 < count_by (is_same b) (map f xs)
counted f b [] m e c = let h = c.1 in absurd (omega arith)
counted f b (x ∷ xs) m e c = go (is_same b (f x)) refl (contains_cases x m xs c) (λ d. counted f b xs m e d)
  where
    go : (t : Bool) → is_same b (f x) ≡ t → (x ≡ m) ⊎ Contains xs m → (Contains xs m → 0 < count_by (is_same b) (map f xs)) → 0 < count_by (is_same b) (f x ∷ map f xs)
    go true t d ih = let n = count_yes (is_same b) (f x) (map f xs) t in omega arith
    go false t (inl s) ih = let q : true ≡ false = sym e ∙ ap (λ (y : Member). is_same b (f y)) (sym s) ∙ t in cc
    go false t (inr d) ih = let n = count_no (is_same b) (f x) (map f xs) t in let p = ih d in omega arith

-- the tree has the number of a member that is there
pub key_held : (ranges : List NumberRange) (members : List Member) (m : Member) (held : List Cidr) → Contains members m → AreKeys ranges members held
    → 0 < times_of held (key_block ranges m)
key_held ranges members m held c keys =
    let b = key_block ranges m in
    let there = counted (key_block ranges) b members m (let same : is_same b b ≡ true = grind (arith, nat_tests) in same) c in
    let alike : count_by (is_same b) (map (key_block ranges) members) ≡ times_of held b = count_alike (is_same b) (map (key_block ranges) members) held keys in
    rw alike at there

-- and that of one that is found
pub key_there : (ranges : List NumberRange) (members : List Member) (n : ℕ) (m : Member) (held : List Cidr) → row_at member_id members n ≡ Some m → AreKeys ranges members held
    → 0 < times_of held (key_block ranges m)
key_there ranges members n m held e keys = key_held ranges members m held (found_there member_id members n m e).0 keys

-- what is there is taken out
pub taken_out : (r : Bool) (held new : List Cidr) (b : Cidr) → MatchBool r (IsPermutation held (b ∷ new)) (new ≡ held) → MatchBool r (0 < times_of held b) (times_of held b ≡ 0)
    → 0 < times_of held b → IsPermutation held (b ∷ new)
taken_out true held new b taken cause there = taken
taken_out false held new b taken cause there = absurd (omega arith)
