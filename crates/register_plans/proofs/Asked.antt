-- The rows of the VRF and of the area that a filter asks for.
use Rattle.std.proofs.Common.{◌≡◌, ℕ, ◌+◌, ◌-◌, ◌^◌, ◌&&◌, ◌||◌, ◌==◌, nat_le, Bool, true, false, List, [], ◌∷◌, map, Option, Some, None, IsSome, refl, ap, sym, subst, ◌∙◌, arith, inl, inr, ◌⊎◌, bytes_eq, Contains}
use Rattle.std.specs.List.{list_any}
use Rattle.std.proofs.lemmas.Bool.Decides.{nat_tests}
use Rattle.inet_num.specs.Net.{Address, Cidr, block_at, width_of, last_of}
use Rattle.inet_num.specs.declared.Family.{Family}
use Rattle.inet_num.specs.Blocks.{same_family, same_block, is_block_inside, is_strictly_inside, block_holds}
use Rattle.ipam_data.specs.declared.vrf.Vrf.{Vrf}
use Rattle.ipam_data.specs.declared.prefix.Prefix.{Prefix}
use Rattle.ipam_data.specs.declared.prefix.PrefixStatus.{PrefixStatus}
use Rattle.ipam_data.specs.declared.address.AddressStatus.{AddressStatus}
use Rattle.ipam_data.specs.declared.address.AddressRole.{AddressRole}
use Rattle.ipam_data.specs.Prefixes.{meets_prefix}
use Rattle.ipam_data.specs.Addresses.{meets_address, has_role}
use Rattle.ipam_data.specs.declared.address.IpAddress.{IpAddress}
use Rattle.ipam_data.specs.declared.kinds.Table.{Table}
use Rattle.ipam_data.specs.declared.kinds.Table.TheVariants.{Global, Of}
use Rattle.ipam_data.specs.Rows.{vrf_id, prefix_status_number, address_status_number}
use Rattle.ipam_data.specs.RowList.{row_at}
use Rattle.ipam_data.specs.Tables.{table_of, same_table, same_name}
use Rattle.ipam_data.specs.Checks.{asks}
use Rattle.ipam_data.proofs.Kept.{found_there}
use Rattle.ipam_data.proofs.RowLists.{eq_true, contains_cases, contains_rest}
use Rattle.placed_book.specs.Book.{Placed}
use Rattle.placed_book.specs.Kinds.{placed_prefix, placed_address}
use Rattle.place_search.specs.declared.Area.{Area}
use Rattle.place_search.specs.Areas.{in_area, is_in_table, is_looked_for}
use Rattle.place_search.specs.Ids.{ListsIds}
use Rattle.place_search.proofs.Members.{both, map_has}
use Rattle.ipam_data.specs.declared.calls.Filter.{Filter}
use Rattle.ipam_data.specs.declared.calls.Filter.TheVariants.{Prefixes as SomePrefixes, Addresses as SomeAddresses}
use Rattle.register_plans.specs.Meets.{prefix_meets, address_meets}
use Rattle.register_plans.specs.Candidates.{AreCandidates, tables_asked, is_asked}

same_table-refl : (t : Table) → same_table t t ≡ true
same_table-refl Global = refl
same_table-refl (Of n) = eq_true n n refl

-- one of the tables is the row's
any_has : (test : Table → Bool) (tables : List Table) (t : Table) → Contains tables t → test t ≡ true → list_any test tables ≡ true
any_has test [] t c e = (let h = c.1 in absurd (omega arith))
any_has test (u ∷ us) t c e = go (test u) refl (contains_cases u t us c) (λ d. any_has test us t d e)
  where
    go : (s : Bool) → test u ≡ s → (u ≡ t) ⊎ Contains us t → (Contains us t → list_any test us ≡ true) → (s || list_any test us) ≡ true
    go true s k ih = refl
    go false s (inl k) ih = (let f : true ≡ false = sym e ∙ ap test (sym k) ∙ s in cc)
    go false s (inr k) ih = ih k

one_name : (a b : Option ℕ) → same_name a b ≡ true → a ≡ b
one_name None None e = refl
one_name None (Some m) e = cc
one_name (Some n) None e = cc
one_name (Some n) (Some m) e = (let is : n ≡ m = grind (arith, nat_tests) in ap (λ (k : ℕ). Some k) is)

-- the table of a row is one of those that are asked
table_has : (asked : Option (Option ℕ)) (own : Option ℕ) (vrfs : List Vrf) → asks asked (λ n. same_name own n) ≡ true → ((n : ℕ) → own ≡ Some n → IsSome (row_at vrf_id vrfs n))
    → Contains (tables_asked asked vrfs) (table_of own)
table_has (Some named) own vrfs e there = (0, omega arith, ap table_of (sym (one_name own named e)))
table_has None None vrfs e there = (0, omega arith, refl)
table_has None (Some n) vrfs e there = go (row_at vrf_id vrfs n) refl (there n refl)
  where
    go : (o : Option Vrf) → row_at vrf_id vrfs n ≡ o → IsSome o → Contains (tables_asked None vrfs) (Of n)
    go None f some = cc
    go (Some vrf) f some =
        let found = found_there vrf_id vrfs n vrf f in
        contains_rest Global (Of n) (map (λ (v : Vrf). Of v.id) vrfs)
        (subst (λ (k : ℕ). Contains (map (λ (v : Vrf). Of v.id) vrfs) (Of k)) found.1 (map_has (λ (v : Vrf). Of v.id) vrfs vrf found.0))

-- what was looked up are candidates
pub looked_up : {T : Type 0} (id : T → ℕ) (placed : T → Placed) (rows : List T) (vrfs : List Vrf) (vrf : Option (Option ℕ)) (area : Area) (tables : List Table) (ids : List ℕ)
    → ((x : T) → (placed x).id ≡ id x) → ((row : T) (n : ℕ) → Contains rows row → (placed row).vrf ≡ Some n → IsSome (row_at vrf_id vrfs n))
    → tables ≡ tables_asked vrf vrfs → ListsIds (is_looked_for tables area) (map placed rows) ids → AreCandidates id (λ row. is_asked vrf area (placed row)) rows ids
looked_up id placed rows vrfs vrf area tables ids same there e lists = record {
  rises = lists.rises;
  few = (let few = lists.few in omega arith);
  all = λ row c t.
      let h = both (asks vrf (λ n. same_name (placed row).vrf n)) (in_area area (placed row).block) t in
      let table = table_has vrf (placed row).vrf vrfs h.0 (λ n k. there row n c k) in
      let own : is_in_table (table_of (placed row).vrf) area (placed row) ≡ true = rw (same_table-refl (table_of (placed row).vrf), h.1) refl in
      let any = any_has (λ u. is_in_table u area (placed row)) tables (table_of (placed row).vrf) (rw e table) own in
      subst (λ (n : ℕ). Contains ids n) (same row) (lists.all (placed row) (map_has placed rows row c) any);
}

-- candidates of a test are those of a narrower one
pub narrower : {T : Type 0} (id : T → ℕ) (test other : T → Bool) (rows : List T) (ids : List ℕ) → ((row : T) → other row ≡ true → test row ≡ true) → AreCandidates id test rows ids → AreCandidates id other rows ids
narrower id test other rows ids less h = record { rises = h.rises; few = h.few; all = λ row c t. h.all row c (less row t) }

-- what a filter of prefixes asks
pub prefix_asked : (family : Option Family) (vrf : Option (Option ℕ)) (status : Option PrefixStatus) (role : Option (Option ℕ)) (prefix within include contains : Option Cidr) (area : Area)
    → ((b : Cidr) → asks prefix (λ w. same_block b w) ≡ true → asks within (λ w. is_strictly_inside b w) ≡ true → asks include (λ w. is_block_inside b w) ≡ true → asks contains (λ w. is_block_inside w b) ≡ true → in_area area b ≡ true)
    → (row : Prefix) → meets_prefix family vrf status role prefix within include contains row ≡ true → is_asked vrf area (placed_prefix row) ≡ true
prefix_asked family vrf status role prefix within include contains area there row t =
    let a = asks family (λ f. same_family row.block.family f) in
    let b = asks vrf (λ n. same_name row.vrf n) in
    let c = asks status (λ s. prefix_status_number row.status == prefix_status_number s) in
    let d = asks role (λ n. same_name row.role n) in
    let e = asks prefix (λ w. same_block row.block w) in
    let f = asks within (λ w. is_strictly_inside row.block w) in
    let g = asks include (λ w. is_block_inside row.block w) in
    let h = asks contains (λ w. is_block_inside w row.block) in
    let i = both (a && b && c && d && e && f && g) h t in
    let j = both (a && b && c && d && e && f) g i.0 in
    let k = both (a && b && c && d && e) f j.0 in
    let l = both (a && b && c && d) e k.0 in
    let m = both (a && b && c) d l.0 in
    let n = both (a && b) c m.0 in
    let o = both a b n.0 in
    rw (o.1, there row.block l.1 k.1 j.1 i.1) refl

pub prefix_met : (filter : Filter) (family : Option Family) (vrf : Option (Option ℕ)) (status : Option PrefixStatus) (role : Option (Option ℕ)) (prefix within include contains : Option Cidr) (area : Area)
    → filter ≡ SomePrefixes family vrf status role prefix within include contains
    → ((b : Cidr) → asks prefix (λ w. same_block b w) ≡ true → asks within (λ w. is_strictly_inside b w) ≡ true → asks include (λ w. is_block_inside b w) ≡ true → asks contains (λ w. is_block_inside w b) ≡ true → in_area area b ≡ true)
    → (row : Prefix) → prefix_meets filter row ≡ true → is_asked vrf area (placed_prefix row) ≡ true
prefix_met filter family vrf status role prefix within include contains area is there row t =
    prefix_asked family vrf status role prefix within include contains area there row (subst (λ (f : Filter). prefix_meets f row ≡ true) is t)

-- a host lies in a block as the block of one address
host_inside : (b : Cidr) (a : Address) → block_holds b a ≡ true → is_block_inside (block_at a (width_of a.family)) b ≡ true
host_inside b a t =
    let none : width_of a.family - width_of a.family ≡ 0 = omega arith in
    let one : 2 ^ (width_of a.family - width_of a.family) ≡ 1 = ap (λ (n : ℕ). 2 ^ n) none in
    let last : a.value + 2 ^ (width_of a.family - width_of a.family) - 1 ≡ a.value = omega arith in
    ap (λ (n : ℕ). same_family a.family b.family && nat_le b.first a.value && nat_le n (last_of b).value) last ∙ t

-- what a filter of addresses asks
pub address_asked : (family : Option Family) (vrf : Option (Option ℕ)) (status : Option AddressStatus) (role : Option AddressRole) (parent : Option Cidr) (name : Option (List ℕ)) (area : Area)
    → ((b : Cidr) → asks parent (λ w. is_block_inside b w) ≡ true → in_area area b ≡ true)
    → (row : IpAddress) → meets_address family vrf status role parent name row ≡ true → is_asked vrf area (placed_address row) ≡ true
address_asked family vrf status role parent name area there row t =
    let a = asks family (λ f. same_family row.host.addr.family f) in
    let b = asks vrf (λ n. same_name row.vrf n) in
    let c = asks status (λ s. address_status_number row.status == address_status_number s) in
    let d = asks role (λ r. has_role r row.role) in
    let e = asks parent (λ w. block_holds w row.host.addr) in
    let f = asks name (λ w. bytes_eq row.dns_name w) in
    let i = both (a && b && c && d && e) f t in
    let j = both (a && b && c && d) e i.0 in
    let k = both (a && b && c) d j.0 in
    let l = both (a && b) c k.0 in
    let m = both a b l.0 in
    rw (m.1, there (block_at row.host.addr (width_of row.host.addr.family)) (go parent j.1)) refl
  where
    go : (p : Option Cidr) → asks p (λ w. block_holds w row.host.addr) ≡ true → asks p (λ w. is_block_inside (block_at row.host.addr (width_of row.host.addr.family)) w) ≡ true
    go None e = refl
    go (Some w) e = host_inside w row.host.addr e

pub address_met : (filter : Filter) (family : Option Family) (vrf : Option (Option ℕ)) (status : Option AddressStatus) (role : Option AddressRole) (parent : Option Cidr) (name : Option (List ℕ)) (area : Area)
    → filter ≡ SomeAddresses family vrf status role parent name
    → ((b : Cidr) → asks parent (λ w. is_block_inside b w) ≡ true → in_area area b ≡ true)
    → (row : IpAddress) → address_meets filter row ≡ true → is_asked vrf area (placed_address row) ≡ true
address_met filter family vrf status role parent name area is there row t =
    address_asked family vrf status role parent name area there row (subst (λ (f : Filter). address_meets f row ≡ true) is t)
