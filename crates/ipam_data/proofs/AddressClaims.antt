-- A claim of addresses leaves a lawful state: each item gets an address that no row of its table has.
use Rattle.std.proofs.Common.{◌≡◌, ℕ, zero, suc, nat_le, filter, ◌+◌, ◌-◌, ◌^◌, ◌<◌, ◌≤◌, ◌==◌, ◌&&◌, ◌||◌, Bool, true, false, cond, not, List, [], ◌∷◌, ◌++◌, length, find, Option, Some, None, IsSome, option_map, refl, ap, sym, ◌∙◌, subst, arith, if◌then◌else◌}
use Rattle.std.specs.List.{list_any, flat_map, AllByRecursion}
use Rattle.std.specs.Str.{str_to_ascii_lowercase}
use Rattle.std.proofs.lemmas.Bool.Decides.{nat_tests}
use Rattle.std.proofs.lemmas.List.{length-append}
use Rattle.std.proofs.lemmas.List.Folds.{list_any-append}
use Rattle.inet_num.specs.declared.Family.{Family}
use Rattle.inet_num.specs.Net.{width_of, IsBlock, size_of, HasAddress}
use Rattle.inet_num.specs.Count.{numbers_from, addresses_of}
use Rattle.inet_num.proofs.Numbers.{block_fits}
use Rattle.block_space.specs.Usable.{addressed, is_usable, is_omitted, usable_of}
use Rattle.ipam_data.specs.declared.calls.Answered.{Answered}
use Rattle.ipam_data.specs.declared.calls.AddrItem.{AddrItem}
use Rattle.ipam_data.specs.declared.address.IpAddress.{IpAddress}
use Rattle.ipam_data.specs.declared.prefix.Prefix.{Prefix}
use Rattle.ipam_data.specs.declared.kinds.Kind.TheVariants.{Vrfs}
use Rattle.ipam_data.specs.declared.replies.Rule.{Rule}
use Rattle.ipam_data.specs.declared.replies.Rule.TheVariants.{SlaacFamily, DnsName, Duplicate}
use Rattle.ipam_data.specs.Texts.{IsDescription, IsLowered}
use Rattle.ipam_data.specs.HostNames.{is_dns_name}
use Rattle.ipam_data.specs.Rows.{vrf_id, prefix_id, range_id, address_id, most_addresses}
use Rattle.ipam_data.specs.Tables.{table_of, same_table, is_enforcing}
use Rattle.inet_num.specs.Blocks.{same_address, same_family, block_holds}
use Rattle.ipam_data.specs.RowList.{row_at, with_row, appended, is_rival, least_rival, last_next}
use Rattle.ipam_data.specs.Checks.{first, no_such, breaks, too_many}
use Rattle.ipam_data.specs.State.{State, verdict_of}
use Rattle.ipam_data.specs.Updates.{updated, outcome}
use Rattle.ipam_data.specs.Plans.{no_place, with_found}
use Rattle.ipam_data.specs.Prefixes.{prefix_rules}
use Rattle.ipam_data.specs.Ranges.{range_rules}
use Rattle.ipam_data.specs.declared.range.IpRange.{IpRange}
use Rattle.ipam_data.specs.declared.replies.Refusal.{Refusal}
use Rattle.ipam_data.specs.declared.replies.Which.TheVariants.{Claims}
use Rattle.ipam_data.specs.Addresses.{clashes, clash, is_shared, is_slaac_of_v4, address_fault, address_rules}
use Rattle.ipam_data.specs.Claims.{claimed_addresses, sees_all, is_child_address, is_hosted, is_withheld, usable_in, usable_of_range, is_host_beside, told_of_address, HasAddrItemBounds, most_items, no_space, claim_addresses_of, claim_prefix_addrs_plan, claim_range_addrs_plan}
use Rattle.ipam_data.specs.Lawful.{IsRange, IsLawful}
use Rattle.ipam_data.proofs.RowLists.{row_list-appended, with_row_above}
use Rattle.ipam_data.proofs.Kept.{none_above, found_there}
use Rattle.ipam_data.proofs.AddressLaws.{addresses_sound}
use Rattle.ipam_data.proofs.Ties.{addresses_tied, add_all}
use Rattle.ipam_data.proofs.ClaimLaws.{there_none, enough, claim_comes}
use Rattle.ipam_data.proofs.ManyCan.{addresses_few}
use Rattle.ipam_data.proofs.DraftLaws.{lowered}
use Rattle.ipam_data.proofs.Sound.{outcome_keeps, place_from}
use Rattle.ipam_data.proofs.Verdicts.{none_head, none_rest, none_left, none_right, none_broken, test_holds, test_fails}
use Rattle.inet_num.proofs.Insides.{both}

-- an item that nothing is told of
pub record IsFineAddress (family : Family) (item : AddrItem) : Type 0 where
  pub slaac : is_slaac_of_v4 item.status family ≡ false
  pub name : is_dns_name (str_to_ascii_lowercase item.dns_name) ≡ true
  pub lowered : IsLowered (str_to_ascii_lowercase item.dns_name)
  pub description : IsDescription item.description

abbrev pub AreFineAddresses : Family → List AddrItem → Type 0
AreFineAddresses family items = AllByRecursion (IsFineAddress family) items

-- the numbers rise, from this one on
abbrev pub Ups : ℕ → List ℕ → Type 0
Ups low [] = Unit {0}
Ups low (u ∷ us) = (low ≤ u) × Ups (u + 1) us

-- some row that counts has this number
abbrev pub hosted : (IpAddress → Bool) → List IpAddress → ℕ → Bool
hosted counts rows a = list_any (λ r. counts r && r.host.addr.value == a) rows

abbrev row_of : Option ℕ → Family → ℕ → ℕ → AddrItem → ℕ → IpAddress
row_of vrf family len next item a =
    record { id = next; host = record { addr = record { family = family; value = a }; len = len }; vrf = vrf; status = item.status; role = item.role; dns_name = str_to_ascii_lowercase item.dns_name; description = item.description }

abbrev added : State → IpAddress → State
added s row = record s { addresses = appended address_id s.addresses row }

-- which rows count for the place of a claim: each of its table with a host of its family among its numbers
module _ (counts : IpAddress → Bool) (Within : ℕ → Type 0) (vrf : Option ℕ) (family : Family) (len : ℕ)
    (covers : (y : IpAddress) (a : ℕ) → same_table (table_of y.vrf) (table_of vrf) ≡ true → same_address y.host.addr (record { family = family; value = a }) ≡ true → Within a → counts y ≡ true) where
  -- a number that is not hosted has no rival
  no_rival_there : (rows : List IpAddress) (next : ℕ) (item : AddrItem) (a : ℕ) → Within a → hosted counts rows a ≡ false → find (is_rival address_id clashes (row_of vrf family len next item a)) rows ≡ None
  no_rival_there [] next item a w free = refl
  no_rival_there (y ∷ ys) next item a w free = go (is_rival address_id clashes (row_of vrf family len next item a) y) refl (no_rival_there ys next item a w) where
    rest : (h : Bool) → (h || hosted counts ys a) ≡ false → hosted counts ys a ≡ false
    rest true k = cc
    rest false k = k

    go : (t : Bool) → is_rival address_id clashes (row_of vrf family len next item a) y ≡ t → (hosted counts ys a ≡ false → find (is_rival address_id clashes (row_of vrf family len next item a)) ys ≡ None)
        → cond t (Some y) (find (is_rival address_id clashes (row_of vrf family len next item a)) ys) ≡ None
    go false e later = later (rest (counts y && y.host.addr.value == a) free)
    go true e later =
        let parts = both (not (y.id == next)) (clashes (row_of vrf family len next item a) y) e in
        let more = both (same_table (table_of y.vrf) (table_of vrf)) (clash (row_of vrf family len next item a) y) parts.1 in
        let host = both (same_address y.host.addr (record { family = family; value = a })) (not (is_shared (row_of vrf family len next item a) && is_shared y)) more.1 in
        let value = both _ (y.host.addr.value == a) host.0 in
        let counted = covers y a more.0 host.0 w in
        let taken : (counts y && y.host.addr.value == a) ≡ true = rw (counted, value.1) refl in
        let shown : ((counts y && y.host.addr.value == a) || hosted counts ys a) ≡ true = ap (λ (t : Bool). t || hosted counts ys a) taken in
        (let wrong : true ≡ false = sym shown ∙ free in cc)

  no_fault : (rows : List IpAddress) (next : ℕ) (item : AddrItem) (a : ℕ) (enforcing : Bool) → 1 ≤ len → IsFineAddress family item → Within a → hosted counts rows a ≡ false → address_fault rows (row_of vrf family len next item a) enforcing ≡ None
  unfolding address_fault
  no_fault rows next item a enforcing long fine w free =
      let mask : (len == 0) ≡ false = grind (arith, nat_tests) in
      let rival : least_rival address_id clashes rows (row_of vrf family len next item a) ≡ None = ap (λ (o : Option IpAddress). option_map address_id o) (no_rival_there rows next item a w free) in
      let double : (if enforcing then option_map Duplicate (least_rival address_id clashes rows (row_of vrf family len next item a)) else None) ≡ None = go enforcing (ap (option_map Duplicate) rival) in
      rw (mask, fine.slaac, fine.name, double) refl
    where
      go : (t : Bool) → option_map Duplicate (least_rival address_id clashes rows (row_of vrf family len next item a)) ≡ None → (if t then option_map Duplicate (least_rival address_id clashes rows (row_of vrf family len next item a)) else None) ≡ None
      go true e = e
      go false e = refl

  -- a number of the place that is an address and not hosted
  pub record IsFree (rows : List IpAddress) (a : ℕ) : Type 0 where
    pub address : a < 2 ^ width_of family
    pub within : Within a
    pub free : hosted counts rows a ≡ false

  one_keeps : (s : State) (item : AddrItem) (a : ℕ) → IsLawful s → 1 ≤ len → len ≤ width_of family → IsFineAddress family item → ((n : ℕ) → vrf ≡ Some n → IsSome (row_at vrf_id s.vrfs.rows n)) → IsFree s.addresses.rows a
      → length s.addresses.rows + 1 ≤ most_addresses → s.addresses.next + 1 ≤ last_next → IsLawful (added s (row_of vrf family len s.addresses.next item a))
  one_keeps s item a h long short fine there free few ids =
      let kept = h.addresses.row_list in
      let fault = no_fault s.addresses.rows s.addresses.next item a (is_enforcing s.global_unique s.vrfs.rows (table_of vrf)) long fine free.within free.free in
      let references : first (no_such Vrfs (row_at vrf_id s.vrfs.rows) vrf ∷ []) ≡ None = rw (there_none Vrfs (row_at vrf_id s.vrfs.rows) vrf there) refl in
      let faults : first (address_fault s.addresses.rows (row_of vrf family len s.addresses.next item a) (is_enforcing s.global_unique s.vrfs.rows (table_of vrf)) ∷ []) ≡ None = rw fault refl in
      addresses_sound.put s None (row_of vrf family len s.addresses.next item a) (appended address_id s.addresses (row_of vrf family len s.addresses.next item a)) h
      (record { host = record { address = free.address; short = short }; dns_name = fine.lowered; description = fine.description })
      (none_above address_id s.addresses.next s.addresses.next s.addresses.rows kept.below (omega arith)) refl (row_list-appended address_id most_addresses s.addresses (row_of vrf family len s.addresses.next item a) kept refl few ids) references faults

  -- the numbers behind one that was given out stay free
  still_free : (rows : List IpAddress) (row : IpAddress) (low : ℕ) (us : List ℕ) → row.host.addr.value < low → Ups low us → AllByRecursion (IsFree rows) us → AllByRecursion (IsFree (rows ++ row ∷ [])) us
  still_free rows row low [] less ups h = tt
  still_free rows row low (u ∷ us) less ups h =
      let from = ups.0 in
      let other : (row.host.addr.value == u) ≡ false = grind (arith, nat_tests) in
      let free : hosted counts (rows ++ row ∷ []) u ≡ false =
      list_any-append (λ r. counts r && r.host.addr.value == u) rows (row ∷ []) ∙ ap (λ (t : Bool). t || ((counts row && row.host.addr.value == u) || false)) h.0.free ∙ ap (λ (t : Bool). (counts row && t) || false) other ∙ none (counts row) in
      (record { address = h.0.address; within = h.0.within; free = free }, still_free rows row (u + 1) us (omega arith) ups.1 h.1)
    where
      none : (t : Bool) → ((t && false) || false) ≡ false
      none true = refl
      none false = refl

  abbrev Keeps : List AddrItem → List ℕ → State → Type 0
  Keeps items us s = IsLawful s → ((n : ℕ) → vrf ≡ Some n → IsSome (row_at vrf_id s.vrfs.rows n)) → AllByRecursion (IsFree s.addresses.rows) us
      → length s.addresses.rows + length items ≤ most_addresses → s.addresses.next + length items ≤ last_next
      → IsLawful (add_all address_rules s (claimed_addresses vrf len s.addresses.next items (addressed family us)))

  -- items that get numbers that rise and are free leave a lawful state
  pub addresses_keep : (items : List AddrItem) (us : List ℕ) (low : ℕ) (s : State) → 1 ≤ len → len ≤ width_of family → AreFineAddresses family items → Ups low us → Keeps items us s
  addresses_keep [] us low s long short fine ups = λ h there free few ids. h
  addresses_keep (item ∷ items) [] low s long short fine ups = λ h there free few ids. h
  addresses_keep (item ∷ items) (u ∷ us) low s long short fine ups = λ h there free few ids. (
      let kept = one_keeps s item u h long short fine.0 there free.0 (omega arith) (omega arith) in
      let pushed : with_row address_id s.addresses.rows (row_of vrf family len s.addresses.next item u) ≡ s.addresses.rows ++ row_of vrf family len s.addresses.next item u ∷ [] = with_row_above address_id s.addresses.rows (row_of vrf family len s.addresses.next item u) h.addresses.row_list.below in
      let more = ap length pushed ∙ length-append s.addresses.rows (row_of vrf family len s.addresses.next item u ∷ []) in
      let rest = still_free s.addresses.rows (row_of vrf family len s.addresses.next item u) (u + 1) us (omega arith) ups.1 free.1 in
      addresses_keep items us (u + 1) (added s (row_of vrf family len s.addresses.next item u)) long short fine.1 ups.1 kept there
      (subst (λ (rows : List IpAddress). AllByRecursion (IsFree rows) us) (sym pushed) rest) (omega arith) (omega arith))

-- ---- the usable addresses of a prefix

rising : (p : ℕ → Bool) (a n : ℕ) → Ups a (filter p (numbers_from a n))
unfolding numbers_from
rising p a zero = tt
rising p a (suc n) = go (p a) (rising p (a + 1) n) where
  later : (us : List ℕ) → Ups (a + 1) us → Ups a us
  later [] h = tt
  later (u ∷ us) h = ((let l = h.0 in omega arith), h.1)

  go : (t : Bool) → Ups (a + 1) (filter p (numbers_from (a + 1) n)) → Ups a (cond t (a ∷ filter p (numbers_from (a + 1) n)) (filter p (numbers_from (a + 1) n)))
  go true h = (omega arith, h)
  go false h = later (filter p (numbers_from (a + 1) n)) h

each_of : (Q : ℕ → Type 0) (p : ℕ → Bool) (a n : ℕ) → ((x : ℕ) → a ≤ x → x < a + n → p x ≡ true → Q x) → AllByRecursion Q (filter p (numbers_from a n))
unfolding numbers_from
each_of Q p a zero h = tt
each_of Q p a (suc n) h = go (p a) refl (each_of Q p (a + 1) n (λ x low high. h x (omega arith) (omega arith))) where
  go : (t : Bool) → p a ≡ t → AllByRecursion Q (filter p (numbers_from (a + 1) n)) → AllByRecursion Q (cond t (a ∷ filter p (numbers_from (a + 1) n)) (filter p (numbers_from (a + 1) n)))
  go true e k = (h a (omega arith) (omega arith) e, k)
  go false e k = k

-- an address of the prefix's table and family in its block counts for it
covers_prefix : (p : Prefix) (y : IpAddress) (a : ℕ) → same_table (table_of y.vrf) (table_of p.vrf) ≡ true → same_address y.host.addr (record { family = p.block.family; value = a }) ≡ true → HasAddress p.block a → is_child_address p y ≡ true
covers_prefix p y a table host w =
    let parts = both (same_family y.host.addr.family p.block.family) (y.host.addr.value == a) host in
    let value = parts.1 in
    let is : y.host.addr.value ≡ a = grind (arith, nat_tests) in
    let low = w.0 in
    let high = w.1 in
    let one : nat_le p.block.first y.host.addr.value ≡ true = grind (arith, nat_tests) in
    let le : y.host.addr.value ≤ p.block.first + size_of p.block - 1 = omega arith in
    let two : nat_le y.host.addr.value (p.block.first + size_of p.block - 1) ≡ true = grind (arith, nat_tests) in
    let inside : block_holds p.block y.host.addr ≡ true = rw (parts.0, one, two) refl in
    ap (λ (t : Bool). (sees_all p || t) && block_holds p.block y.host.addr) table ∙ ap (λ (t : Bool). (sees_all p || true) && t) inside ∙ or_true (sees_all p)
  where
    or_true : (t : Bool) → ((t || true) && true) ≡ true
    or_true true = refl
    or_true false = refl

not_first : (t u v : Bool) → (not t && u && v) ≡ true → t ≡ false
not_first true u v e = cc
not_first false u v e = refl

-- a claim of addresses of a prefix that nothing is told of leaves a lawful state
pub prefix_addresses_keep : (p : Prefix) (items : List AddrItem) (s : State) → IsBlock p.block → 1 ≤ p.block.len → AreFineAddresses p.block.family items → IsLawful s → ((n : ℕ) → p.vrf ≡ Some n → IsSome (row_at vrf_id s.vrfs.rows n))
    → length s.addresses.rows + length items ≤ most_addresses → s.addresses.next + length items ≤ last_next
    → IsLawful (add_all address_rules s (claimed_addresses p.vrf p.block.len s.addresses.next items (addressed p.block.family (usable_in s p))))
unfolding usable_of addresses_of
prefix_addresses_keep p items s hp long fine h there few ids =
    addresses_keep (is_child_address p) (HasAddress p.block) p.vrf p.block.family p.block.len (covers_prefix p) items (usable_in s p) p.block.first s long hp.short fine
    (rising (is_usable (is_hosted s.addresses.rows p) (is_withheld s.ranges.rows p) p.block p.is_pool) p.block.first (size_of p.block)) h there
    (each_of (IsFree (is_child_address p) (HasAddress p.block) p.vrf p.block.family p.block.len (covers_prefix p) s.addresses.rows) (is_usable (is_hosted s.addresses.rows p) (is_withheld s.ranges.rows p) p.block p.is_pool) p.block.first (size_of p.block)
    (λ x low high e. record { address = (let fits = block_fits p.block hp in omega arith); within = (low, high); free = not_first (is_hosted s.addresses.rows p x) (not (is_withheld s.ranges.rows p x)) (not (is_omitted p.block p.is_pool x)) e }))
    few ids

-- ---- the addresses of a range that none has

-- an address of the range's table and family
abbrev pub beside_range : IpRange → IpAddress → Bool
beside_range row r = same_table (table_of r.vrf) (table_of row.vrf) && same_family r.host.addr.family row.ends.start.family

covers_range : (row : IpRange) (y : IpAddress) (a : ℕ) → same_table (table_of y.vrf) (table_of row.vrf) ≡ true → same_address y.host.addr (record { family = row.ends.start.family; value = a }) ≡ true → Unit {0} → beside_range row y ≡ true
covers_range row y a table host w =
    let parts = both (same_family y.host.addr.family row.ends.start.family) (y.host.addr.value == a) host in
    rw (table, parts.0) refl

not_that : (t : Bool) → not t ≡ true → t ≡ false
not_that true e = cc
not_that false e = refl

-- what holds of no numbers and of these holds of those that are given out
given_out : (Q : List ℕ → Type 0) (mark : Bool) (us : List ℕ) → Q [] → Q us → Q (if mark then [] else us)
given_out Q true us none some = none
given_out Q false us none some = some

pub range_addresses_keep : (row : IpRange) (items : List AddrItem) (s : State) → IsRange row → AreFineAddresses row.ends.start.family items → IsLawful s → ((n : ℕ) → row.vrf ≡ Some n → IsSome (row_at vrf_id s.vrfs.rows n))
    → length s.addresses.rows + length items ≤ most_addresses → s.addresses.next + length items ≤ last_next
    → IsLawful (add_all address_rules s (claimed_addresses row.vrf row.ends.len s.addresses.next items (addressed row.ends.start.family (usable_of_range s row))))
range_addresses_keep row items s hr fine h there few ids =
    let from = row.ends.start.value in
    let many = row.ends.end.value + 1 - row.ends.start.value in
    let free_ones : List ℕ = filter (λ a. not (is_host_beside s.addresses.rows row a)) (numbers_from from many) in
    let order = hr.order in
    let top : row.ends.end.value < 2 ^ width_of row.ends.start.family = subst (λ (f : Family). row.ends.end.value < 2 ^ width_of f) (sym hr.family) hr.bounds.ends.end in
    addresses_keep (beside_range row) (λ a. Unit {0}) row.vrf row.ends.start.family row.ends.len (covers_range row) items (usable_of_range s row) from s hr.mask hr.bounds.ends.start_short fine
    (given_out (Ups from) row.mark_populated free_ones tt (rising (λ a. not (is_host_beside s.addresses.rows row a)) from many)) h there
    (given_out (AllByRecursion (IsFree (beside_range row) (λ a. Unit {0}) row.vrf row.ends.start.family row.ends.len (covers_range row) s.addresses.rows)) row.mark_populated free_ones tt
    (each_of (IsFree (beside_range row) (λ a. Unit {0}) row.vrf row.ends.start.family row.ends.len (covers_range row) s.addresses.rows) (λ a. not (is_host_beside s.addresses.rows row a)) from many
    (λ x low high e. record { address = (let le : x ≤ row.ends.end.value = omega arith in omega arith); within = tt; free = not_that (is_host_beside s.addresses.rows row x) e })))
    few ids

-- ---- from the verdict of the call

fine_from : (family : Family) (item : AddrItem) → HasAddrItemBounds item → first (told_of_address family item) ≡ None → IsFineAddress family item
fine_from family item b e =
    let slaac : Option Rule = if is_slaac_of_v4 item.status family then Some SlaacFamily else None in
    let name : Option Rule = if is_dns_name (str_to_ascii_lowercase item.dns_name) then None else Some DnsName in
    record {
      slaac = test_fails (is_slaac_of_v4 item.status family) SlaacFamily (none_broken slaac (none_head (breaks slaac) (breaks name ∷ []) e));
      name = test_holds (is_dns_name (str_to_ascii_lowercase item.dns_name)) DnsName (none_broken name (none_head (breaks name) [] (none_rest (breaks slaac) (breaks name ∷ []) e)));
      lowered = lowered item.dns_name b.0;
      description = b.1;
    }

all_fine : (family : Family) (items : List AddrItem) → AllByRecursion HasAddrItemBounds items → first (flat_map (told_of_address family) items) ≡ None → AreFineAddresses family items
all_fine family [] b e = tt
all_fine family (item ∷ items) b e =
    (fine_from family item b.0 (none_left (told_of_address family item) (flat_map (told_of_address family) items) e), all_fine family items b.1 (none_right (told_of_address family item) (flat_map (told_of_address family) items) e))

-- a claim of addresses that no check refuses leaves a lawful state, where adding its rows does
claim_addresses_keep : (s : State) (form : Answered) (items : List AddrItem) (vrf : Option ℕ) (len : ℕ) (family : Family) (usable : List ℕ) → AllByRecursion HasAddrItemBounds items
    → (AreFineAddresses family items → length s.addresses.rows + length items ≤ most_addresses → s.addresses.next + length items ≤ last_next → IsLawful (add_all address_rules s (claimed_addresses vrf len s.addresses.next items (addressed family usable))))
    → verdict_of (claim_addresses_of s form items vrf len family usable) ≡ None → IsLawful (updated s (claim_addresses_of s form items vrf len family usable).update)
claim_addresses_keep s form items vrf len family usable b keep v =
    let rows : List IpAddress = claimed_addresses vrf len s.addresses.next items (addressed family usable) in
    let told : List (Option Refusal) = flat_map (told_of_address family) items in
    let few : Option Refusal = too_many Claims most_items (length items) in
    let space : Option Refusal = no_space (length items) (length rows) in
    let place : List (Option Refusal) = no_place address_rules s (length items) in
    let front = none_rest few told (none_left (few ∷ told) (space ∷ place) v) in
    let back = none_right (few ∷ told) (space ∷ place) v in
    let got = enough (length items) (length rows) (none_head space place back) in
    let p = place_from address_rules s (length items) (none_rest space place back) in
    let at_most = addresses_few vrf len s.addresses.next items (addressed family usable) in
    let many : length items ≡ length rows = omega arith in
    claim_comes address_rules addresses_tied s told (length items) form rows many (keep (all_fine family items b front) p.room.number p.room.ids) p.log

pub claim_prefix_addrs_keeps : (s : State) (n : ℕ) (form : Answered) (items : List AddrItem) → IsLawful s → AllByRecursion HasAddrItemBounds items → IsLawful (outcome s (claim_prefix_addrs_plan s n form items)).0
claim_prefix_addrs_keeps s n form items h b = go (row_at prefix_id s.prefixes.rows n) refl
  where
    go : (o : Option Prefix) → row_at prefix_id s.prefixes.rows n ≡ o → IsLawful (outcome s (with_found prefix_rules n (λ row. claim_addresses_of s form items row.vrf row.block.len row.block.family (usable_in s row)) o)).0
    go None e = h
    go (Some p) e =
        let there = (found_there prefix_id s.prefixes.rows n p e).0 in
        let is = h.prefixes.each p there in
        outcome_keeps s (claim_addresses_of s form items p.vrf p.block.len p.block.family (usable_in s p)) h
        (claim_addresses_keep s form items p.vrf p.block.len p.block.family (usable_in s p) b (λ fine few ids. prefix_addresses_keep p items s is.bounds.block is.mask fine h (λ m q. h.prefixes.tables p m there q) few ids))

pub claim_range_addrs_keeps : (s : State) (n : ℕ) (form : Answered) (items : List AddrItem) → IsLawful s → AllByRecursion HasAddrItemBounds items → IsLawful (outcome s (claim_range_addrs_plan s n form items)).0
claim_range_addrs_keeps s n form items h b = go (row_at range_id s.ranges.rows n) refl
  where
    go : (o : Option IpRange) → row_at range_id s.ranges.rows n ≡ o → IsLawful (outcome s (with_found range_rules n (λ row. claim_addresses_of s form items row.vrf row.ends.len row.ends.start.family (usable_of_range s row)) o)).0
    go None e = h
    go (Some r) e =
        let there = (found_there range_id s.ranges.rows n r e).0 in
        let is = h.ranges.each r there in
        outcome_keeps s (claim_addresses_of s form items r.vrf r.ends.len r.ends.start.family (usable_of_range s r)) h
        (claim_addresses_keep s form items r.vrf r.ends.len r.ends.start.family (usable_of_range s r) b (λ fine few ids. range_addresses_keep r items s is fine h (λ m q. h.ranges.tables r m there q) few ids))
