-- The updates of claims may be made: their rows are new ones, under the next ids.
use Rattle.std.proofs.Common.{◌≡◌, ℕ, ◌+◌, ◌≤◌, List, [], ◌∷◌, length, map, Option, Some, None, refl, ap, sym, ◌∙◌, subst, arith, inr}
use Rattle.std.specs.List.{flat_map}
use Rattle.inet_num.specs.declared.Family.{Family}
use Rattle.inet_num.specs.Net.{Cidr, Address}
use Rattle.block_space.specs.Fit.{fits_of}
use Rattle.block_space.specs.Usable.{addressed}
use Rattle.ipam_data.specs.declared.calls.Answered.{Answered}
use Rattle.ipam_data.specs.declared.calls.BlockItem.{BlockItem}
use Rattle.ipam_data.specs.declared.calls.AddrItem.{AddrItem}
use Rattle.ipam_data.specs.declared.prefix.Prefix.{Prefix}
use Rattle.ipam_data.specs.declared.range.IpRange.{IpRange}
use Rattle.ipam_data.specs.declared.replies.Refusal.{Refusal}
use Rattle.ipam_data.specs.declared.replies.Which.TheVariants.{Claims}
use Rattle.ipam_data.specs.Rows.{prefix_id, range_id, address_id, HasPrefixBounds, HasAddressBounds}
use Rattle.ipam_data.specs.RowList.{RowList, row_at, with_row, replaced, AllBelow, last_next}
use Rattle.ipam_data.specs.Checks.{too_many}
use Rattle.ipam_data.specs.State.{State, verdict_of}
use Rattle.ipam_data.specs.Plans.{KindRules, no_place, with_found}
use Rattle.ipam_data.specs.Updates.{with_view, AreFit, CanUpdate}
use Rattle.ipam_data.specs.Prefixes.{prefix_rules}
use Rattle.ipam_data.specs.Ranges.{range_rules}
use Rattle.ipam_data.specs.Addresses.{address_rules}
use Rattle.ipam_data.specs.Claims.{claim, no_space, most_items, child_blocks, lengths_of, usable_in, usable_of_range, told_of_block, told_of_address, claimed_prefixes, claimed_addresses, claim_blocks_of, claim_blocks_plan, claim_addresses_of, claim_prefix_addrs_plan, claim_range_addrs_plan}
use Rattle.ipam_data.specs.Lawful.{IsLawful}
use Rattle.ipam_data.proofs.Verdicts.{none_rest, none_right}
use Rattle.ipam_data.proofs.Placed.{below_more, below_with}
use Rattle.ipam_data.proofs.Ties.{IsTied}
use Rattle.ipam_data.proofs.Sound.{IsSound, place_from}
use Rattle.ipam_data.proofs.PrefixLaws.{prefixes_sound}
use Rattle.ipam_data.proofs.AddressLaws.{addresses_sound}
use Rattle.ipam_data.proofs.Can.{nothing_can}

-- ---- new rows

-- the ids of the rows follow one another from this one on
abbrev pub Follow : {T : Type 0} → (T → ℕ) → ℕ → List T → Type 0
Follow {T} id n [] = Unit {0}
Follow {T} id n (row ∷ rows) = (id row ≡ n) × Follow id (n + 1) rows

-- new rows fit, one after another
fit_new : {T : Type 0} (rules : KindRules T) → IsTied rules → (s : State) (n : ℕ) (rows : List T) → Follow rules.id n rows → AllBelow rules.id n (rules.row_list s).rows
    → 1 ≤ n → n + length rows ≤ last_next → AreFit s (map rules.view rows)
fit_new {T} rules tied s n [] f below low high = tt
fit_new {T} rules tied s n (row ∷ rows) f below low high =
    let e = f.0 in
    let kept = (rules.row_list s).rows in
    let after : (rules.row_list (with_view s (rules.view row))).rows ≡ with_row rules.id kept row =
    ap (λ (t : State). (rules.row_list t).rows) (tied.put s row) ∙ ap (λ (row_list : RowList T). row_list.rows) (tied.given s (replaced rules.id (rules.row_list s) row)) in
    let more : AllBelow rules.id (n + 1) (with_row rules.id kept row) = below_with rules.id (n + 1) kept row (below_more rules.id n (n + 1) kept (omega arith) below) (omega arith) in (
      tied.fit s row (record { low = omega arith; high = omega arith; place = inr (subst (λ (m : ℕ). AllBelow rules.id m kept) (sym e) below) }),
      fit_new rules tied (with_view s (rules.view row)) (n + 1) rows f.1 (subst (λ (xs : List T). AllBelow rules.id (n + 1) xs) (sym after) more) (omega arith) (omega arith),
    )

-- ---- claims

pub claim_can : {T : Type 0} (rules : KindRules T) (Bounds : T → Type 0) (sound : IsSound rules Bounds) (s : State) (told : List (Option Refusal)) (wanted : ℕ) (form : Answered) (rows : List T) → IsLawful s
    → Follow rules.id (rules.row_list s).next rows → length rows ≤ wanted → verdict_of (claim rules s told wanted form rows) ≡ None → CanUpdate s (claim rules s told wanted form rows).update
claim_can {T} rules Bounds sound s told wanted form rows h f few v =
    let kept = sound.row_list s h in
    let low = kept.next_low in
    let items : Option Refusal = too_many Claims most_items wanted in
    let space : Option Refusal = no_space wanted (length rows) in
    let place = place_from rules s wanted (none_rest space (no_place rules s wanted) (none_right (items ∷ told) (space ∷ no_place rules s wanted) v)) in
    let top = place.room.ids in
    record {
      puts = fit_new rules sound.tied s (rules.row_list s).next rows f kept.below low (omega arith);
      cuts = tt;
      next = (omega arith, tt);
    }

prefixes_follow : (p : Prefix) (n : ℕ) (items : List BlockItem) (blocks : List Cidr) → Follow prefix_id n (claimed_prefixes p n items blocks)
prefixes_follow p n [] blocks = tt
prefixes_follow p n (item ∷ items) [] = tt
prefixes_follow p n (item ∷ items) (b ∷ blocks) = (refl, prefixes_follow p (n + 1) items blocks)

prefixes_few : (p : Prefix) (n : ℕ) (items : List BlockItem) (blocks : List Cidr) → length (claimed_prefixes p n items blocks) ≤ length items
prefixes_few p n [] blocks = omega arith
prefixes_few p n (item ∷ items) [] = omega arith
prefixes_few p n (item ∷ items) (b ∷ blocks) = let e = prefixes_few p (n + 1) items blocks in omega arith

addresses_follow : (vrf : Option ℕ) (len n : ℕ) (items : List AddrItem) (hosts : List Address) → Follow address_id n (claimed_addresses vrf len n items hosts)
addresses_follow vrf len n [] hosts = tt
addresses_follow vrf len n (item ∷ items) [] = tt
addresses_follow vrf len n (item ∷ items) (b ∷ hosts) = (refl, addresses_follow vrf len (n + 1) items hosts)

pub addresses_few : (vrf : Option ℕ) (len n : ℕ) (items : List AddrItem) (hosts : List Address) → length (claimed_addresses vrf len n items hosts) ≤ length items
addresses_few vrf len n [] hosts = omega arith
addresses_few vrf len n (item ∷ items) [] = omega arith
addresses_few vrf len n (item ∷ items) (b ∷ hosts) = let e = addresses_few vrf len (n + 1) items hosts in omega arith

pub claim_blocks_can : (s : State) (n : ℕ) (form : Answered) (items : List BlockItem) → IsLawful s → verdict_of (claim_blocks_plan s n form items) ≡ None → CanUpdate s (claim_blocks_plan s n form items).update
claim_blocks_can s n form items h v = go (row_at prefix_id s.prefixes.rows n) v
  where
    go : (found : Option Prefix) → verdict_of (with_found prefix_rules n (claim_blocks_of s form items) found) ≡ None → CanUpdate s (with_found prefix_rules n (claim_blocks_of s form items) found).update
    go None v = nothing_can s
    go (Some p) v =
        let blocks : List Cidr = fits_of p.block (child_blocks s.prefixes.rows p) (lengths_of items) in
        claim_can prefix_rules HasPrefixBounds prefixes_sound s (flat_map (told_of_block s p) items) (length items) form (claimed_prefixes p s.prefixes.next items blocks) h
        (prefixes_follow p s.prefixes.next items blocks) (prefixes_few p s.prefixes.next items blocks) v

claim_addresses_can : (s : State) (form : Answered) (items : List AddrItem) (vrf : Option ℕ) (len : ℕ) (family : Family) (usable : List ℕ) → IsLawful s → verdict_of (claim_addresses_of s form items vrf len family usable) ≡ None
    → CanUpdate s (claim_addresses_of s form items vrf len family usable).update
claim_addresses_can s form items vrf len family usable h v =
    claim_can address_rules HasAddressBounds addresses_sound s (flat_map (told_of_address family) items) (length items) form (claimed_addresses vrf len s.addresses.next items (addressed family usable)) h
    (addresses_follow vrf len s.addresses.next items (addressed family usable)) (addresses_few vrf len s.addresses.next items (addressed family usable)) v

pub claim_prefix_addrs_can : (s : State) (n : ℕ) (form : Answered) (items : List AddrItem) → IsLawful s → verdict_of (claim_prefix_addrs_plan s n form items) ≡ None → CanUpdate s (claim_prefix_addrs_plan s n form items).update
claim_prefix_addrs_can s n form items h v = go (row_at prefix_id s.prefixes.rows n) v
  where
    go : (found : Option Prefix) → verdict_of (with_found prefix_rules n (λ row. claim_addresses_of s form items row.vrf row.block.len row.block.family (usable_in s row)) found) ≡ None
        → CanUpdate s (with_found prefix_rules n (λ row. claim_addresses_of s form items row.vrf row.block.len row.block.family (usable_in s row)) found).update
    go None v = nothing_can s
    go (Some row) v = claim_addresses_can s form items row.vrf row.block.len row.block.family (usable_in s row) h v

pub claim_range_addrs_can : (s : State) (n : ℕ) (form : Answered) (items : List AddrItem) → IsLawful s → verdict_of (claim_range_addrs_plan s n form items) ≡ None → CanUpdate s (claim_range_addrs_plan s n form items).update
claim_range_addrs_can s n form items h v = go (row_at range_id s.ranges.rows n) v
  where
    go : (found : Option IpRange) → verdict_of (with_found range_rules n (λ row. claim_addresses_of s form items row.vrf row.ends.len row.ends.start.family (usable_of_range s row)) found) ≡ None
        → CanUpdate s (with_found range_rules n (λ row. claim_addresses_of s form items row.vrf row.ends.len row.ends.start.family (usable_of_range s row)) found).update
    go None v = nothing_can s
    go (Some row) v = claim_addresses_can s form items row.vrf row.ends.len row.ends.start.family (usable_of_range s row) h v
