-- A claim of addresses is refused for want of space exactly if too few addresses are free.
use Rattle.std.proofs.Common.{◌+◌, ◌<◌, ◌↔◌, ◌∙◌, ◌∷◌, ◌≡◌, ◌≤◌, Contains, List, None, Option, Some, [], ap, arith, false, if◌then◌else◌, inl, inr, length, map, refl, subst, suc, sym, true, zero, ℕ}
use Rattle.std.proofs.lemmas.List.{length-map}
use Rattle.std.specs.List.{AllByRecursion, flat_map, slice_get}
use Rattle.std.specs.Str.{str_to_ascii_lowercase}
use Rattle.inet_num.specs.Net.{Address}
use Rattle.inet_num.specs.declared.Family.{Family}
use Rattle.inet_num.specs.declared.Family.TheVariants.{V4, V6}
use Rattle.block_space.specs.Usable.{addressed}
use Rattle.ipam_data.specs.Addresses.{address_rules, is_slaac_of_v4}
use Rattle.ipam_data.specs.Checks.{first, breaks}
use Rattle.ipam_data.specs.Claims.{claim_addresses_of, claimed_addresses, told_of_address, usable_in, usable_of_range}
use Rattle.ipam_data.specs.HostNames.{is_dns_name}
use Rattle.ipam_data.specs.Prefixes.{prefix_rules}
use Rattle.ipam_data.specs.Ranges.{range_rules}
use Rattle.ipam_data.specs.RowList.{row_at}
use Rattle.ipam_data.specs.Rows.{prefix_id, range_id}
use Rattle.ipam_data.specs.State.{Plan, State}
use Rattle.ipam_data.specs.Steps.{plain_step}
use Rattle.ipam_data.specs.Updates.{outcome}
use Rattle.ipam_data.specs.declared.address.AddressStatus.{AddressStatus}
use Rattle.ipam_data.specs.declared.address.AddressStatus.TheVariants.{Active, Deprecated, Dhcp, Reserved, Slaac}
use Rattle.ipam_data.specs.declared.address.IpAddress.{IpAddress}
use Rattle.ipam_data.specs.declared.calls.AddrItem.{AddrItem}
use Rattle.ipam_data.specs.declared.calls.Answered.{Answered}
use Rattle.ipam_data.specs.declared.calls.Call.TheVariants.{ClaimPrefixAddrs, ClaimRangeAddrs}
use Rattle.ipam_data.specs.declared.prefix.Prefix.{Prefix}
use Rattle.ipam_data.specs.declared.range.IpRange.{IpRange}
use Rattle.ipam_data.specs.declared.replies.Refusal.{Refusal}
use Rattle.ipam_data.specs.declared.replies.Refusal.TheVariants.{NoSpace}
use Rattle.ipam_data.specs.declared.replies.Reply.TheVariants.{Refused}
use Rattle.ipam_data.specs.declared.replies.Rule.{Rule}
use Rattle.ipam_data.specs.declared.replies.Rule.TheVariants.{DnsName, SlaacFamily}
use Rattle.ipam_data.proofs.AddressClaims.{Ups}
use Rattle.ipam_data.proofs.Kept.{contains_map}
use Rattle.ipam_data.proofs.RowLists.{contains_cases, contains_head, contains_rest}
use Rattle.ipam_data.proofs.Verdicts.{none_broken, none_head, none_left, none_rest, none_right, test_fails, test_holds}
use Rattle.claim_laws.specs.Claims.{AreTooFew, MayClaimAddresses}
use Rattle.claim_laws.specs.Free.{IsFreeIn, IsFreeInRange}
use Rattle.claim_laws.proofs.FreeAddresses.{one_address}
use Rattle.claim_laws.proofs.LeastAddresses.{ArePicked, prefix_picked, range_picked, ups_above, ups_places}
use Rattle.claim_laws.proofs.Lists.{contains_place, mapped_has, none_both, place_contains}
use Rattle.claim_laws.proofs.Picked.{spare_rise, usable_rise}
use Rattle.claim_laws.proofs.Refusals.{IsOther, at_found, breaks_other, found_refused, wanting, wants_from}

-- ---- the checks of items

slaac_only : (status : AddressStatus) (family : Family) → is_slaac_of_v4 status family ≡ false → status ≡ Slaac → family ≡ V6
slaac_only Slaac V4 e q = cc
slaac_only Slaac V6 e q = refl
slaac_only Active family e q = cc
slaac_only Reserved family e q = cc
slaac_only Deprecated family e q = cc
slaac_only Dhcp family e q = cc

slaac_fine : (status : AddressStatus) (family : Family) → (status ≡ Slaac → family ≡ V6) → is_slaac_of_v4 status family ≡ false
slaac_fine Slaac V4 h = (let e = h refl in cc)
slaac_fine Slaac V6 h = refl
slaac_fine Active family h = refl
slaac_fine Reserved family h = refl
slaac_fine Deprecated family h = refl
slaac_fine Dhcp family h = refl

module _ (family : Family) where
  record IsAllowed (item : AddrItem) : Type 0 where
    slaac : item.status ≡ Slaac → family ≡ V6
    name : is_dns_name (str_to_ascii_lowercase item.dns_name) ≡ true

  allowed_from : (item : AddrItem) → first (told_of_address family item) ≡ None → IsAllowed item
  allowed_from item e =
      let slaac : Option Rule = if is_slaac_of_v4 item.status family then Some SlaacFamily else None in
      let name : Option Rule = if is_dns_name (str_to_ascii_lowercase item.dns_name) then None else Some DnsName in
      record {
        slaac = slaac_only item.status family (test_fails (is_slaac_of_v4 item.status family) SlaacFamily (none_broken slaac (none_head (breaks slaac) (breaks name ∷ []) e)));
        name = test_holds (is_dns_name (str_to_ascii_lowercase item.dns_name)) DnsName (none_broken name (none_head (breaks name) [] (none_rest (breaks slaac) (breaks name ∷ []) e)));
      }

  allowed_told : (item : AddrItem) → IsAllowed item → first (told_of_address family item) ≡ None
  allowed_told item h = rw (slaac_fine item.status family h.slaac, h.name) refl

  all_allowed : (items : List AddrItem) → first (flat_map (told_of_address family) items) ≡ None → (item : AddrItem) → Contains items item → IsAllowed item
  all_allowed [] e item c = let l = c.1 in absurd (omega arith)
  all_allowed (one ∷ items) e item c = elim (contains_cases one item items c) [
    | inl q ↦ subst IsAllowed q (allowed_from one (none_left (told_of_address family one) (flat_map (told_of_address family) items) e))
    | inr d ↦ all_allowed items (none_right (told_of_address family one) (flat_map (told_of_address family) items) e) item d
  ]

  all_told : (items : List AddrItem) → ((item : AddrItem) → Contains items item → IsAllowed item) → first (flat_map (told_of_address family) items) ≡ None
  all_told [] h = refl
  all_told (one ∷ items) h =
      none_both (told_of_address family one) (flat_map (told_of_address family) items) (allowed_told one (h one (contains_head one items))) (all_told items (λ item c. h item (contains_rest one item items c)))

told_other : (family : Family) (items : List AddrItem) → AllByRecursion IsOther (flat_map (told_of_address family) items)
told_other family [] = tt
told_other family (item ∷ items) = (breaks_other _, (breaks_other _, told_other family items))

-- ---- lists in order that have the same numbers

ups_from : (low : ℕ) (hosts : List Address) → ((j : ℕ) (b : Address) → slice_get hosts j ≡ Some b → low ≤ b.value)
    → ((i j : ℕ) (a b : Address) → slice_get hosts i ≡ Some a → slice_get hosts j ≡ Some b → i < j → a.value < b.value) → Ups low (map (λ a. a.value) hosts)
ups_from low [] h rise = tt
ups_from low (a ∷ hosts) h rise = (
  h zero a refl,
  ups_from (a.value + 1) hosts (λ j b q. let l = rise zero (suc j) a b refl q (omega arith) in omega arith) (λ i j b c p q l. rise (suc i) (suc j) b c p q (omega arith)),
)

one_list : (low high : ℕ) (us vs : List ℕ) → Ups low us → Ups high vs → ((n : ℕ) → Contains us n → Contains vs n) → ((n : ℕ) → Contains vs n → Contains us n) → us ≡ vs
one_list low high [] [] h k to from = refl
one_list low high [] (v ∷ vs) h k to from = let c = from v (contains_head v vs) in let l = c.1 in absurd (omega arith)
one_list low high (u ∷ us) [] h k to from = let c = to u (contains_head u us) in let l = c.1 in absurd (omega arith)
one_list low high (u ∷ us) (v ∷ vs) h k to from =
    let a : v ≤ u = least_of high u v vs k (to u (contains_head u us)) in
    let b : u ≤ v = least_of low v u us h (from v (contains_head v vs)) in
    let same : u ≡ v = omega arith in
    let rest = one_list (u + 1) (v + 1) us vs h.1 k.1
    (λ n c. behind_head n u v us vs h.1 same c (to n (contains_rest u n us c)))
    (λ n c. behind_head n v u vs us k.1 (sym same) c (from n (contains_rest v n vs c))) in
    ap (λ (n : ℕ). n ∷ us) same ∙ ap (λ (ns : List ℕ). v ∷ ns) rest
  where
    least_of : (low n w : ℕ) (ws : List ℕ) → Ups low (w ∷ ws) → Contains (w ∷ ws) n → w ≤ n
    least_of low n w ws h c = elim (contains_cases w n ws c) [
      | inl e ↦ omega arith
      | inr d ↦ (let l = ups_above (w + 1) ws n h.1 d in omega arith)
    ]

    behind_head : (n u v : ℕ) (us vs : List ℕ) → Ups (u + 1) us → u ≡ v → Contains us n → Contains (v ∷ vs) n → Contains vs n
    behind_head n u v us vs h same c d = elim (contains_cases v n vs d) [
      | inl e ↦ (let l = ups_above (u + 1) us n h c in absurd (omega arith))
      | inr d ↦ d
    ]

-- ---- both ways

valued : (family : Family) (us : List ℕ) → map (λ (a : Address). a.value) (addressed family us) ≡ us
valued family [] = refl
valued family (u ∷ us) = ap (λ (ns : List ℕ). u ∷ ns) (valued family us)

addressed_place : (family : Family) (us : List ℕ) (k : ℕ) (a : Address) → slice_get (addressed family us) k ≡ Some a → (u : ℕ) × (slice_get us k ≡ Some u) × (a ≡ record { family = family; value = u })
addressed_place family [] k a q = cc
addressed_place family (u ∷ us) zero a q = (let e : record { family = family; value = u } ≡ a = cc in (u, refl, sym e))
addressed_place family (u ∷ us) (suc k) a q = addressed_place family us k a q

addressed_has : (family : Family) (us : List ℕ) (u : ℕ) → Contains us u → Contains (addressed family us) (record { family = family; value = u })
addressed_has family us u c = mapped_has (λ (n : ℕ). let a : Address = record { family = family; value = n } in a) us u c

-- the items get as many as there are numbers, if there are fewer numbers than items
got_few : (vrf : Option ℕ) (len next : ℕ) (items : List AddrItem) (family : Family) (us : List ℕ) → length us < length items → length (claimed_addresses vrf len next items (addressed family us)) ≡ length us
got_few vrf len next [] family us l = absurd (omega arith)
got_few vrf len next (item ∷ items) family [] l = refl
got_few vrf len next (item ∷ items) family (u ∷ us) l = (let e = got_few vrf len (next + 1) items family us (omega arith) in ap (λ (n : ℕ). suc n) e)

got_all : (vrf : Option ℕ) (len next : ℕ) (items : List AddrItem) (family : Family) (us : List ℕ) → length (claimed_addresses vrf len next items (addressed family us)) < length items
    → length (claimed_addresses vrf len next items (addressed family us)) ≡ length us
got_all vrf len next [] family us l = absurd (omega arith)
got_all vrf len next (item ∷ items) family [] l = refl
got_all vrf len next (item ∷ items) family (u ∷ us) l = (let e = got_all vrf len (next + 1) items family us (omega arith) in ap (λ (n : ℕ). suc n) e)

module _ (s : State) (form : Answered) (items : List AddrItem) (vrf : Option ℕ) (len : ℕ) (family : Family) (us : List ℕ) (IsFree : Address → Type 0) (low : ℕ) (ups : Ups low us) (all : ArePicked vrf len family IsFree us) where
  abbrev rows : List IpAddress
  rows = claimed_addresses vrf len s.addresses.next items (addressed family us)

  abbrev told : List (Option Refusal)
  told = flat_map (told_of_address family) items

  too_few : (k : ℕ) → (outcome s (claim_addresses_of s form items vrf len family us)).1 ≡ Refused (NoSpace k) → MayClaimAddresses family items × AreTooFew IsFree (length items) k
  too_few k q =
      let w = wants_from address_rules s told (length items) form rows k (told_other family items) q in
      let count : length rows ≡ length us = got_all vrf len s.addresses.next items family us w.less in
      let is = w.is in
      let less = w.less in
      let allowed = all_allowed family items w.told_none in (
        record { few = w.few; slaac = λ item c. (allowed item c).slaac; names = λ item c. (allowed item c).name },
        record {
          free = addressed family us;
          all = λ a. (
            (λ c. let p = contains_place (addressed family us) a c in let r = addressed_place family us p.0 a p.1 in
                all.is_free a (ap (λ (b : Address). b.family) r.2) (subst (λ (n : ℕ). Contains us n) (sym (ap (λ (b : Address). b.value) r.2)) (place_contains us p.0 r.0 r.1))),
            (λ f. let p = all.is_picked a f in
                subst (λ (b : Address). Contains (addressed family us) b) (one_address (record { family = family; value = a.value }) a (sym p.0) refl) (addressed_has family us a.value p.1)),
          );
          rise = λ i j a b p q l. (
              let c = addressed_place family us i a p in
              let d = addressed_place family us j b q in
              let v : a.value ≡ c.0 = ap (λ (h : Address). h.value) c.2 in
              let w : b.value ≡ d.0 = ap (λ (h : Address). h.value) d.2 in
              let less = ups_places low us i j c.0 d.0 ups c.1 d.1 l in
              omega arith);
          count_is = length-map us (λ (n : ℕ). let a : Address = record { family = family; value = n } in a) ∙ sym count ∙ sym is;
          fewer = omega arith;
        },
      )

  few_refused : (k : ℕ) → MayClaimAddresses family items → AreTooFew IsFree (length items) k → (outcome s (claim_addresses_of s form items vrf len family us)).1 ≡ Refused (NoSpace k)
  few_refused k may few =
      let values : List ℕ = map (λ (a : Address). a.value) few.free in
      let same : us ≡ values = one_list low zero us values ups (ups_from zero few.free (λ j b q. omega arith) few.rise)
      (λ n c. mapped_has (λ (a : Address). a.value) few.free (record { family = family; value = n }) ((few.all (record { family = family; value = n })).1 (all.is_free (record { family = family; value = n }) refl c)))
      (λ n c. let m = contains_map (λ (a : Address). a.value) few.free n c in subst (λ (v : ℕ). Contains us v) m.2 (all.is_picked m.0 ((few.all m.0).0 m.1)).1) in
      let many : length us ≡ k = ap length same ∙ length-map few.free (λ (a : Address). a.value) ∙ few.count_is in
      let fewer = few.fewer in
      let count = got_few vrf len s.addresses.next items family us (omega arith) in
      let refused = wanting address_rules s told (length items) form rows may.few (all_told family items (λ item c. record { slaac = may.slaac item c; name = may.names item c })) (omega arith) in
      refused ∙ ap (λ (n : ℕ). Refused (NoSpace n)) (count ∙ many)

pub in_prefixes : (s : State) (n : ℕ) (form : Answered) (items : List AddrItem) (k : ℕ) → ((plain_step s (ClaimPrefixAddrs n form items)).1 ≡ Refused (NoSpace k))
    ↔ ((p : Prefix) × (row_at prefix_id s.prefixes.rows n ≡ Some p) × MayClaimAddresses p.block.family items × AreTooFew (IsFreeIn s p) (length items) k)
in_prefixes s n form items k =
    let plan : Prefix → Plan = λ row. claim_addresses_of s form items row.vrf row.block.len row.block.family (usable_in s row) in (
      (λ q. let f = found_refused prefix_rules s n plan (row_at prefix_id s.prefixes.rows n) k q in
          let t = too_few s form items f.0.vrf f.0.block.len f.0.block.family (usable_in s f.0) (IsFreeIn s f.0) f.0.block.first (usable_rise s f.0) (prefix_picked s f.0) k f.2 in
          (f.0, f.1, t.0, t.1)),
      (λ h. at_found prefix_rules s n plan h.0 (Refused (NoSpace k)) h.1
          (few_refused s form items h.0.vrf h.0.block.len h.0.block.family (usable_in s h.0) (IsFreeIn s h.0) h.0.block.first (usable_rise s h.0) (prefix_picked s h.0) k h.2 h.3)),
    )

pub in_ranges : (s : State) (n : ℕ) (form : Answered) (items : List AddrItem) (k : ℕ) → ((plain_step s (ClaimRangeAddrs n form items)).1 ≡ Refused (NoSpace k))
    ↔ ((r : IpRange) × (row_at range_id s.ranges.rows n ≡ Some r) × MayClaimAddresses r.ends.start.family items × AreTooFew (IsFreeInRange s r) (length items) k)
in_ranges s n form items k =
    let plan : IpRange → Plan = λ row. claim_addresses_of s form items row.vrf row.ends.len row.ends.start.family (usable_of_range s row) in (
      (λ q. let f = found_refused range_rules s n plan (row_at range_id s.ranges.rows n) k q in
          let t = too_few s form items f.0.vrf f.0.ends.len f.0.ends.start.family (usable_of_range s f.0) (IsFreeInRange s f.0) f.0.ends.start.value (spare_rise s f.0) (range_picked s f.0) k f.2 in
          (f.0, f.1, t.0, t.1)),
      (λ h. at_found range_rules s n plan h.0 (Refused (NoSpace k)) h.1
          (few_refused s form items h.0.vrf h.0.ends.len h.0.ends.start.family (usable_of_range s h.0) (IsFreeInRange s h.0) h.0.ends.start.value (spare_rise s h.0) (range_picked s h.0) k h.2 h.3)),
    )
