-- An accepted claim of addresses gets the least that are free, in order, and each row has what its item says.
use Rattle.std.proofs.Common.{◌++◌, ◌+◌, ◌<◌, ◌∙◌, ◌∷◌, ◌≡◌, ◌≤◌, ◌⊎◌, Contains, List, Option, Some, [], ap, arith, inl, inr, length, map, refl, subst, suc, sym, true, zero, ℕ}
use Rattle.std.specs.List.{flat_map, slice_get}
use Rattle.std.specs.Str.{str_to_ascii_lowercase}
use Rattle.inet_num.specs.Net.{Address}
use Rattle.inet_num.specs.declared.Family.{Family}
use Rattle.block_space.specs.Usable.{addressed}
use Rattle.ipam_data.specs.Addresses.{address_rules}
use Rattle.ipam_data.specs.Checks.{too_many}
use Rattle.ipam_data.specs.Claims.{claim_addresses_of, claimed_addresses, most_items, no_space, served, told_of_address, usable_in, usable_of_range}
use Rattle.ipam_data.specs.Plans.{no_place}
use Rattle.ipam_data.specs.Prefixes.{prefix_rules}
use Rattle.ipam_data.specs.Ranges.{range_rules}
use Rattle.ipam_data.specs.Replays.{is_accepted}
use Rattle.ipam_data.specs.RowList.{row_at}
use Rattle.ipam_data.specs.Rows.{prefix_id, range_id}
use Rattle.ipam_data.specs.State.{Plan, State}
use Rattle.ipam_data.specs.Steps.{plain_step}
use Rattle.ipam_data.specs.Updates.{answered, figured, outcome, updated}
use Rattle.ipam_data.specs.declared.address.IpAddress.{IpAddress}
use Rattle.ipam_data.specs.declared.calls.AddrItem.{AddrItem}
use Rattle.ipam_data.specs.declared.calls.Answered.{Answered}
use Rattle.ipam_data.specs.declared.calls.Answered.TheVariants.{AsList, AsOne}
use Rattle.ipam_data.specs.declared.calls.Call.TheVariants.{ClaimPrefixAddrs, ClaimRangeAddrs}
use Rattle.ipam_data.specs.declared.prefix.Prefix.{Prefix}
use Rattle.ipam_data.specs.declared.range.IpRange.{IpRange}
use Rattle.ipam_data.specs.declared.replies.Refusal.{Refusal}
use Rattle.ipam_data.specs.declared.replies.Reply.{Reply}
use Rattle.ipam_data.specs.declared.replies.Reply.TheVariants.{MadeMany}
use Rattle.ipam_data.specs.declared.replies.View.{View}
use Rattle.ipam_data.specs.declared.replies.View.TheVariants.{IpAddress as AddressView}
use Rattle.ipam_data.specs.declared.replies.Which.TheVariants.{Claims}
use Rattle.ipam_data.proofs.AddressClaims.{Ups}
use Rattle.ipam_data.proofs.ClaimLaws.{enough}
use Rattle.ipam_data.proofs.ManyCan.{addresses_few}
use Rattle.ipam_data.proofs.RowLists.{contains_cases, contains_head, contains_rest}
use Rattle.ipam_data.proofs.Ties.{addresses_tied}
use Rattle.ipam_data.proofs.Verdicts.{none_head, none_right}
use Rattle.claim_laws.specs.Claims.{AreAddressesFor, AreTheLeast, GotAddresses, IsAddressFor}
use Rattle.claim_laws.specs.Free.{IsFreeIn, IsFreeInRange}
use Rattle.claim_laws.specs.Rows.{Came, IsListed}
use Rattle.claim_laws.proofs.Came.{accepted_done, came, claimed_rows, found_plan}
use Rattle.claim_laws.proofs.FreeAddresses.{free_spare, free_usable, one_address, spare_free, usable_free}
use Rattle.claim_laws.proofs.Lemmas.{addresses_follow}
use Rattle.claim_laws.proofs.Lists.{contains_place, place_contains}
use Rattle.claim_laws.proofs.Picked.{spare_rise, usable_rise}

-- ---- numbers in order

pub ups_above : (low : ℕ) (us : List ℕ) (u : ℕ) → Ups low us → Contains us u → low ≤ u
ups_above low [] u h c = let l = c.1 in absurd (omega arith)
ups_above low (v ∷ us) u h c = let l = h.0 in elim (contains_cases v u us c) [
  | inl e ↦ omega arith
  | inr d ↦ (let k = ups_above (v + 1) us u h.1 d in omega arith)
]

pub ups_places : (low : ℕ) (us : List ℕ) (i j u v : ℕ) → Ups low us → slice_get us i ≡ Some u → slice_get us j ≡ Some v → i < j → u < v
ups_places low [] i j u v h p q l = cc
ups_places low (w ∷ us) i zero u v h p q l = absurd (omega arith)
ups_places low (w ∷ us) zero (suc j) u v h p q l = (let e : w ≡ u = cc in let k = ups_above (w + 1) us v h.1 (place_contains us j v q) in omega arith)
ups_places low (w ∷ us) (suc i) (suc j) u v h p q l = ups_places (w + 1) us i j u v h.1 p q (omega arith)

-- ---- the rows

module _ (vrf : Option ℕ) (len : ℕ) (family : Family) where
  abbrev one : ℕ → AddrItem → ℕ → IpAddress
  one next item u = record { id = next; host = record { addr = record { family = family; value = u }; len = len }; vrf = vrf; status = item.status; role = item.role; dns_name = str_to_ascii_lowercase item.dns_name; description = item.description }

  abbrev got : ℕ → List AddrItem → List ℕ → List IpAddress
  got next items us = claimed_addresses vrf len next items (addressed family us)

  -- row k has number k, and what item k says
  record IsRow (items : List AddrItem) (us : List ℕ) (k : ℕ) (x : IpAddress) : Type 0 where
    item : AddrItem
    its : slice_get items k ≡ Some item
    number : ℕ
    picked : slice_get us k ≡ Some number
    host : x.host.addr ≡ record { family = family; value = number }
    says : IsAddressFor vrf len item x

  row_of : (next : ℕ) (items : List AddrItem) (us : List ℕ) (k : ℕ) (x : IpAddress) → slice_get (got next items us) k ≡ Some x → IsRow items us k x
  row_of next [] us k x q = cc
  row_of next (item ∷ items) [] k x q = cc
  row_of next (item ∷ items) (u ∷ us) zero x q =
      let e : one next item u ≡ x = cc in
      subst (IsRow (item ∷ items) (u ∷ us) zero) e
      (record { item = item; its = refl; number = u; picked = refl; host = refl; says = record { table = refl; mask = refl; status = refl; role = refl; name = refl; description = refl } })
  row_of next (item ∷ items) (u ∷ us) (suc k) x q =
      let r = row_of (next + 1) items us k x q in
      record { item = r.item; its = r.its; number = r.number; picked = r.picked; host = r.host; says = r.says }

  each_says : (next : ℕ) (items : List AddrItem) (us : List ℕ) → AreAddressesFor vrf len items (got next items us)
  each_says next items us k item x p q =
      let r = row_of next items us k x q in
      let same : r.item ≡ item = (let e : Some r.item ≡ Some item = sym r.its ∙ p in cc) in
      subst (λ (i : AddrItem). IsAddressFor vrf len i x) same r.says

  abbrev Has : List IpAddress → ℕ → Type 0
  Has rows a = (y : IpAddress) × Contains rows y × (y.host.addr.value ≡ a)

  claimed_least : (next low : ℕ) (items : List AddrItem) (us : List ℕ) (x : IpAddress) (a : ℕ) → Ups low us → Contains (got next items us) x → Contains us a → a < x.host.addr.value → Has (got next items us) a
  claimed_least next low [] us x a h c d l = let k = c.1 in absurd (omega arith)
  claimed_least next low (item ∷ items) [] x a h c d l = let k = c.1 in absurd (omega arith)
  claimed_least next low (item ∷ items) (u ∷ us) x a h c d l =
      go (contains_cases (one next item u) x (got (next + 1) items us) c) (contains_cases u a us d) (λ p q. claimed_least (next + 1) (u + 1) items us x a h.1 p q l)
    where
      go : (one next item u ≡ x) ⊎ Contains (got (next + 1) items us) x → (u ≡ a) ⊎ Contains us a
          → (Contains (got (next + 1) items us) x → Contains us a → Has (got (next + 1) items us) a) → Has (one next item u ∷ got (next + 1) items us) a
      go p (inl b) ih = (one next item u, contains_head (one next item u) (got (next + 1) items us), b)
      go (inl p) (inr b) ih = let v = ap (λ (r : IpAddress). r.host.addr.value) p in let k = ups_above (u + 1) us a h.1 b in absurd (omega arith)
      go (inr p) (inr b) ih = let r = ih p b in (r.0, contains_rest (one next item u) r.0 (got (next + 1) items us) r.1, r.2)

  -- what was picked is all that is free
  pub record ArePicked (IsFree : Address → Type 0) (us : List ℕ) : Type 0 where
    pub is_free : (a : Address) → a.family ≡ family → Contains us a.value → IsFree a
    pub is_picked : (a : Address) → IsFree a → (a.family ≡ family) × Contains us a.value

  least_rows : (IsFree : Address → Type 0) (us : List ℕ) (low next : ℕ) (items : List AddrItem) → Ups low us → ArePicked IsFree us → AreTheLeast IsFree (got next items us)
  least_rows IsFree us low next items ups all =
      let row : (x : IpAddress) → Contains (got next items us) x → (k : ℕ) × IsRow items us k x =
      λ x c. let p = contains_place (got next items us) x c in (p.0, row_of next items us p.0 x p.1) in
      record {
        free = λ x c. (
            let r = row x c in
            let number : x.host.addr.value ≡ r.1.number = ap (λ (a : Address). a.value) r.1.host in
            all.is_free x.host.addr (ap (λ (a : Address). a.family) r.1.host) (subst (λ (n : ℕ). Contains us n) (sym number) (place_contains us r.0 r.1.number r.1.picked)));
        rise = λ i j x y p q l. (
            let a = row_of next items us i x p in
            let b = row_of next items us j y q in
            let v : x.host.addr.value ≡ a.number = ap (λ (h : Address). h.value) a.host in
            let w : y.host.addr.value ≡ b.number = ap (λ (h : Address). h.value) b.host in
            let less = ups_places low us i j a.number b.number ups a.picked b.picked l in
            omega arith);
        none_passed = λ x a c f l. (
            let k = all.is_picked a f in
            let r = claimed_least next low items us x a.value ups c k.1 l in
            let h = row r.0 r.1 in
            (r.0, r.1, one_address r.0.host.addr a (ap (λ (b : Address). b.family) h.1.host ∙ sym k.0) r.2));
      }

-- ---- the claim

-- an address is answered as it is
figured_same : (s : State) (rows : List IpAddress) → map (figured s) (map AddressView rows) ≡ map AddressView rows
figured_same s [] = refl
figured_same s (row ∷ rows) = ap (λ (views : List View). AddressView row ∷ views) (figured_same s rows)

answered_same : (s : State) (form : Answered) (rows : List IpAddress) → answered s (served form (map AddressView rows)) ≡ served form (map AddressView rows)
answered_same s AsOne [] = refl
answered_same s AsOne (row ∷ rows) = refl
answered_same s AsList rows = ap MadeMany (figured_same s rows)

module _ (s : State) (form : Answered) (items : List AddrItem) (vrf : Option ℕ) (len : ℕ) (family : Family) (us : List ℕ) where
  abbrev plan : Plan
  plan = claim_addresses_of s form items vrf len family us

  abbrev rows : List IpAddress
  rows = got vrf len family s.addresses.next items us

  claimed : (done : State × Reply) → IsListed s → outcome s plan ≡ done → is_accepted done.1 ≡ true → Came address_rules s done form (length items) AddressView rows
  claimed done h q a =
      let d = accepted_done s plan done q a in
      let told : List (Option Refusal) = flat_map (told_of_address family) items in
      let few : Option Refusal = too_many Claims most_items (length items) in
      let space : Option Refusal = no_space (length items) (length rows) in
      let place : List (Option Refusal) = no_place address_rules s (length items) in
      let enough = enough (length items) (length rows) (none_head space place (none_right (few ∷ told) (space ∷ place) d.verdict)) in
      let at_most = addresses_few vrf len s.addresses.next items (addressed family us) in
      let follow = addresses_follow vrf len s.addresses.next items (addressed family us) in
      let below = h.addresses.below in
      let after : State = updated s plan.update in
      let behind : after.addresses.rows ≡ s.addresses.rows ++ rows = claimed_rows address_rules addresses_tied (λ t n. refl) s told (length items) form rows below follow in
      subst (λ (d : State × Reply). Came address_rules s d form (length items) AddressView rows) (sym d.is)
      (came address_rules addresses_tied (λ t n. refl) s (after, answered after plan.reply) form (length items) AddressView rows below follow (omega arith) behind (answered_same after form rows))

  gotten : (IsFree : Address → Type 0) (done : State × Reply) (low : ℕ) → IsListed s → Ups low us → ArePicked vrf len family IsFree us → outcome s plan ≡ done → is_accepted done.1 ≡ true
      → GotAddresses IsFree vrf len s form items done
  gotten IsFree done low h ups all q a = record {
    rows = rows;
    came = claimed done h q a;
    least = least_rows vrf len family IsFree us low s.addresses.next items ups all;
    each = each_says vrf len family s.addresses.next items us;
  }

pub prefix_picked : (s : State) (p : Prefix) → ArePicked p.vrf p.block.len p.block.family (IsFreeIn s p) (usable_in s p)
prefix_picked s p = record { is_free = usable_free s p; is_picked = λ a f. (f.inside.0, free_usable s p a f) }

pub range_picked : (s : State) (r : IpRange) → ArePicked r.vrf r.ends.len r.ends.start.family (IsFreeInRange s r) (usable_of_range s r)
range_picked s r = record { is_free = spare_free s r; is_picked = λ a f. (f.inside.0, free_spare s r a f) }

pub in_prefix : (s : State) (n : ℕ) (form : Answered) (items : List AddrItem) (done : State × Reply) → IsListed s → plain_step s (ClaimPrefixAddrs n form items) ≡ done → is_accepted done.1 ≡ true
    → (p : Prefix) × (row_at prefix_id s.prefixes.rows n ≡ Some p) × GotAddresses (IsFreeIn s p) p.vrf p.block.len s form items done
in_prefix s n form items done h q a =
    let f = found_plan prefix_rules s n (λ row. claim_addresses_of s form items row.vrf row.block.len row.block.family (usable_in s row)) (row_at prefix_id s.prefixes.rows n) done q a in
    (f.0, f.1, gotten s form items f.0.vrf f.0.block.len f.0.block.family (usable_in s f.0) (IsFreeIn s f.0) done f.0.block.first h (usable_rise s f.0) (prefix_picked s f.0) f.2 a)

pub in_range : (s : State) (n : ℕ) (form : Answered) (items : List AddrItem) (done : State × Reply) → IsListed s → plain_step s (ClaimRangeAddrs n form items) ≡ done → is_accepted done.1 ≡ true
    → (r : IpRange) × (row_at range_id s.ranges.rows n ≡ Some r) × GotAddresses (IsFreeInRange s r) r.vrf r.ends.len s form items done
in_range s n form items done h q a =
    let f = found_plan range_rules s n (λ row. claim_addresses_of s form items row.vrf row.ends.len row.ends.start.family (usable_of_range s row)) (row_at range_id s.ranges.rows n) done q a in
    (f.0, f.1, gotten s form items f.0.vrf f.0.ends.len f.0.ends.start.family (usable_of_range s f.0) (IsFreeInRange s f.0) done f.0.ends.start.value h (spare_rise s f.0) (range_picked s f.0) f.2 a)
