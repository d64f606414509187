-- Claims over a history: no claim returns what an earlier call made, unless an entry between released it.
use Rattle.std.specs.Prelude.{◌≡◌, ◌≢◌, ◌⊎◌, ℕ, ◌<◌, Bool, true, false, Contains, List, Some, take, slice_get}
use Rattle.std.specs.List.{AllByRecursion}
use Rattle.inet_num.specs.Net.{IsStrictlyInside}
use Rattle.ipam_data.specs.declared.calls.Call.{Call}
use Rattle.ipam_data.specs.declared.calls.Call.TheVariants.{Change, Delete, ClaimBlocks, ClaimPrefixAddrs, ClaimRangeAddrs}
use Rattle.ipam_data.specs.declared.calls.Edit.{Edit}
use Rattle.ipam_data.specs.declared.kinds.Kind.TheVariants.{Prefixes, Addresses}
use Rattle.ipam_data.specs.declared.address.IpAddress.{IpAddress}
use Rattle.ipam_data.specs.declared.prefix.Prefix.{Prefix}
use Rattle.ipam_data.specs.State.{State}
use Rattle.ipam_data.specs.Plans.{KindRules}
use Rattle.ipam_data.specs.Vrfs.{vrf_rules}
use Rattle.ipam_data.specs.Rirs.{rir_rules}
use Rattle.ipam_data.specs.Roles.{role_rules}
use Rattle.ipam_data.specs.Aggregates.{aggregate_rules}
use Rattle.ipam_data.specs.Prefixes.{prefix_rules}
use Rattle.ipam_data.specs.Ranges.{range_rules}
use Rattle.ipam_data.specs.Addresses.{address_rules}
use Rattle.ipam_data.specs.Fields.{kind_of_edit}
use Rattle.ipam_data.specs.Steps.{plain_step, HasCallBounds}
use Rattle.ipam_data.specs.Replays.{Entry, replay, is_accepted}
use Rattle.ipam_data.specs.Lawful.{IsLawful}
use Rattle.claim_laws.specs.Rows.{IsListed, IsMade}
use Rattle.claim_laws.specs.Free.{ShareNone}

-- what each entry of a history keeps by its types
abbrev pub AreBounded : List Entry → Type 0
AreBounded history = AllByRecursion (λ (e : Entry). HasCallBounds e.call) history

-- an accepted entry strictly between two places, before which the state is such and whose call is such
pub record IsBetween (s : State) (history : List Entry) (i j : ℕ) (Is : State → Call → Type 0) : Type 0 where
  pub place : ℕ
  pub after : i < place
  pub before : place < j
  pub entry : Entry
  pub there : slice_get history place ≡ Some entry
  pub accepted : is_accepted (plain_step (replay s (take place history)) entry.call).1 ≡ true
  pub is : Is (replay s (take place history)) entry.call

-- ---- ids

-- what two calls of a history made of one kind have two ids
abbrev pub NeverTwice : {T : Type 0} → KindRules T → Type 0
NeverTwice {T} rules = (s : State) (history : List Entry) (i j : ℕ) (one other : Entry) (x y : T) → IsListed s
    → i < j → slice_get history i ≡ Some one → slice_get history j ≡ Some other
    → IsMade rules (replay s (take i history)) one.call x → IsMade rules (replay s (take j history)) other.call y → rules.id x < rules.id y

pub record IdsNeverReturn : Type 0 where
  pub vrfs : NeverTwice vrf_rules
  pub rirs : NeverTwice rir_rules
  pub roles : NeverTwice role_rules
  pub aggregates : NeverTwice aggregate_rules
  pub prefixes : NeverTwice prefix_rules
  pub ranges : NeverTwice range_rules
  pub addresses : NeverTwice address_rules

-- ---- addresses

-- the call deletes the address record, or changes it to another host address or table
abbrev pub ReleasesAddress : IpAddress → State → Call → Type 0
ReleasesAddress x s call =
    (call ≡ Delete Addresses x.id)
    ⊎ ((edit : Edit) × (z : IpAddress) × (call ≡ Change x.id edit) × (kind_of_edit edit ≡ Addresses)
    × Contains (plain_step s call).0.addresses.rows z × (z.id ≡ x.id) × ((z.host.addr ≢ x.host.addr) ⊎ (z.vrf ≢ x.vrf)))

abbrev pub claims_addresses : Call → Bool
claims_addresses (ClaimPrefixAddrs n form items) = true
claims_addresses (ClaimRangeAddrs n form items) = true
claims_addresses call = false

-- an address that any call of a history made, and one of its table that a later claim made, have two host addresses, unless an entry
-- between the two released the first one
abbrev pub AddressesNeverMeet : Type 0
AddressesNeverMeet = (s : State) (history : List Entry) (i j : ℕ) (one other : Entry) (x y : IpAddress) → IsListed s
    → i < j → slice_get history i ≡ Some one → slice_get history j ≡ Some other → claims_addresses other.call ≡ true
    → IsMade address_rules (replay s (take i history)) one.call x → IsMade address_rules (replay s (take j history)) other.call y → x.vrf ≡ y.vrf
    → (x.host.addr ≢ y.host.addr) ⊎ IsBetween s history i j (ReleasesAddress x)

-- ---- blocks

-- the call deletes the prefix, or changes it to another block or table
abbrev pub ReleasesPrefix : Prefix → State → Call → Type 0
ReleasesPrefix x s call =
    (call ≡ Delete Prefixes x.id)
    ⊎ ((edit : Edit) × (z : Prefix) × (call ≡ Change x.id edit) × (kind_of_edit edit ≡ Prefixes)
    × Contains (plain_step s call).0.prefixes.rows z × (z.id ≡ x.id) × ((z.block ≢ x.block) ⊎ (z.vrf ≢ x.vrf)))

abbrev pub claims_blocks : Call → Bool
claims_blocks (ClaimBlocks n form items) = true
claims_blocks call = false

-- a prefix that any call of a history made, and one of its table that a later claim made, share no address, or the later one lies strictly
-- inside the first one, unless an entry between the two released the first one; calls are within their bounds
abbrev pub BlocksNeverMeet : Type 0
BlocksNeverMeet = (s : State) (history : List Entry) (i j : ℕ) (one other : Entry) (x y : Prefix) → IsLawful s → AreBounded history
    → i < j → slice_get history i ≡ Some one → slice_get history j ≡ Some other → claims_blocks other.call ≡ true
    → IsMade prefix_rules (replay s (take i history)) one.call x → IsMade prefix_rules (replay s (take j history)) other.call y → x.vrf ≡ y.vrf
    → ShareNone x.block y.block ⊎ IsStrictlyInside y.block x.block ⊎ IsBetween s history i j (ReleasesPrefix x)

pub record ClaimsNeverMeet : Type 0 where
  pub addresses : AddressesNeverMeet
  pub blocks : BlocksNeverMeet
