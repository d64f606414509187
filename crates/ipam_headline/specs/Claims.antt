-- What the history of a register means for claims, in the words of `claim_laws`.
use Rattle.std.specs.Prelude.{◌≡◌, ◌≢◌, ◌⊎◌, ℕ, ◌<◌, true, List, map, take, slice_get, Some}
use Rattle.inet_num.specs.Net.{IsStrictlyInside}
use Rattle.history_lock.specs.Replay.{replay}
use Rattle.ipam_data.specs.declared.address.IpAddress.{IpAddress}
use Rattle.ipam_data.specs.declared.prefix.Prefix.{Prefix}
use Rattle.ipam_data.specs.declared.calls.Call.{Call}
use Rattle.ipam_data.specs.declared.calls.Call.TheVariants.{ClaimBlocks, ClaimPrefixAddrs, ClaimRangeAddrs}
use Rattle.ipam_data.specs.declared.range.IpRange.{IpRange}
use Rattle.ipam_data.specs.Rows.{prefix_id, range_id}
use Rattle.ipam_data.specs.RowList.{row_at}
use Rattle.ipam_data.specs.Addresses.{address_rules}
use Rattle.ipam_data.specs.Prefixes.{prefix_rules}
use Rattle.ipam_data.specs.State.{State}
use Rattle.ipam_data.specs.Steps.{plain_step}
use Rattle.ipam_data.specs.Replays.{Entry}
use Rattle.claim_laws.specs.Rows.{IsMade}
use Rattle.claim_laws.specs.Free.{IsFreeIn, IsFreeInRange, ShareNone}
use Rattle.claim_laws.specs.Claims.{GotAddresses, GotBlocks}
use Rattle.claim_laws.specs.Histories.{IsBetween, ReleasesAddress, ReleasesPrefix, claims_addresses, claims_blocks}

abbrev pub entry_of : ℕ × Call → Entry
entry_of pair = record { who = pair.0; call = pair.1 }

-- the state after the first n changes
abbrev pub state_after : State → List (ℕ × Call) → ℕ → State
state_after opening history n = replay plain_step opening (take n history)

-- of each entry, in the state before it
abbrev pub EachEntry : State → List (ℕ × Call) → (State → Call → Type 0) → Type 0
EachEntry opening history Holds = (n : ℕ) (who : ℕ) (call : Call) → slice_get history n ≡ Some (who, call) → Holds (state_after opening history n) call

-- a claim of addresses gets the least that are free in this state
abbrev pub GetsTheLeast : State → Call → Type 0
GetsTheLeast s (ClaimPrefixAddrs n form items) = (p : Prefix) × (row_at prefix_id s.prefixes.rows n ≡ Some p)
    × GotAddresses (IsFreeIn s p) p.vrf p.block.len s form items (plain_step s (ClaimPrefixAddrs n form items))
GetsTheLeast s (ClaimRangeAddrs n form items) = (r : IpRange) × (row_at range_id s.ranges.rows n ≡ Some r)
    × GotAddresses (IsFreeInRange s r) r.vrf r.ends.len s form items (plain_step s (ClaimRangeAddrs n form items))
GetsTheLeast s call = Unit {0}

-- and one of blocks, for each item, the least that is free
abbrev pub GetsFreeBlocks : State → Call → Type 0
GetsFreeBlocks s (ClaimBlocks n form items) = (p : Prefix) × (row_at prefix_id s.prefixes.rows n ≡ Some p)
    × GotBlocks s p form items (plain_step s (ClaimBlocks n form items))
GetsFreeBlocks s call = Unit {0}

-- an address that an entry made, and one of its table that a later claim made, have two hosts, unless an entry between released the first
abbrev pub AddressesApart : State → List (ℕ × Call) → Type 0
AddressesApart opening history = (i j : ℕ) (one other : ℕ × Call) (x y : IpAddress) → i < j → slice_get history i ≡ Some one
    → slice_get history j ≡ Some other → claims_addresses other.1 ≡ true
    → IsMade address_rules (state_after opening history i) one.1 x → IsMade address_rules (state_after opening history j) other.1 y → x.vrf ≡ y.vrf
    → (x.host.addr ≢ y.host.addr) ⊎ IsBetween opening (map entry_of history) i j (ReleasesAddress x)

-- a prefix that an entry made, and one of its table that a later claim made: they share no address, or the later one lies inside
abbrev pub BlocksApart : State → List (ℕ × Call) → Type 0
BlocksApart opening history = (i j : ℕ) (one other : ℕ × Call) (x y : Prefix) → i < j → slice_get history i ≡ Some one
    → slice_get history j ≡ Some other → claims_blocks other.1 ≡ true
    → IsMade prefix_rules (state_after opening history i) one.1 x → IsMade prefix_rules (state_after opening history j) other.1 y → x.vrf ≡ y.vrf
    → ShareNone x.block y.block ⊎ IsStrictlyInside y.block x.block ⊎ IsBetween opening (map entry_of history) i j (ReleasesPrefix x)
