-- When a claim finds no space: which claims are looked for space, and which item is the first that gets none.
use Rattle.std.specs.Prelude.{◌≡◌, ℕ, ◌<◌, Bool, true, false, List, ◌∷◌, Option, Some, None, length}
use Rattle.std.specs.List.{flat_map}
use Rattle.block_space.specs.Fit.{fits_of}
use Rattle.ipam_data.specs.declared.prefix.Prefix.{Prefix}
use Rattle.ipam_data.specs.declared.range.IpRange.{IpRange}
use Rattle.ipam_data.specs.declared.calls.Call.{Call}
use Rattle.ipam_data.specs.declared.calls.Call.TheVariants.{List as ListOf, Get, Create, Change, Delete, Blocks, PrefixAddrs, RangeAddrs, ClaimBlocks, ClaimPrefixAddrs, ClaimRangeAddrs, Utilization, Import, Export, Survey}
use Rattle.ipam_data.specs.declared.replies.Refusal.{Refusal}
use Rattle.ipam_data.specs.declared.replies.Which.TheVariants.{Claims}
use Rattle.ipam_data.specs.RowList.{row_at}
use Rattle.ipam_data.specs.Rows.{prefix_id, range_id}
use Rattle.ipam_data.specs.Checks.{first, too_many}
use Rattle.ipam_data.specs.State.{State}
use Rattle.ipam_data.specs.Claims.{child_blocks, lengths_of, usable_in, usable_of_range, told_of_block, told_of_address, most_items}

-- the calls that give out space
abbrev pub is_claim : Call → Bool
is_claim (ListOf kind filter limit offset) = false
is_claim (Get kind n) = false
is_claim (Create draft) = false
is_claim (Change n edit) = false
is_claim (Delete kind n) = false
is_claim (Blocks n limit) = false
is_claim (PrefixAddrs n limit) = false
is_claim (RangeAddrs n limit) = false
is_claim (ClaimBlocks n answered items) = true
is_claim (ClaimPrefixAddrs n answered items) = true
is_claim (ClaimRangeAddrs n answered items) = true
is_claim (Utilization kind n) = false
is_claim (Import kind rows) = false
is_claim (Export kind) = false
is_claim Survey = false

-- of so many items that are wanted so many get something, so that the item of this number, from 0, is the first that gets nothing;
-- there are not too many items, and nothing is said of them
pub record FallsShort (told : List (Option Refusal)) (wanted got item : ℕ) : Type 0 where
  pub begun : first (too_many Claims most_items wanted ∷ told) ≡ None
  pub first_without : item ≡ got
  pub short : got < wanted

-- the claim finds no space for the item of this number: its row exists, the items before it get the lowest free blocks of their
-- lengths, one after another, or the lowest addresses that can be given out, and for it none is left
abbrev pub LacksSpace : State → Call → ℕ → Type 0
LacksSpace s (ClaimBlocks n answered items) i =
    (row : Prefix) × (row_at prefix_id s.prefixes.rows n ≡ Some row)
    × FallsShort (flat_map (told_of_block s row) items) (length items) (length (fits_of row.block (child_blocks s.prefixes.rows row) (lengths_of items))) i
LacksSpace s (ClaimPrefixAddrs n answered items) i =
    (row : Prefix) × (row_at prefix_id s.prefixes.rows n ≡ Some row)
    × FallsShort (flat_map (told_of_address row.block.family) items) (length items) (length (usable_in s row)) i
LacksSpace s (ClaimRangeAddrs n answered items) i =
    (row : IpRange) × (row_at range_id s.ranges.rows n ≡ Some row)
    × FallsShort (flat_map (told_of_address row.ends.start.family) items) (length items) (length (usable_of_range s row)) i
LacksSpace s (ListOf kind filter limit offset) i = ⊥
LacksSpace s (Get kind n) i = ⊥
LacksSpace s (Create draft) i = ⊥
LacksSpace s (Change n edit) i = ⊥
LacksSpace s (Delete kind n) i = ⊥
LacksSpace s (Blocks n limit) i = ⊥
LacksSpace s (PrefixAddrs n limit) i = ⊥
LacksSpace s (RangeAddrs n limit) i = ⊥
LacksSpace s (Utilization kind n) i = ⊥
LacksSpace s (Import kind rows) i = ⊥
LacksSpace s (Export kind) i = ⊥
LacksSpace s Survey i = ⊥
