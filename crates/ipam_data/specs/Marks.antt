-- What could be given out before ranges said whether somebody else fills them: every range withheld its addresses from the prefixes of
-- its table, and gave out those that none had. And what marks of all ranges keep of that.
use Rattle.std.specs.Prelude.{◌≡◌, ℕ, ◌&&◌, Bool, not, true, false, List, filter}
use Rattle.std.specs.List.{list_any}
use Rattle.block_space.specs.Usable.{usable_of}
use Rattle.ipam_data.specs.declared.prefix.Prefix.{Prefix}
use Rattle.ipam_data.specs.declared.range.IpRange.{IpRange}
use Rattle.ipam_data.specs.RowList.{mapped}
use Rattle.ipam_data.specs.State.{State}
use Rattle.ipam_data.specs.Claims.{is_hosted, is_beside, has_number, is_host_beside, numbers_in, usable_in, usable_of_range}

-- some range of the prefix's table has this number
abbrev pub once_withheld : List IpRange → Prefix → ℕ → Bool
once_withheld ranges row a = list_any (λ r. is_beside row r && has_number r a) ranges

-- the addresses of a prefix that could be given out, in order
abbrev pub once_usable_in : State → Prefix → List ℕ
once_usable_in s row = usable_of (is_hosted s.addresses.rows row) (once_withheld s.ranges.rows row) row.block row.is_pool

-- those of a range
abbrev pub once_usable_of_range : State → IpRange → List ℕ
once_usable_of_range s row = filter (λ a. not (is_host_beside s.addresses.rows row a)) (numbers_in row)

abbrev pub with_mark : Bool → IpRange → IpRange
with_mark populated row = record row { mark_populated = populated }

-- the state with the mark of every range as asked
abbrev pub marked : Bool → State → State
marked populated s = record s { ranges = mapped (with_mark populated) s.ranges }

-- if every range is populated, each prefix gives out what it gave out before
abbrev pub MarksKeepPrefixes : Type 0
MarksKeepPrefixes = (s : State) (row : Prefix) → usable_in (marked true s) row ≡ once_usable_in s row

-- if none is, each range does
abbrev pub NoMarksKeepRanges : Type 0
NoMarksKeepRanges = (s : State) (row : IpRange) → usable_of_range (marked false s) (with_mark false row) ≡ once_usable_of_range s row
