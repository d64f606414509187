-- How many addresses a range is shown to have.
use Rattle.std.specs.Prelude.{ℕ, ◌+◌, ◌-◌, ◌&&◌, nat_le, if◌then◌else◌}
use Rattle.ipam_data.specs.Hosts.{RangeEnds}
use Rattle.inet_num.specs.Blocks.{same_family}
use Rattle.ipam_data.specs.Ranges.{most_of_range}

-- a count that is shown: none above this one
abbrev pub shown_count : ℕ → ℕ
shown_count count = if nat_le count most_of_range then count else most_of_range

-- how many addresses there are from start to end: none if the families differ or the end is below the start
abbrev pub range_size : RangeEnds → ℕ
range_size ends =
    if same_family ends.start.family ends.end.family && nat_le ends.start.value ends.end.value
    then shown_count (ends.end.value - ends.start.value + 1) else 0
