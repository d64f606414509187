-- The spans of a table's ranges of one family: all of them, those that count as full, or those that somebody else fills.
use Rattle.std.specs.Prelude.{◌+◌, ◌-◌, ◌==◌, nat_lt, nat_le, Bool, true, ◌&&◌, List, [], ◌∷◌, Option, Some, None, map, filter, IsPermutation, if◌then◌else◌}
use Rattle.inet_num.specs.declared.Family.{Family}
use Rattle.inet_num.specs.declared.Span.{Span}
use Rattle.inet_num.specs.Blocks.{same_family}
use Rattle.block_space.specs.Usable.{AreApart}
use Rattle.ipam_data.specs.declared.kinds.Table.{Table}
use Rattle.ipam_data.specs.declared.range.IpRange.{IpRange}
use Rattle.ipam_data.specs.Tables.{table_of, same_table}
use Rattle.ipam_data.specs.declared.replies.Rule.{Rule}
use Rattle.ipam_data.specs.declared.replies.Rule.TheVariants.{ZeroMask, RangeOrder, RangeSize}
use Rattle.ipam_data.specs.Ranges.{range_family, most_of_range}
use Rattle.ip_ranges.specs.declared.SpanKind.{SpanKind}
use Rattle.ip_ranges.specs.declared.SpanKind.TheVariants.{All, Utilized, Populated}

-- the range is one of those that are meant
abbrev pub is_meant : SpanKind → IpRange → Bool
is_meant All row = true
is_meant Utilized row = row.mark_utilized
is_meant Populated row = row.mark_populated

-- and it is of the table and the family
abbrev pub is_spanned : Table → Family → SpanKind → IpRange → Bool
is_spanned table family which row =
    same_table (table_of row.vrf) table && same_family row.ends.start.family family && is_meant which row

-- from its start to its end
abbrev pub span_of : IpRange → Span
span_of row = record { first = row.ends.start; last = row.ends.end }

-- the spans of those ranges, in the order of their ids
abbrev pub spans_of_rows : List IpRange → Table → Family → SpanKind → List Span
spans_of_rows rows table family which = map span_of (filter (is_spanned table family which) rows)

-- just those spans, in address order, and no two of them share an address
abbrev pub AreSpansOf : List IpRange → Table → Family → SpanKind → List Span → Type 0
AreSpansOf rows table family which spans = IsPermutation spans (spans_of_rows rows table family which) × AreApart 0 spans

-- what a range breaks by itself, in the order of `range_fault`
abbrev pub own_rules : IpRange → List (Option Rule)
own_rules row =
    range_family row.ends.start row.ends.end
    ∷ (if row.ends.len == 0 then Some ZeroMask else None)
    ∷ (if nat_lt row.ends.start.value row.ends.end.value then None else Some RangeOrder)
    ∷ (if nat_le (row.ends.end.value + 1 - row.ends.start.value) most_of_range then None else Some RangeSize)
    ∷ []
