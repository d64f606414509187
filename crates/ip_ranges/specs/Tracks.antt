-- A track: the spans of ranges in the order of their lanes and first addresses. Each table has a lane for each family.
use Rattle.std.specs.Prelude.{◌≡◌, ℕ, ◌+◌, ◌*◌, ◌^◌, ◌<◌, ◌≤◌, ◌==◌, ◌&&◌, nat_le, Bool, List, [], ◌∷◌, Option, None, Some, map, filter, cond, length, slice_index_or, count_by}
use Rattle.std.specs.List.Sorted.{IsPartitionPoint}
use Rattle.inet_num.specs.declared.Family.{Family}
use Rattle.inet_num.specs.declared.Family.TheVariants.{V4, V6}
use Rattle.inet_num.specs.declared.Span.{Span}
use Rattle.inet_num.specs.Net.{Address}
use Rattle.inet_num.specs.Blocks.{same_address}
use Rattle.ipam_data.specs.declared.kinds.Table.{Table}
use Rattle.ipam_data.specs.declared.kinds.Table.TheVariants.{Global, Of}
use Rattle.ipam_data.specs.declared.range.IpRange.{IpRange}
use Rattle.ipam_data.specs.Tables.{table_of}
use Rattle.ipam_data.specs.Rows.{range_id}
use Rattle.ipam_data.specs.RowList.{row_at}
use Rattle.ip_ranges.specs.declared.SpanKind.{SpanKind}
use Rattle.ip_ranges.specs.declared.tracks.Entry.{Entry}
use Rattle.ip_ranges.specs.Spans.{is_meant, span_of}

-- the number of the lane of a table and a family, which no other has
abbrev pub lane_of : Table → Family → ℕ
lane_of Global V4 = 0
lane_of Global V6 = 1
lane_of (Of n) V4 = 2 * (n + 1)
lane_of (Of n) V6 = 2 * (n + 1) + 1

-- the span of a range in its lane
abbrev pub entry_of : IpRange → Entry
entry_of row = record { lane = lane_of (table_of row.vrf) row.ends.start.family; span = span_of row }

-- the entry of one address of a table
abbrev pub spot_of : Table → Address → Entry
spot_of table a = record { lane = lane_of table a.family; span = record { first = a; last = a } }

-- where an address of a lane is among those of all lanes
abbrev pub number : ℕ → ℕ → ℕ
number lane value = lane * 2 ^ 128 + value

abbrev pub low : Entry → ℕ
low e = number e.lane e.span.first.value

abbrev pub high : Entry → ℕ
high e = number e.lane e.span.last.value

-- what contracts see of a track: its entries, and how many more it can take without memory
pub record Listed : Type 0 where
  pub entries : List Entry
  pub spare : ℕ

-- ---- tests of an entry

abbrev pub is_in_lane : ℕ → Entry → Bool
is_in_lane lane e = e.lane == lane

-- the second is of the lane of the first, and shares an address with it
abbrev pub is_met : Entry → Entry → Bool
is_met e x = x.lane == e.lane && nat_le x.span.first.value e.span.last.value && nat_le e.span.first.value x.span.last.value

abbrev pub is_same : Entry → Entry → Bool
is_same e f = e.lane == f.lane && same_address e.span.first f.span.first && same_address e.span.last f.span.last

-- no address has its first number
abbrev pub is_wild : Entry → Bool
is_wild e = nat_le (2 ^ 128) e.span.first.value

-- ---- lists of entries

-- those in front of the index begin before the place, and no others
abbrev pub BeginBefore : ℕ → List Entry → ℕ → Type 0
BeginBefore place es i = IsPartitionPoint (λ e. low e < place) (λ e. place ≤ low e) es i

-- those in front of the index end before the place, and no others
abbrev pub EndBefore : ℕ → List Entry → ℕ → Type 0
EndBefore place es i = IsPartitionPoint (λ e. high e < place) (λ e. place ≤ high e) es i

-- the spans of a lane
abbrev pub lane_spans : ℕ → List Entry → List Span
lane_spans lane entries = map (λ e. e.span) (filter (is_in_lane lane) entries)

-- each begins after the end of the one before it, and not after its own
abbrev pub AreSeparate : ℕ → List Entry → Type 0
AreSeparate from [] = Unit {0}
AreSeparate from (e ∷ es) = (from ≤ low e) × (low e ≤ high e) × AreSeparate (high e + 1) es

-- the entry leaves them separate if it is put in at an index
pub record FitsAt (entries : List Entry) (at : ℕ) (entry : Entry) : Type 0 where
  pub order : low entry ≤ high entry
  pub before : (d : Entry) (i : ℕ) → i + 1 ≡ at → high (slice_index_or entries i d) < low entry
  pub behind : (d : Entry) → at < length entries → high entry < low (slice_index_or entries at d)

-- ---- entries, and the rows

-- 1 if it is so
abbrev pub one : Bool → ℕ
one t = cond t 1 0

-- the range is meant, and its entry passes
abbrev pub passes : SpanKind → (Entry → Bool) → IpRange → Bool
passes which p row = is_meant which row && p (entry_of row)

-- the entries of just the ranges that are meant: each test passes as many of the one as of the other
abbrev pub IsTrackOf : SpanKind → List IpRange → List Entry → Type 0
IsTrackOf which rows entries = (p : Entry → Bool) → count_by p entries ≡ count_by (passes which p) rows

-- 1 if there is a row, and it passes
abbrev pub one_of : (IpRange → Bool) → Option IpRange → ℕ
one_of t None = 0
one_of t (Some row) = one (t row)

-- if the row is put, no track changes: one of its id exists, and the two pass the same tests
abbrev pub IsKept : List IpRange → IpRange → Type 0
IsKept rows row = (which : SpanKind) (p : Entry → Bool) → one_of (passes which p) (row_at range_id rows row.id) ≡ one (passes which p row)
