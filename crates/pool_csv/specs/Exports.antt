-- The text of an export of pools: a header, and a line for each range or each member of a kind, in the order of their ids.
use Rattle.std.specs.Prelude.{ℕ, List, [], ◌∷◌, ◌++◌, Option, Some, None, codes, decimal, if◌then◌else◌}
use Rattle.std.specs.List.{flat_map}
use Rattle.csv.specs.Writing.{default_writer, row_text}
use Rattle.number_pools.specs.declared.rows.PoolKind.{PoolKind}
use Rattle.number_pools.specs.declared.rows.PoolKind.TheVariants.{Asn, Vlan}
use Rattle.number_pools.specs.declared.rows.NumberRange.{NumberRange}
use Rattle.number_pools.specs.declared.rows.Member.{Member}
use Rattle.number_pools.specs.Rows.{Pools}
use Rattle.number_pools.specs.Steps.{range_at, same_kind}

-- ---- ranges

abbrev pub range_header : List (List ℕ)
range_header = codes "name" ∷ codes "start" ∷ codes "end" ∷ []

abbrev pub range_fields : NumberRange → List (List ℕ)
range_fields r = r.name ∷ decimal r.first ∷ decimal r.last ∷ []

-- the line of a range of the kind; one of the other kind has none
abbrev pub range_line : PoolKind → NumberRange → List ℕ
range_line kind r = if same_kind r.kind kind then row_text default_writer (range_fields r) else []

abbrev pub ranges_text : PoolKind → List NumberRange → List ℕ
ranges_text kind ranges = row_text default_writer range_header ++ flat_map (range_line kind) ranges

-- ---- members

abbrev pub member_header : PoolKind → List (List ℕ)
member_header Asn = codes "range" ∷ codes "asn" ∷ codes "name" ∷ []
member_header Vlan = codes "group" ∷ codes "vid" ∷ codes "name" ∷ []

abbrev pub member_fields : NumberRange → Member → List (List ℕ)
member_fields r m = r.name ∷ decimal m.number ∷ m.name ∷ []

-- the line of a member of this range, if there is one
abbrev pub line_in : Option NumberRange → Member → List ℕ
line_in None m = []
line_in (Some r) m = row_text default_writer (member_fields r m)

-- the line of a member whose range is of the kind
abbrev pub member_line : PoolKind → List NumberRange → Member → List ℕ
member_line kind ranges m = line_in (range_at ranges kind m.range) m

abbrev pub members_text : PoolKind → Pools → List ℕ
members_text kind s = row_text default_writer (member_header kind) ++ flat_map (member_line kind s.ranges.rows) s.members.rows
