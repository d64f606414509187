-- The PTR lines of a prefix: one for each address in it that has a name, by address and then by id.
use Rattle.std.specs.Prelude.{◌≡◌, ◌⊎◌, ◌&&◌, ℕ, ◌<◌, Bool, List, [], Option, length, is_some}
use Rattle.std.specs.Option.{unwrap_or}
use Rattle.std.specs.List.{filter, flat_map, AllAdjacentBelow}
use Rattle.std.specs.List.Sorted.{IsPermutation}
use Rattle.ipam_data.specs.declared.prefix.Prefix.{Prefix}
use Rattle.ipam_data.specs.declared.address.IpAddress.{IpAddress}
use Rattle.ipam_data.specs.State.{State}
use Rattle.ipam_data.specs.Claims.{is_child_address}
use Rattle.reverse_zone.specs.Names.{ptr_name_of}
use Rattle.reverse_zone.specs.Records.{line_of}

-- the name that the DNS has for the row
abbrev pub row_name_of : IpAddress → Option (List ℕ)
row_name_of row = ptr_name_of row.dns_name

-- the row is a child address of the prefix and has a name
abbrev pub is_zone_row : Prefix → IpAddress → Bool
is_zone_row prefix row = is_child_address prefix row && is_some (row_name_of row)

-- the one row is before the other: by address, and of one address by id
abbrev pub IsBefore : IpAddress → IpAddress → Type 0
IsBefore row other =
    (row.host.addr.value < other.host.addr.value) ⊎ ((row.host.addr.value ≡ other.host.addr.value) × (row.id < other.id))

-- the rows of a prefix's zone, in order
pub record AreZoneRows (s : State) (prefix : Prefix) (rows : List IpAddress) : Type 0 where
  pub those : IsPermutation rows (filter (is_zone_row prefix) s.addresses.rows)
  pub order : AllAdjacentBelow IsBefore rows (length rows)

-- the line of a row that has a name
abbrev pub row_line_of : IpAddress → List ℕ
row_line_of row = line_of row.host.addr (unwrap_or (row_name_of row) [])

-- the lines of a prefix are those of its zone's rows
abbrev pub zone_text_of : List IpAddress → List ℕ
zone_text_of rows = flat_map row_line_of rows

-- a state has one list of rows for the zone of a prefix, and so one text
abbrev pub ZoneHasOneOrder : Type 0
ZoneHasOneOrder = (s : State) (prefix : Prefix) (one other : List IpAddress) → AreZoneRows s prefix one → AreZoneRows s prefix other → one ≡ other
