-- The names of a prefix's addresses: the lines that a state has for a prefix, or why it has none, and how they are made.
use Rattle.std.specs.Prelude.{◌≡◌, ℕ, Bool, true, not, ◌&&◌, IsTrue, Option, Some, None, option_map, unwrap_or, Result, Ok, Err, List, [], ◌∷◌, All, filter, find, flat_map, map, slice_get, slice_index_or, if◌then◌else◌}
use Rattle.std.specs.declared.cmp.Ordering.{Ordering}
use Rattle.std.specs.Ordering.{ordering_then, nat_cmp}
use Rattle.ipam_data.specs.declared.prefix.Prefix.{Prefix}
use Rattle.ipam_data.specs.declared.address.IpAddress.{IpAddress}
use Rattle.ipam_data.specs.Rows.{prefix_id, address_id}
use Rattle.ipam_data.specs.RowList.{row_at, least}
use Rattle.ipam_data.specs.State.{State}
use Rattle.reverse_zone.specs.Names.{fits_dns}
use Rattle.reverse_zone.specs.Zones.{row_name_of, is_zone_row, AreZoneRows, row_line_of, zone_text_of}
use Rattle.command_streams.specs.Streams.{Told, Gains, GainsFront, Failed}
use Rattle.command_zones.specs.declared.zone.Place.{Place}
use Rattle.command_zones.specs.declared.zone.ZoneRefusal.{ZoneRefusal}
use Rattle.command_zones.specs.declared.zone.ZoneRefusal.TheVariants.{Absent, Unfit}
use Rattle.command_zones.specs.declared.zone.ZoneStop.{ZoneStop}
use Rattle.command_zones.specs.declared.zone.ZoneStop.TheVariants.{Refused, Unwritten, Memory}

-- ---- what a state has for a prefix

-- the name that the DNS has for the row; of a row that has none it is empty
abbrev pub name_of : IpAddress → List ℕ
name_of row = unwrap_or (row_name_of row) []

-- the row is one of the prefix's zone, and its name does not fit the DNS
abbrev pub is_unfit : Prefix → IpAddress → Bool
is_unfit prefix row = is_zone_row prefix row && not (fits_dns (name_of row))

-- the least id of a row of the prefix's zone whose name does not fit
abbrev pub unfit_id : State → Prefix → Option ℕ
unfit_id s prefix = least address_id (is_unfit prefix) s.addresses.rows

-- the prefix of this id exists, all names in its zone fit, and the text has a line for each row of the zone, in order, and no other
pub record IsTextOf (s : State) (id : ℕ) (text : List ℕ) : Type 0 where
  pub prefix : Prefix
  pub rows : List IpAddress
  pub found : row_at prefix_id s.prefixes.rows id ≡ Some prefix
  pub fit : unfit_id s prefix ≡ None
  pub zone : AreZoneRows s prefix rows
  pub text_is : text ≡ zone_text_of rows

-- why a state has no text for the prefix of this id: the prefix is not there, or a name does not fit
abbrev pub IsZoneRefusal : State → ℕ → ZoneRefusal → Type 0
IsZoneRefusal s id (Absent n) = (n ≡ id) × (row_at prefix_id s.prefixes.rows id ≡ None)
IsZoneRefusal s id (Unfit n) = (prefix : Prefix) × (row_at prefix_id s.prefixes.rows id ≡ Some prefix) × (unfit_id s prefix ≡ Some n)

-- ---- how the rows are found

-- the place of the row at an index
abbrev pub place_of : ℕ → IpAddress → Place
place_of index row = record { address = row.host.addr.value; id = row.id; index = index }

abbrev pub places_at : Prefix → ℕ → IpAddress → List Place
places_at prefix index row = if is_zone_row prefix row then place_of index row ∷ [] else []

-- places are compared by the address, and those of one address by the id
abbrev pub key_of : Place → ℕ × ℕ
key_of place = (place.address, place.id)

abbrev pub key_cmp : ℕ × ℕ → ℕ × ℕ → Ordering
key_cmp x y = ordering_then (nat_cmp x.0 y.0) (nat_cmp x.1 y.1)

-- the place is that of one of these rows, whose name fits
pub record IsPlaceIn (rows : List IpAddress) (place : Place) : Type 0 where
  pub row : IpAddress
  pub found : slice_get rows place.index ≡ Some row
  pub address_is : place.address ≡ row.host.addr.value
  pub id_is : place.id ≡ row.id
  pub fits : IsTrue (fits_dns (name_of row))

-- of some of all rows, these are the places of those in the prefix's zone, in their order, and all names in it fit
pub record ArePlaces (rows : List IpAddress) (prefix : Prefix) (some : List IpAddress) (places : List Place) : Type 0 where
  pub named : (d : IpAddress) → map (λ (place : Place). slice_index_or rows place.index d) places ≡ filter (is_zone_row prefix) some
  pub there : All (IsPlaceIn rows) places
  pub fit : find (is_unfit prefix) some ≡ None

-- the line of the row at an index
abbrev pub line_at : List IpAddress → ℕ → List ℕ
line_at rows index = unwrap_or (option_map row_line_of (slice_get rows index)) []

-- the lines of the rows at these places
abbrev pub lines_at : List IpAddress → List Place → List ℕ
lines_at rows places = flat_map (λ (place : Place). line_at rows place.index) places

-- the places of the rows of a prefix's zone, in order: their lines are the text
pub record IsZone (s : State) (id : ℕ) (places : List Place) : Type 0 where
  pub text : IsTextOf s id (lines_at s.addresses.rows places)
  pub there : All (IsPlaceIn s.addresses.rows) places

-- ---- why there are none

-- why the place of a row was not added
abbrev pub IsRowStop : Prefix → IpAddress → ZoneStop → Type 0
IsRowStop prefix row (Refused (Absent n)) = ⊥
IsRowStop prefix row (Refused (Unfit n)) = (n ≡ row.id) × (is_unfit prefix row ≡ true)
IsRowStop prefix row Unwritten = ⊥
IsRowStop prefix row Memory = Unit {0}

-- why the places of the rows of a prefix's zone were not found
abbrev pub IsRowsStop : Prefix → List IpAddress → ZoneStop → Type 0
IsRowsStop prefix rows (Refused (Absent n)) = ⊥
IsRowsStop prefix rows (Refused (Unfit n)) = least address_id (is_unfit prefix) rows ≡ Some n
IsRowsStop prefix rows Unwritten = ⊥
IsRowsStop prefix rows Memory = Unit {0}

abbrev pub IsZoneStop : State → ℕ → ZoneStop → Type 0
IsZoneStop s id (Refused refusal) = IsZoneRefusal s id refusal
IsZoneStop s id Unwritten = ⊥
IsZoneStop s id Memory = Unit {0}

-- what the output gained if the lines were printed, or why they were not: only a failure of the output leaves a prefix of them
abbrev pub IsZoneEnd : State → ℕ → Told → Told → Result (Unit {0}) ZoneStop → Type 0
IsZoneEnd s id old new (Ok _) = (text : List ℕ) × IsTextOf s id text × Gains old new text
IsZoneEnd s id old new (Err (Refused refusal)) = IsZoneRefusal s id refusal × (new ≡ old)
IsZoneEnd s id old new (Err Unwritten) = (text : List ℕ) × IsTextOf s id text × Failed old new × GainsFront old new text
IsZoneEnd s id old new (Err Memory) = new ≡ old
