-- The rows of a kind among which all are that a filter leaves, given by their ids; and if those are looked for that a filter
-- leaves which names a VRF or a block.
use Rattle.std.specs.Prelude.{◌≡◌, ℕ, ◌<◌, ◌^◌, ◌&&◌, Bool, true, List, [], ◌∷◌, Option, Some, None, Contains, length, map, filter_map}
use Rattle.std.specs.List.Sorted.{IsStrictlyIncreasing}
use Rattle.ipam_data.specs.declared.vrf.Vrf.{Vrf}
use Rattle.ipam_data.specs.declared.kinds.Table.{Table}
use Rattle.ipam_data.specs.declared.kinds.Table.TheVariants.{Global, Of}
use Rattle.ipam_data.specs.RowList.{row_at}
use Rattle.ipam_data.specs.Tables.{table_of, same_name}
use Rattle.ipam_data.specs.Checks.{asks}
use Rattle.placed_book.specs.Book.{Placed}
use Rattle.place_search.specs.declared.Area.{Area}
use Rattle.place_search.specs.Areas.{in_area}

-- rising ids, that of each row which passes among them; there are so few that they can be counted
pub record AreCandidates {T : Type 0} (id : T → ℕ) (test : T → Bool) (rows : List T) (ids : List ℕ) : Type 0 where
  pub rises : IsStrictlyIncreasing ids
  pub few : length ids < 2 ^ 30
  pub all : (row : T) → Contains rows row → test row ≡ true → Contains ids (id row)

-- the rows of these ids, those that exist
abbrev pub rows_of : {T : Type 0} → (T → ℕ) → List T → List ℕ → List T
rows_of id rows ids = filter_map (row_at id rows) ids

-- the table that a filter names, or else all: the global one and those of the VRFs
abbrev pub tables_asked : Option (Option ℕ) → List Vrf → List Table
tables_asked (Some named) vrfs = table_of named ∷ []
tables_asked None vrfs = Global ∷ map (λ vrf. Of vrf.id) vrfs

-- the row is of the VRF that a filter names, if any, and its block is in the area
abbrev pub is_asked : Option (Option ℕ) → Area → Placed → Bool
is_asked vrf area row = asks vrf (λ n. same_name row.vrf n) && in_area area row.block
