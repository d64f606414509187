-- The ids of the rows at a place: in a table, with a block. The least of them is kept under the place.
use Rattle.std.specs.Prelude.{◌≡◌, ℕ, ◌==◌, ◌&&◌, nat_lt, Bool, true, false, List, [], ◌∷◌, Option, Some, None, map, filter, cond, if◌then◌else◌}
use Rattle.std.specs.HashMap.{HashMap, get, spare}
use Rattle.inet_num.specs.Net.{Cidr, width_of}
use Rattle.ipam_data.specs.declared.kinds.Table.{Table}
use Rattle.ipam_data.specs.Tables.{table_of, same_table}
use Rattle.inet_num.specs.Blocks.{same_block}
use Rattle.ipam_data.specs.RowList.{least}
use Rattle.placed_book.specs.declared.firsts.Spot.{Spot}
use Rattle.placed_book.specs.Book.{Placed, placed_id, TableBlocks, AreInOrder, AreAll}
use Rattle.placed_book.specs.Keys.{number_of}

-- the row is in the table, and has the block
abbrev pub is_at : Table → Cidr → Placed → Bool
is_at table block row = same_table (table_of row.vrf) table && same_block row.block block

-- the ids of the rows there, in their order
abbrev pub ids_at : List Placed → Table → Cidr → List ℕ
ids_at rows table block = map placed_id (filter (is_at table block) rows)

-- the id, if it is one of them
abbrev pub one_if : Bool → ℕ → List ℕ
one_if true id = id ∷ []
one_if false id = []

-- the least of them
abbrev pub first_at : List Placed → Table → Cidr → Option ℕ
first_at rows table block = least placed_id (is_at table block) rows

-- a table and a block as a key
abbrev pub spot_of : Table → Cidr → Spot
spot_of table block = record { first = block.first; table = number_of table; width = width_of block.family; len = block.len }

abbrev pub same_spot : Spot → Spot → Bool
same_spot a b = a.first == b.first && (a.table == b.table && (a.width == b.width && a.len == b.len))

-- the map has the least id of the rows at each place, and nothing if there is no row
abbrev pub HasFirsts : {S : Type 0} → List Placed → HashMap Spot ℕ S → Type 0
HasFirsts rows m = (table : Table) (block : Cidr) → get same_spot m (spot_of table block) ≡ first_at rows table block

-- the tables, the blocks of all and the least ids are those of just these rows
pub record ArePlaces {S : Type 0} (rows : List Placed) (spaces : List TableBlocks) (spaces_of_all : TableBlocks) (ids : HashMap Spot ℕ S) : Type 0 where
  pub tables : AreInOrder rows spaces
  pub all : AreAll rows spaces_of_all
  pub firsts : HasFirsts rows ids

-- the map has this at one key, and at every other one what it had
abbrev pub IsSetAt : {S : Type 0} → Spot → Option ℕ → HashMap Spot ℕ S → HashMap Spot ℕ S → Type 0
IsSetAt spot id old new = (q : Spot) → get same_spot new q ≡ cond (same_spot spot q) id (get same_spot old q)

-- the lesser of an id and another one, if there is one
abbrev pub lesser : ℕ → Option ℕ → ℕ
lesser id None = id
lesser id (Some other) = if nat_lt other id then other else id

-- how many more keys the map can take without memory
abbrev pub room_of : {S : Type 0} → HashMap Spot ℕ S → ℕ
room_of m = spare m
