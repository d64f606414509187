-- A book of rows that have a place: each row is in a table and has a block there. The book has its rows, for each table the blocks
-- of its rows, one list a family, and the blocks of all rows. What contracts see of it, and what it means that it is in order.
use Rattle.std.specs.Prelude.{◌≡◌, ℕ, ◌&&◌, Bool, true, List, [], ◌∷◌, Option, Some, None, is_some, Contains, IsPermutation, map, filter, find}
use Rattle.inet_num.specs.declared.Family.{Family}
use Rattle.inet_num.specs.declared.Family.TheVariants.{V4, V6}
use Rattle.inet_num.specs.Net.{Cidr}
use Rattle.ipam_data.specs.declared.kinds.Table.{Table}
use Rattle.ipam_data.specs.declared.kinds.Table.TheVariants.{Global}
use Rattle.ipam_data.specs.Tables.{table_of, same_table}
use Rattle.inet_num.specs.Blocks.{same_family}

-- an existing table: how many more rows of either family it can take without memory, and its blocks of each family
pub record TableBlocks : Type 0 where
  pub table : Table
  pub spare : ℕ
  pub v4 : List Cidr
  pub v6 : List Cidr

-- where a row is: its id, the VRF that it names, if any, and its block
pub record Placed : Type 0 where
  pub id : ℕ
  pub vrf : Option ℕ
  pub block : Cidr

abbrev pub placed_id : Placed → ℕ
placed_id row = row.id

-- the rows in the order of their ids, how many more can be put without memory, the existing tables, and the blocks of all
-- of them together
pub record TabledRows (T : Type 0) : Type 0 where
  pub rows : List T
  pub spare : ℕ
  pub tables : List TableBlocks
  pub all : TableBlocks

-- a table without blocks and without room
abbrev pub empty_table : Table → TableBlocks
empty_table table = record { table = table; spare = 0; v4 = []; v6 = [] }

-- a book without rows and without room; the global table exists from the start
abbrev pub empty_book : {T : Type 0} → TabledRows T
empty_book = record { rows = []; spare = 0; tables = empty_table Global ∷ []; all = empty_table Global }

-- ---- what is asked of the tables

-- the table, if it exists
abbrev pub table_at : List TableBlocks → Table → Option TableBlocks
table_at tables table = find (λ t. same_table t.table table) tables

abbrev pub is_there : List TableBlocks → Table → Bool
is_there tables table = is_some (table_at tables table)

-- how many more rows of either family a table can take without memory; none if it does not exist
abbrev pub spare_in : Option TableBlocks → ℕ
spare_in None = 0
spare_in (Some t) = t.spare

abbrev pub spare_of : List TableBlocks → Table → ℕ
spare_of tables table = spare_in (table_at tables table)

-- the blocks of one family that a table has; none if it does not exist
abbrev pub blocks_of_family : TableBlocks → Family → List Cidr
blocks_of_family t V4 = t.v4
blocks_of_family t V6 = t.v6

abbrev pub blocks_in : Option TableBlocks → Family → List Cidr
blocks_in None family = []
blocks_in (Some t) family = blocks_of_family t family

abbrev pub blocks_at : List TableBlocks → Table → Family → List Cidr
blocks_at tables table family = blocks_in (table_at tables table) family

-- ---- a book in order

-- the row is in the table, and its block is of the family
abbrev pub is_of : Table → Family → Placed → Bool
is_of table family row = same_table (table_of row.vrf) table && same_family row.block.family family

-- the blocks of a table's rows of one family
abbrev pub blocks_of_rows : List Placed → Table → Family → List Cidr
blocks_of_rows rows table family = map (λ row. row.block) (filter (is_of table family) rows)

-- the tables are in order with some rows: each that a row names exists, and each has the blocks of its rows, in any order
pub record AreInOrder (rows : List Placed) (tables : List TableBlocks) : Type 0 where
  pub named : (row : Placed) → Contains rows row → is_there tables (table_of row.vrf) ≡ true
  pub blocks : (table : Table) (family : Family) → IsPermutation (blocks_of_rows rows table family) (blocks_at tables table family)

-- the blocks of the rows of one family, of whatever table
abbrev pub blocks_of_all : List Placed → Family → List Cidr
blocks_of_all rows family = map (λ row. row.block) (filter (λ row. same_family row.block.family family) rows)

-- these are the blocks of all the rows, in any order
abbrev pub AreAll : List Placed → TableBlocks → Type 0
AreAll rows all = (family : Family) → IsPermutation (blocks_of_all rows family) (blocks_of_family all family)

-- a book is in order if its tables are with the places of its rows, and the blocks of all are those of its rows
pub record IsInOrder {T : Type 0} (placed : T → Placed) (book : TabledRows T) : Type 0 where
  pub tables : AreInOrder (map placed book.rows) book.tables
  pub all : AreAll (map placed book.rows) book.all
