-- The rows that are where another is: in its table, with its block.
use Rattle.std.specs.Prelude.{ℕ, ◌==◌, ◌&&◌, Bool, false, not, List, Option, Some, None, option_map, if◌then◌else◌}
use Rattle.ipam_data.specs.declared.kinds.Table.{Table}
use Rattle.ipam_data.specs.Tables.{table_of, same_table}
use Rattle.inet_num.specs.Blocks.{same_block}
use Rattle.ipam_data.specs.RowList.{row_at}
use Rattle.placed_book.specs.Book.{Placed}

-- the two rows are of one table
abbrev pub in_one_table : Placed → Placed → Bool
in_one_table row other = same_table (table_of other.vrf) (table_of row.vrf)

-- the other row is of the row's table and has its block, whatever its id
abbrev pub is_where : Placed → Placed → Bool
is_where row other = in_one_table row other && same_block other.block row.block

-- the row that is kept under the row's id, if any, is where the row is
abbrev pub stays : Placed → Option Placed → Bool
stays row None = false
stays row (Some kept) = is_where row kept

-- how often a row meets itself: once, if it stays
abbrev pub own_times : Placed → Option Placed → ℕ
own_times row kept = if stays row kept then 1 else 0

-- both rows are of the table, and they have one block
abbrev pub coincide_in : {T : Type 0} → (T → Placed) → Table → T → T → Bool
coincide_in placed table row other =
    same_table (table_of (placed row).vrf) table && same_table (table_of (placed other).vrf) table && same_block (placed other).block (placed row).block

module _ {T : Type 0} (id : T → ℕ) (placed : T → Placed) where
  -- the other row is another one, of the row's table and with its block
  abbrev pub is_rival : T → T → Bool
  is_rival row other = not (id other == id row) && in_one_table (placed row) (placed other) && same_block (placed other).block (placed row).block

  -- putting the row leaves the tables: the row of its id exists, in the row's table and with its block
  abbrev pub stays_among : List T → T → Bool
  stays_among rows row = stays (placed row) (option_map placed (row_at id rows (id row)))
