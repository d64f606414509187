-- Where the blocks of rows are looked for, and in which tables.
use Rattle.std.specs.Prelude.{◌&&◌, Bool, true, List}
use Rattle.std.specs.List.{list_any}
use Rattle.inet_num.specs.Net.{Cidr}
use Rattle.inet_num.specs.Blocks.{same_block, is_block_inside}
use Rattle.ipam_data.specs.declared.kinds.Table.{Table}
use Rattle.ipam_data.specs.Tables.{table_of, same_table}
use Rattle.placed_book.specs.Book.{Placed}
use Rattle.place_search.specs.declared.Area.{Area}
use Rattle.place_search.specs.declared.Area.TheVariants.{At, Inside, Around, Anywhere}

-- the block is in the area
abbrev pub in_area : Area → Cidr → Bool
in_area (At block) b = same_block b block
in_area (Inside within) b = is_block_inside b within
in_area (Around block) b = is_block_inside block b
in_area Anywhere b = true

-- the row is in the table, and its block in the area
abbrev pub is_in_table : Table → Area → Placed → Bool
is_in_table table area row = same_table (table_of row.vrf) table && in_area area row.block

-- it is so in one of the tables
abbrev pub is_looked_for : List Table → Area → Placed → Bool
is_looked_for tables area row = list_any (λ table. is_in_table table area row) tables
