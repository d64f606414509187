-- How many blocks of a row's table lie around its block, and inside it.
use Rattle.std.specs.Prelude.{ℕ, List, filter, count_by}
use Rattle.ipam_data.specs.Tables.{table_of}
use Rattle.inet_num.specs.Blocks.{is_strictly_inside, distinct}
use Rattle.placed_book.specs.Book.{Placed, blocks_of_rows}

-- how many different blocks of the row's table contain its block strictly
abbrev pub around : List Placed → Placed → ℕ
around rows row = distinct (filter (λ b. is_strictly_inside row.block b) (blocks_of_rows rows (table_of row.vrf) row.block.family))

-- how many rows of the row's table lie strictly inside its block
abbrev pub inside : List Placed → Placed → ℕ
inside rows row = count_by (λ b. is_strictly_inside b row.block) (blocks_of_rows rows (table_of row.vrf) row.block.family)
