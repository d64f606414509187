-- The blocks that are looked at for a prefix.
use Rattle.std.specs.Prelude.{◌≡◌, List, Some, if◌then◌else◌}
use Rattle.inet_num.specs.Net.{Cidr}
use Rattle.ipam_data.specs.declared.prefix.Prefix.{Prefix}
use Rattle.ipam_data.specs.Tables.{table_of}
use Rattle.ipam_data.specs.Rows.{prefix_id}
use Rattle.ipam_data.specs.RowList.{row_at}
use Rattle.ipam_data.specs.Claims.{sees_all}
use Rattle.register_tables.specs.Beside.{blocks_in_table, blocks_in_all}

-- the prefix exists, under its id
abbrev pub IsThere : List Prefix → Prefix → Type 0
IsThere rows row = row_at prefix_id rows row.id ≡ Some row

-- the blocks of a prefix's own table and family
abbrev pub own_table_blocks : List Prefix → Prefix → List Cidr
own_table_blocks rows row = blocks_in_table rows (table_of row.vrf) row.block.family

-- the blocks among which what is free in a prefix is looked for: those of its table, or of all if all count
abbrev pub blocks_beside : List Prefix → Prefix → List Cidr
blocks_beside rows row = if sees_all row then blocks_in_all rows row.block.family else own_table_blocks rows row
