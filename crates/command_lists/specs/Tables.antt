-- The prefixes of a table: which table a name represents, whether it exists, and the blocks of its prefixes of a family.
use Rattle.std.specs.Prelude.{◌≡◌, ℕ, ◌&&◌, Bool, true, List, None, is_some, map, filter}
use Rattle.inet_num.specs.declared.Family.{Family}
use Rattle.inet_num.specs.Net.{Cidr}
use Rattle.inet_num.specs.Blocks.{same_family}
use Rattle.ipam_data.specs.declared.kinds.Table.{Table}
use Rattle.ipam_data.specs.declared.kinds.Table.TheVariants.{Global as GlobalTable, Of}
use Rattle.ipam_data.specs.declared.prefix.Prefix.{Prefix}
use Rattle.ipam_data.specs.declared.prefix.PrefixStatus.{PrefixStatus}
use Rattle.ipam_data.specs.declared.prefix.PrefixStatus.TheVariants as status
use Rattle.ipam_data.specs.RowList.{row_at}
use Rattle.ipam_data.specs.Rows.{vrf_id}
use Rattle.ipam_data.specs.State.{State}
use Rattle.ipam_data.specs.Tables.{table_of, same_table}
use Rattle.word_values.specs.declared.statuses.Statuses.{Statuses}
use Rattle.command_words.specs.declared.asked.TableName.{TableName}
use Rattle.command_words.specs.declared.asked.TableName.TheVariants.{Global, Vrf}

-- the table of this name
abbrev pub table_named : TableName → Table
table_named Global = GlobalTable
table_named (Vrf n) = Of n

-- the table exists: the global one always does, and that of a VRF if the VRF does, whether or not it has prefixes
abbrev pub is_there : State → TableName → Bool
is_there s Global = true
is_there s (Vrf n) = is_some (row_at vrf_id s.vrfs.rows n)

-- the table is that of the VRF of this id, which is not there
abbrev pub IsAbsentIn : State → TableName → ℕ → Type 0
IsAbsentIn s table n = (table ≡ Vrf n) × (row_at vrf_id s.vrfs.rows n ≡ None)

-- the status is one of those that count
abbrev pub is_counted : Statuses → PrefixStatus → Bool
is_counted counted status.Container = counted.container
is_counted counted status.Active = counted.active
is_counted counted status.Reserved = counted.reserved
is_counted counted status.Deprecated = counted.deprecated

-- the prefix is in the table, its block is of the family, and its status counts
abbrev pub is_listed : Table → Family → Statuses → Prefix → Bool
is_listed table family counted row = same_table (table_of row.vrf) table && same_family row.block.family family && is_counted counted row.status

-- the blocks of those of the prefixes, in their order
abbrev pub blocks_listed : Table → Family → Statuses → List Prefix → List Cidr
blocks_listed table family counted rows = map (λ (row : Prefix). row.block) (filter (is_listed table family counted) rows)

-- the blocks of the prefixes of a table and a family whose status counts, in the order of their ids
abbrev pub table_blocks : State → TableName → Family → Statuses → List Cidr
table_blocks s table family counted = blocks_listed (table_named table) family counted s.prefixes.rows
