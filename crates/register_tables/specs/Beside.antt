-- The blocks among which a prefix is looked at: those of one table, or of all.
use Rattle.std.specs.Prelude.{List, map}
use Rattle.inet_num.specs.declared.Family.{Family}
use Rattle.inet_num.specs.Net.{Cidr}
use Rattle.ipam_data.specs.declared.kinds.Table.{Table}
use Rattle.ipam_data.specs.declared.prefix.Prefix.{Prefix}
use Rattle.placed_book.specs.Book.{blocks_of_rows, blocks_of_all}
use Rattle.placed_book.specs.Kinds.{placed_prefix}

-- the blocks of a table's prefixes of one family
abbrev pub blocks_in_table : List Prefix → Table → Family → List Cidr
blocks_in_table rows table family = blocks_of_rows (map placed_prefix rows) table family

-- the blocks of all prefixes of one family
abbrev pub blocks_in_all : List Prefix → Family → List Cidr
blocks_in_all rows family = blocks_of_all (map placed_prefix rows) family
