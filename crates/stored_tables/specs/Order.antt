-- What any stored tables keep, and the tables without rows.
use Rattle.std.specs.Prelude.{[]}
use Rattle.stored_tables.specs.declared.tables.Tables.{Tables}
use Rattle.ipam_data.specs.RowList.{Rises}
use Rattle.stored_tables.specs.Stored.{kinds, next_ids, row_place, next_place, stored_version}

-- rows are in the order of kind and id and next ids in the order of kind, none twice
pub record AreTables (tables : Tables) : Type 0 where
  pub rows : Rises row_place 0 tables.rows
  pub next : Rises next_place 0 tables.next

-- the version of the register's tables, no rows, and each next id is 1
abbrev pub empty_tables : Tables
empty_tables = record { version = stored_version; next = next_ids (λ kind. 1) kinds; rows = [] }
