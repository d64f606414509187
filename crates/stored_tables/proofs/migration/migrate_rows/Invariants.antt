use Rattle.std.proofs.Common.{◌≡◌, map, take}
use Rattle.stored_tables.specs.Migration.{migrated_row}
use Rattle.stored_tables.proofs.migration.migrate_rows.Given as goal

abbrev pub invariant-loop-row : goal.invariant-loop-row
invariant-loop-row l = l.items.items ≡ map (migrated_row l.populated) (take l.row-index l.rows)
