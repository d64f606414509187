use Rattle.stored_tables.specs.declared.tables.Tables.{Tables}
use Rattle.stored_tables.proofs.Migrating.{order_stays}
use Rattle.stored_tables.proofs.migration.migrate.Goals as goal

pub returns-clause-order : goal.returns-clause-order
returns-clause-order c =
    let next = c.in_ok-copy.ensures in
    let rows = c.in_ok-migrate_rows.ensures in
    let made : Tables = record { version = 2; next = c.in_ok-copy.field-0; rows = c.in_ok-migrate_rows.field-0 } in
    order_stays c.args.populated c.args.tables.now made cc
