use Rattle.stored_tables.proofs.Migrating.{migrated_stand}
use Rattle.stored_tables.proofs.laws.migrated_tables_stand.Goals as goal

pub returns : goal.returns
returns c = migrated_stand
