use Rattle.stored_tables.proofs.StoredLaws.{told}
use Rattle.stored_tables.proofs.laws.changes_are_told.Goals as goal

pub returns : goal.returns
returns c = told
