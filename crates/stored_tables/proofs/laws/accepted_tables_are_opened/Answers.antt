use Rattle.stored_tables.proofs.OpenLaws.{accepted_are_opened}
use Rattle.stored_tables.proofs.laws.accepted_tables_are_opened.Goals as goal

pub returns : goal.returns
returns c = accepted_are_opened
