use Rattle.stored_tables.proofs.OpenOne.{opening_is_one}
use Rattle.stored_tables.proofs.laws.opening_is_one.Goals as goal

pub returns : goal.returns
returns c = opening_is_one
