use Rattle.number_laws.proofs.Recorded.{records_are_chosen}
use Rattle.number_laws.proofs.records_are_chosen.Goals as goal

pub returns : goal.returns
returns c = records_are_chosen
