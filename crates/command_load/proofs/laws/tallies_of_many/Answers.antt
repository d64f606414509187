use Rattle.command_load.proofs.Tallies.{nobody, both, all}
use Rattle.command_load.proofs.laws.tallies_of_many.Goals as goal

pub returns : goal.returns
returns c = record { nobody = nobody; both = both; all = all }
