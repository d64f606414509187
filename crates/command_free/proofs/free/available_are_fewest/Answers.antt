use Rattle.command_free.proofs.Fewest.{available_are_fewest}
use Rattle.command_free.proofs.free.available_are_fewest.Goals as goal

pub returns : goal.returns
returns c = available_are_fewest
