use Rattle.pool_command.proofs.ExactLaws.{runs_are_exact}
use Rattle.pool_command.proofs.laws.runs_are_exact.Goals as goal

pub returns : goal.returns
returns c = runs_are_exact
