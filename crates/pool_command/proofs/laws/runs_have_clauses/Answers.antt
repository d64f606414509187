use Rattle.pool_command.proofs.RunLaws.{runs_have_clauses}
use Rattle.pool_command.proofs.laws.runs_have_clauses.Goals as goal

pub returns : goal.returns
returns c = runs_have_clauses
