use Rattle.ipam_command.proofs.RunLaws.{runs_have_clauses}
use Rattle.ipam_command.proofs.runs_have_clauses.Goals as goal

pub returns : goal.returns
returns c = runs_have_clauses
