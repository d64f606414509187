use Rattle.ipam_command.proofs.ExactLaws.{runs_are_exact}
use Rattle.ipam_command.proofs.exact.runs_are_exact.Goals as goal

pub returns : goal.returns
returns c = runs_are_exact
