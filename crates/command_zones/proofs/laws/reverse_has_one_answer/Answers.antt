use Rattle.command_zones.proofs.Exact.{reverse_has_one_answer}
use Rattle.command_zones.proofs.laws.reverse_has_one_answer.Goals as goal

pub returns : goal.returns
returns c = reverse_has_one_answer
