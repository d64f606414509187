use Rattle.command_zones.proofs.Exact.{reverse_is_exact}
use Rattle.command_zones.proofs.laws.reverse_is_exact.Goals as goal

pub returns : goal.returns
returns c = reverse_is_exact
