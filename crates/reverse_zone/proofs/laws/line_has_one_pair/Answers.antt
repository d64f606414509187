use Rattle.reverse_zone.proofs.Readback.{line_has_one_pair}
use Rattle.reverse_zone.proofs.laws.line_has_one_pair.Goals as goal

pub returns : goal.returns
returns c = line_has_one_pair
