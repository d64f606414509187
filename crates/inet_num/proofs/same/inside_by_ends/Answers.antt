use Rattle.inet_num.proofs.Insides.{inside_is_by_ends}
use Rattle.inet_num.proofs.same.inside_by_ends.Goals as goal

pub returns : goal.returns
returns c = inside_is_by_ends
