use Rattle.inet_num.proofs.Fewest as Fewest
use Rattle.inet_num.proofs.plain.largest_are_fewest.Goals as goal

pub returns : goal.returns
returns c = Fewest.largest_are_fewest
