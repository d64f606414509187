use Rattle.inet_num.proofs.Available.{available_are_those}
use Rattle.inet_num.proofs.plain.available_blocks_are_those.Goals as goal

pub returns : goal.returns
returns c = available_are_those
