use Rattle.inet_num.proofs.Available.{available_only}
use Rattle.span_set.proofs.Available.{lists_available}
use Rattle.span_set.proofs.fewest_are_available.Goals as goal

pub returns : goal.returns
returns c = λ set within blocks bs lawful same rest lists. available_only within blocks bs lawful (lists_available set within blocks bs same rest lists)
