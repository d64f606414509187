use Rattle.number_pools.proofs.StepLaws.{empty}
use Rattle.number_pools.proofs.laws.empty_is_lawful.Goals as goal

pub returns : goal.returns
returns c = empty
