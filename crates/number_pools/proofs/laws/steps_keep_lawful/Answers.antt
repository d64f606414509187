use Rattle.number_pools.proofs.StepLaws.{steps_keep}
use Rattle.number_pools.proofs.laws.steps_keep_lawful.Goals as goal

pub returns : goal.returns
returns c = steps_keep
