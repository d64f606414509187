use Rattle.pool_opening.proofs.Accepted.{lawful_faultless}
use Rattle.pool_opening.proofs.laws.lawful_have_no_fault.Goals as goal

pub returns : goal.returns
returns c = lawful_faultless
