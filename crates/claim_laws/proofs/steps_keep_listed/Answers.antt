use Rattle.claim_laws.proofs.Listed.{steps_keep_listed}
use Rattle.claim_laws.proofs.steps_keep_listed.Goals as goal

pub returns : goal.returns
returns c = steps_keep_listed
