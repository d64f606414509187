use Rattle.claim_laws.proofs.NewIds.{ids_are_new}
use Rattle.claim_laws.proofs.ids_are_new.Goals as goal

pub returns : goal.returns
returns c = ids_are_new
