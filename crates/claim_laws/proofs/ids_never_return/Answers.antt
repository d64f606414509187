use Rattle.claim_laws.proofs.Histories.{ids_never_return}
use Rattle.claim_laws.proofs.ids_never_return.Goals as goal

pub returns : goal.returns
returns c = ids_never_return
