use Rattle.number_laws.proofs.Least.{claims_are_new}
use Rattle.number_laws.proofs.claims_are_new.Goals as goal

pub returns : goal.returns
returns c = claims_are_new
