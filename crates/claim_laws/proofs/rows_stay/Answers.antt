use Rattle.claim_laws.proofs.Stays.{rows_stay}
use Rattle.claim_laws.proofs.rows_stay.Goals as goal

pub returns : goal.returns
returns c = rows_stay
