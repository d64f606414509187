use Rattle.pool_json.proofs.Unique.{claim_is_one}
use Rattle.pool_json.proofs.laws.claim_is_one.Goals as goal

pub returns : goal.returns
returns c = claim_is_one
