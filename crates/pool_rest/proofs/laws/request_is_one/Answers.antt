use Rattle.pool_rest.proofs.Unique.{request_is_one}
use Rattle.pool_rest.proofs.laws.request_is_one.Goals as goal

pub returns : goal.returns
returns c = request_is_one
