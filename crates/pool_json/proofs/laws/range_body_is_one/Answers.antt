use Rattle.pool_json.proofs.Unique.{range_body_is_one}
use Rattle.pool_json.proofs.laws.range_body_is_one.Goals as goal

pub returns : goal.returns
returns c = range_body_is_one
