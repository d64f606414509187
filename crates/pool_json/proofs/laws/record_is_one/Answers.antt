use Rattle.pool_json.proofs.Recording.{record_is_one}
use Rattle.pool_json.proofs.laws.record_is_one.Goals as goal

pub returns : goal.returns
returns c = record_is_one
