use Rattle.pool_json.proofs.Unique.{edit_is_one}
use Rattle.pool_json.proofs.laws.edit_is_one.Goals as goal

pub returns : goal.returns
returns c = edit_is_one
