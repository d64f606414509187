use Rattle.pool_json.proofs.Unique.{name_test}
use Rattle.pool_json.proofs.members.is_name.Goals as goal

pub returns : goal.returns
returns c = name_test c.args.text.now c.has.result c.has.ensures
