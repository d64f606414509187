use Rattle.rest_query.proofs.Unique.{limit_is_one}
use Rattle.rest_query.proofs.laws.limit_is_one.Goals as goal

pub returns : goal.returns
returns c = limit_is_one
