use Rattle.register_plans.proofs.SpelledKeys.{exact}
use Rattle.register_plans.proofs.imports.laws.keys_are_exact.Goals as goal

pub returns : goal.returns
returns c = exact
