use Rattle.register_plans.proofs.LookedUp.{prefix_spelled, address_spelled}
use Rattle.register_plans.proofs.imports.keys.leftovers.Goals as goal

pub look_up-requires-clause-spelled : goal.look_up-requires-clause-spelled
look_up-requires-clause-spelled c = prefix_spelled

pub look_up-requires-in-Addresses-clause-spelled : goal.look_up-requires-in-Addresses-clause-spelled
look_up-requires-in-Addresses-clause-spelled c = address_spelled
