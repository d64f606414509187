use Rattle.std.proofs.Common.{sym, subst}
use Rattle.prefix_list.specs.Lists.{AreOf}
use Rattle.list_trial.proofs.route_tests.routes_of.Goals as goal

pub route_entries-requires : goal.route_entries-requires
route_entries-requires c = (c.args.family, subst (AreOf c.args.family) (sym c.deref.ensures.value) c.in_ok-blocks.ensures)
