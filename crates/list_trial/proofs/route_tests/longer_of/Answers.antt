use Rattle.std.proofs.Common.{sym, subst}
use Rattle.prefix_list.specs.Lists.{AreOf}
use Rattle.list_trial.proofs.route_tests.longer_of.Goals as goal

pub outermost-requires : goal.outermost-requires
outermost-requires c = (c.args.family, subst (AreOf c.args.family) (sym c.deref.ensures.value) c.in_ok-blocks.ensures)
