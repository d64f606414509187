use Rattle.std.proofs.Common.{sym, subst}
use Rattle.prefix_list.specs.Lists.{AreOf}
use Rattle.list_trial.proofs.prefix_list_tests.fewest_text.Goals as goal

pub fewest-requires : goal.fewest-requires
fewest-requires c = (c.args.family, subst (AreOf c.args.family) (sym c.deref.ensures.value) c.in_ok-blocks.ensures)
