use Rattle.std.proofs.Common.{sym, subst}
use Rattle.prefix_list.specs.Lists.{AreOf}
use Rattle.list_trial.proofs.prefix_list_tests.beyond_text.Goals as goal

pub uncovered-requires : goal.uncovered-requires
uncovered-requires c = (
  c.args.family,
  subst (AreOf c.args.family) (sym c.deref.ensures.value) c.in_ok-have.ensures,
  subst (AreOf c.args.family) (sym c.deref-2.ensures.value) c.in_ok-by.ensures,
)
