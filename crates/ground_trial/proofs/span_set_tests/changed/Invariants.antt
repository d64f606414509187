use Rattle.std.proofs.Common.{◌≡◌}
use Rattle.ground_trial.proofs.span_set_tests.changed.Given as goal

abbrev pub invariant-changes : goal.invariant-changes
invariant-changes l = l.set.family ≡ l.fn.family
