use Rattle.std.proofs.Common.{◌≡◌}
use Rattle.ground_trial.proofs.span_set_tests.agrees.Given as goal

abbrev pub invariant-words : goal.invariant-words
invariant-words l = l.set.family ≡ l.within.family
