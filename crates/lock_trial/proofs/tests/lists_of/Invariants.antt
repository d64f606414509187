use Rattle.std.proofs.Common.{◌≤◌, length}
use Rattle.lock_trial.proofs.tests.lists_of.Given as goal

abbrev pub invariant-loop : goal.invariant-loop
invariant-loop l = length l.lists.items ≤ l.counter
