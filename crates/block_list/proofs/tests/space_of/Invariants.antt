use Rattle.std.proofs.Common.{◌≡◌}
use Rattle.block_list.proofs.tests.space_of.Given as goal

abbrev pub invariant-each : goal.invariant-each
invariant-each l = l.space.family ≡ l.family
