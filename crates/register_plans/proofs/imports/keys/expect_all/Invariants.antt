use Rattle.std.proofs.Common.{[], take}
use Rattle.register_plans.specs.RecordsLeft.{IsLeft}
use Rattle.register_plans.specs.ReadyRows.{keys_of}
use Rattle.register_plans.proofs.imports.keys.expect_all.Given as goal

abbrev pub invariant-loop-row : goal.invariant-loop-row
invariant-loop-row l = IsLeft l.left (keys_of (take l.row-index l.rows)) [] []
