use Rattle.std.proofs.Common.{take}
use Rattle.std.specs.List.{AllByRecursion}
use Rattle.ipam_data.specs.Imports.{HasRowBounds}
use Rattle.register_plans.proofs.imports.ready.bounds_of.Given as goal

abbrev pub invariant-loop-row : goal.invariant-loop-row
invariant-loop-row l = AllByRecursion HasRowBounds (take l.row-index l.rows)
