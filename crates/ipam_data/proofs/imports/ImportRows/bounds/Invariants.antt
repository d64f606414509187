use Rattle.std.proofs.Common.{take}
use Rattle.std.specs.List.{AllByRecursion}
use Rattle.ipam_data.specs.Imports.{HasRowBounds}
use Rattle.ipam_data.proofs.imports.ImportRows.bounds.Given as goal

abbrev pub invariant-loop-item : goal.invariant-loop-item
invariant-loop-item l = AllByRecursion HasRowBounds (take l.item-index l.items)
