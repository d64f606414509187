use Rattle.std.proofs.Common.{◌≡◌, ◌++◌, take}
use Rattle.kind_keeper.proofs.shelves.copy_onto.Given as goal

abbrev pub invariant-loop-row : goal.invariant-loop-row
invariant-loop-row l = l.items.items ≡ l.fn.items.items ++ take l.row-index l.rows
