use Rattle.std.proofs.Common.{◌≡◌, take}
use Rattle.kind_keeper.specs.Shelves.{all_rows}
use Rattle.kind_keeper.proofs.shelves.copy_rows.Given as goal

abbrev pub invariant-loop-shelf : goal.invariant-loop-shelf
invariant-loop-shelf l = l.items.items ≡ all_rows (take l.shelf-index l.shelves.items)
