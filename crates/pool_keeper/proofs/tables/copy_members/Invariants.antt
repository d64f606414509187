use Rattle.std.proofs.Common.{◌≡◌, take}
use Rattle.pool_keeper.proofs.tables.copy_members.Given as goal

abbrev pub invariant-loop-row : goal.invariant-loop-row
invariant-loop-row l = l.items.items ≡ take l.row-index l.rows
