use Rattle.std.proofs.Common.{◌≡◌, take}
use Rattle.register_tables.specs.Held.{state_of}
use Rattle.register_plans.specs.ReadyRows.{ready_rows}
use Rattle.register_plans.proofs.imports.ready.ready_all.Given as goal

abbrev pub invariant-loop-row : goal.invariant-loop-row
invariant-loop-row l = l.all.items ≡ ready_rows (state_of l.row_tables) l.kind (take l.row-index l.rows)
