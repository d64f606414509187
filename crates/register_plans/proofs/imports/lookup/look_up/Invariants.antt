use Rattle.std.proofs.Common.{[], take, map}
use Rattle.register_tables.specs.Held.{state_of}
use Rattle.register_plans.specs.RecordsLeft.{IsLeft}
use Rattle.register_plans.specs.ReadyRows.{keys_of, key_of_row}
use Rattle.register_plans.proofs.imports.lookup.look_up.Given as goal

abbrev pub invariant-loop-row : goal.invariant-loop-row
invariant-loop-row g l = IsLeft l.left (keys_of (take l.row-index l.rows)) (map (key_of_row g.T.Listed.rules) (g.T.Listed.rules.row_list (state_of l.row_tables)).rows) []
