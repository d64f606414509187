use Rattle.std.proofs.Common.{ℕ, List, [], map, take}
use Rattle.register_plans.specs.RecordsLeft.{IsLeft}
use Rattle.register_tables.specs.Held.{state_of}
use Rattle.register_plans.specs.ReadyRows.{key_of_row}
use Rattle.register_plans.proofs.imports.keys.count_kind.Given as goal

abbrev pub invariant-records : goal.invariant-records
invariant-records g l = (keys : List (List ℕ)) → IsLeft l.fn.left keys [] [] → IsLeft l.left keys (map (key_of_row g.T.Listed.rules) (take l.index (g.T.Listed.rules.row_list (state_of l.row_tables)).rows)) []
