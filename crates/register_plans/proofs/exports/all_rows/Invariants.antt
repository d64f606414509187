use Rattle.std.proofs.Common.{◌≡◌, map, take}
use Rattle.register_tables.specs.Held.{state_of}
use Rattle.register_plans.proofs.exports.all_rows.Given as goal

abbrev pub invariant-records : goal.invariant-records
invariant-records g l = l.rows.items ≡ map (g.T.Exported.as_line (state_of l.row_tables)) (take l.index (g.T.Listed.rules.row_list (state_of l.row_tables)).rows)
