use Rattle.std.proofs.Common.{◌≡◌, ◌≤◌, take, map, count_by}
use Rattle.std.specs.Prelude.{bytes_eq}
use Rattle.register_tables.specs.Held.{state_of}
use Rattle.register_plans.specs.ReadyRows.{key_of_row}
use Rattle.register_plans.proofs.imports.lookup.count_everywhere.Given as goal

abbrev pub invariant-records : goal.invariant-records
invariant-records g l = record {
  counted : l.count ≡ count_by (bytes_eq l.key) (map (key_of_row g.T.Listed.rules) (take l.index (g.T.Listed.rules.row_list (state_of l.row_tables)).rows));
  few : l.count ≤ l.index;
}
