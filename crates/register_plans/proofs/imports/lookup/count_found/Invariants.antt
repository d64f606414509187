use Rattle.std.proofs.Common.{◌≡◌, ◌≤◌, take, count_by}
use Rattle.register_tables.specs.Held.{state_of}
use Rattle.register_plans.specs.KeptDrafts.{has_key}
use Rattle.register_plans.proofs.imports.lookup.count_found.Given as goal

abbrev pub invariant-ids : goal.invariant-ids
invariant-ids g l = record {
  counted : l.count ≡ count_by (has_key g.T.Listed.rules (g.T.Listed.rules.row_list (state_of l.row_tables)).rows l.key) (take l.id-index l.ids);
  few : l.count ≤ l.id-index;
}
