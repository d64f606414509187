use Rattle.std.proofs.Common.{◌≡◌, ◌-◌, fold}
use Rattle.ipam_data.specs.Updates.{without_row}
use Rattle.register_tables.specs.Held.{state_of}
use Rattle.register_plans.specs.UndoneRecords.{ids_down}
use Rattle.register_plans.proofs.imports.undo.take_back.Given as goal

abbrev pub invariant-ids : goal.invariant-ids
invariant-ids l = fold without_row (state_of l.row_tables) (ids_down l.kind l.first (l.made - l.k)) ≡ fold without_row (state_of l.fn.row_tables) (ids_down l.kind l.first l.made)
