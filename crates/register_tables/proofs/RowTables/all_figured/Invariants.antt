use Rattle.std.proofs.Common.{◌≡◌, map, take, drop, ◌++◌}
use Rattle.ipam_data.specs.Updates.{figured}
use Rattle.register_tables.specs.Held.{state_of}
use Rattle.register_tables.proofs.RowTables.all_figured.Given as goal

abbrev pub invariant-loop-view : goal.invariant-loop-view
invariant-loop-view l =
    l.view-items ≡ map (figured (state_of l.self)) (take l.view-index l.initial.view-items) ++ drop l.view-index l.initial.view-items
