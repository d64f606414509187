use Rattle.std.proofs.Common.{◌≡◌, fold, take}
use Rattle.ipam_data.specs.Updates.{without_row}
use Rattle.register_tables.specs.Held.{state_of}
use Rattle.register_tables.proofs.RowTables.cut_all.Given as goal

abbrev pub invariant-loop-cut : goal.invariant-loop-cut
invariant-loop-cut l = state_of l.self ≡ fold without_row (state_of l.initial.self) (take l.cut-index l.cuts)
