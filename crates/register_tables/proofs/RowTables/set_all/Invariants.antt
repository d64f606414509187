use Rattle.std.proofs.Common.{◌≡◌, fold, take}
use Rattle.ipam_data.specs.Updates.{with_next}
use Rattle.register_tables.specs.Held.{state_of}
use Rattle.register_tables.proofs.RowTables.set_all.Given as goal

abbrev pub invariant-loop-next : goal.invariant-loop-next
invariant-loop-next l = state_of l.self ≡ fold with_next (state_of l.initial.self) (take l.next-index l.nexts)
