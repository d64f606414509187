use Rattle.std.specs.Vec.Iter.{into_iter_items, into_iter_len}
use Rattle.register_tables.specs.Held.{state_of}
use Rattle.register_tables.proofs.Putting.{IsPutting}
use Rattle.register_tables.proofs.RowTables.put_all.Given as goal

abbrev pub invariant-loop-view : goal.invariant-loop-view
invariant-loop-view l = IsPutting (state_of l.fn.self) l.fn.views.items l.self (into_iter_items l.rest)

abbrev pub decreases-loop-view : goal.decreases-loop-view
decreases-loop-view l = into_iter_len l.rest
