use Rattle.std.proofs.Common.{reverse, vec_len}
use Rattle.register_tables.specs.Held.{state_of}
use Rattle.register_core.proofs.Loading.{IsFilling}
use Rattle.register_core.proofs.passes.fill.Given as goal

abbrev pub invariant-loop-view : goal.invariant-loop-view
invariant-loop-view l = IsFilling (state_of l.fn.row_tables) l.fn.views.items l.row_tables (reverse l.rest.items)

abbrev pub decreases-loop-view : goal.decreases-loop-view
decreases-loop-view l = vec_len l.rest
