use Rattle.std.proofs.Common.{take}
use Rattle.register_tables.specs.Held.{state_of}
use Rattle.snapshot_rows.proofs.Fitting.{AreAhead}
use Rattle.snapshot_rows.proofs.checks.all_fit.Given as goal

abbrev pub invariant-loop-view : goal.invariant-loop-view
invariant-loop-view l = AreAhead (state_of l.tables) (take l.view-index l.views) l.lasts
