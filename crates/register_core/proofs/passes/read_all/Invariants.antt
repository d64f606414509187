use Rattle.std.proofs.Common.{take}
use Rattle.register_core.specs.Opened.{AreOf}
use Rattle.register_core.proofs.passes.read_all.Given as goal

abbrev pub invariant-loop-row : goal.invariant-loop-row
invariant-loop-row l = AreOf (take l.row-index l.rows) l.views.items
