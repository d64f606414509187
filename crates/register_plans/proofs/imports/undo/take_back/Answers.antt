use Rattle.std.proofs.Common.{◌∙◌, sym, arith}
use Rattle.register_tables.specs.Held.{state_of}
use Rattle.register_plans.proofs.ImportPlans.{next_is}
use Rattle.register_plans.proofs.TakenBack.{cut_next, cut_end}
use Rattle.register_plans.proofs.imports.undo.take_back.Goals as goal

pub ids-preserved : goal.ids-preserved
ids-preserved c =
    cut_next (state_of c.ids.row_tables) (state_of c.cut.new.self) c.args.kind c.args.first c.next-next.result c.saturating_sub-made.result c.ids.k c.saturating_sub-made.ensures (omega arith) c.cut.ensures
    ∙ c.ids.invariant

pub returns : goal.returns
returns c =
    cut_end (state_of c.args.row_tables.now) (state_of c.ids.row_tables) (state_of c.set_next.new.self) c.args.kind c.args.first c.next-next.result c.saturating_sub-made.result c.ids.k c.ids-test.false
    (c.next-next.ensures ∙ sym (next_is c.args.row_tables.now c.args.kind)) c.saturating_sub-made.ensures c.set_next.ensures c.ids.invariant
