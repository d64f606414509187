use Rattle.std.proofs.Common.{sym, ◌∙◌, arith}
use Rattle.register_plans.proofs.Verdicts.{next_fits}
use Rattle.register_tables.specs.Held.{state_of}
use Rattle.register_plans.proofs.calls.plan_create.Goals as goal

pub overflow_add-next : goal.overflow_add-next
overflow_add-next g c =
    let fits = next_fits g.T.Listed.rules (state_of c.args.row_tables.now) c.args.row (sym c.check_new.ensures ∙ c.in-None.is) in
    let same = c.next-next.ensures in
    omega arith
