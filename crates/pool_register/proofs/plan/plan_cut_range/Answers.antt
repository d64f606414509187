use Rattle.std.proofs.Common.{sym, ◌∙◌}
use Rattle.pool_register.proofs.Plans.{cut_range_made}
use Rattle.pool_register.proofs.plan.plan_cut_range.Goals as goal

pub returns-in-None : goal.returns-in-None
returns-in-None c =
    cut_range_made c.args.rows.now.pools c.args.kind c.args.id (sym c.has_range.ensures ∙ c.if-not-has_range.false) (sym c.cut_range_refusal.ensures ∙ c.in-None.is)
