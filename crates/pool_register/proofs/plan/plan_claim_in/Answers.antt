use Rattle.std.proofs.Common.{ap, option_copied, sym, ◌∙◌}
use Rattle.pool_register.proofs.Plans.{bounds_at}
use Rattle.pool_register.proofs.plan.plan_claim_in.Goals as goal

pub plan_claim_on-requires-clause-bounds : goal.plan_claim_on-requires-clause-bounds
plan_claim_on-requires-clause-bounds c =
    bounds_at c.args.rows.now.pools c.args.kind c.args.id c.in-Some.range.now c.requires.lawful (sym c.range_at.ensures ∙ ap option_copied c.in-Some.is)
