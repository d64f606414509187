use Rattle.std.proofs.Common.{ap, option_copied, sym, ◌∙◌}
use Rattle.pool_register.proofs.Plans.{bounds_at}
use Rattle.pool_register.proofs.plan.read_free.Goals as goal

pub free_of-requires-clause-bounds : goal.free_of-requires-clause-bounds
free_of-requires-clause-bounds c =
    bounds_at c.args.rows.now.pools c.args.kind c.args.id c.in-Some.range.now c.requires.lawful (sym c.range_at.ensures ∙ ap option_copied c.in-Some.is)
