use Rattle.std.proofs.Common.{refl, sym, ◌∙◌}
use Rattle.pool_register.proofs.Plans.{claim_made_as}
use Rattle.pool_register.proofs.plan.plan_members.Goals as goal

pub returns : goal.returns
returns c =
    claim_made_as c.args.rows.now.pools c.args.range.now c.args.names.now c.args.numbers.now c.of.result c.requires.names c.requires.claimed (sym c.member_limit.ensures ∙ c.in-None.is)
    (rw (c.of.ensures, c.in_ok-made.ensures, c.next_member.ensures) refl)
