use Rattle.std.proofs.Common.{refl, sym, ◌∙◌}
use Rattle.pool_register.proofs.Records.{record_made}
use Rattle.pool_register.proofs.record.plan_record_on.Goals as goal

pub returns : goal.returns
returns c =
    record_made c.args.rows.now.pools c.args.range.now c.args.items.now c.of.result (sym c.record_refusal.ensures ∙ c.in-None.is)
    (rw (c.of.ensures, c.in_ok-made.ensures, c.next_member.ensures) refl)
