use Rattle.std.proofs.Common.{sym, ◌∙◌}
use Rattle.pool_register.proofs.Records.{stops}
use Rattle.pool_register.proofs.record.item_unfit.Goals as goal

pub returns-in-Some : goal.returns-in-Some
returns-in-Some c =
    sym (stops c.args.rows.now.pools c.args.range.now c.args.items.now c.item.at c.index-items-at.result c.in-Some.why c.item-test.true
    (sym c.number_unfit.ensures ∙ c.in-Some.is)) ∙ c.item.invariant.0
