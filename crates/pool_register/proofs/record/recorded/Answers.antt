use Rattle.std.proofs.Common.{ℕ, List, ap, arith}
use Rattle.number_pools.specs.declared.rows.Member.{Member}
use Rattle.pool_register.proofs.Records.{record_row}
use Rattle.pool_register.proofs.record.recorded.Goals as goal

pub item-preserved : goal.item-preserved
item-preserved c =
    let next = c.item.invariant.1 in
    let item = c.item-item.result in
    let named : Member = record { id = c.item.next; range = c.args.range; number = item.number; name = c.in_ok-copy.field-0 } in (
      record_row c.args.id c.args.range c.args.items.now c.item.item-index c.item.next item item named c.item.out.items c.push.new.self.items
          c.item-test.true c.item-item.is (ap (λ (t : List ℕ). let m : Member = record { id = c.item.next; range = c.args.range; number = item.number; name = t } in m) c.in_ok-copy.ensures)
          c.in_ok-push.ensures.items c.item.invariant.0 next,
      omega arith,
    )
