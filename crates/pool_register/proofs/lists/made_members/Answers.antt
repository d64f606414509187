use Rattle.std.proofs.Common.{arith, refl, ◌∙◌}
use Rattle.pool_register.proofs.Plans.{made_row}
use Rattle.pool_register.proofs.lists.made_members.Goals as goal

pub row-preserved : goal.row-preserved
row-preserved c =
    let next = c.row.invariant.1 in (
      made_row c.args.id c.args.range c.args.numbers.now c.args.names.now c.row.at c.row.next _ 0 c.in_ok-copy.field-0 c.index-names-at.result c.row.out.items c.push.new.self.items
          c.requires.same c.row-test.true c.in_ok-push.ensures.items c.row.invariant.0 next refl (c.in_ok-copy.ensures ∙ c.index-names-at.is),
      omega arith,
      omega arith,
    )
