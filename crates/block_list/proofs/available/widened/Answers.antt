use Rattle.block_list.proofs.Widening.{wide_more, wide_met}
use Rattle.block_list.proofs.available.widened.Goals as goal

pub returns-then-is_met : goal.returns-then-is_met
returns-then-is_met c = wide_met c.args.within.now c.args.blocks.now c.args.strict c.is_met.result c.args.block c.widen.wide c.in-Some.wider c.widen.invariant c.in-Some.ensures.some c.is_met.ensures c.if-is_met.true

pub widen-preserved : goal.widen-preserved
widen-preserved c =
    wide_more c.args.within.now c.args.blocks.now c.args.strict c.is_met.result c.contains.result c.args.block c.widen.wide c.in-Some.wider c.widen.invariant c.in-Some.ensures.some c.contains.ensures c.if-not-contains.false c.is_met.ensures
    c.if-is_met.false
