use Rattle.std.proofs.Common.{arith}
use Rattle.reverse_zone.proofs.Labels.{one_more, all_put}
use Rattle.reverse_zone.proofs.owner.push_owner.Goals as goal

pub loop-count-preserved : goal.loop-count-preserved
loop-count-preserved c = record {
  items = one_more c.family-family.result c.loop-count.count c.loop-count.left _ _ _ _ (omega arith) c.base-base.ensures.value c.push_label.ensures.items c.loop-count.invariant.items;
  room = (let room = c.loop-count.invariant.room in let longer = c.push_label.ensures.len in omega arith);
}

pub returns-clause-items : goal.returns-clause-items
returns-clause-items c = all_put c.family-family.result c.loop-count.count c.loop-count.left _ _ _ _ (omega arith) c.zone.ensures.value c.push_all.ensures.items c.loop-count.invariant.items
