use Rattle.register_core.proofs.Loading.{one_more, unread_here}
use Rattle.register_core.proofs.passes.read_all.Goals as goal

pub returns-in-None : goal.returns-in-None
returns-in-None c = unread_here c.args.rows.now c.loop-row.row-index c.row-item.result c.loop-row.views.items c.in_ok-view.field-0 c.loop-row-test.true c.row-item.is c.loop-row.invariant c.in_ok-view.ensures c.in-None.is

pub loop-row-preserved : goal.loop-row-preserved
loop-row-preserved c = one_more c.args.rows.now c.loop-row.row-index c.row-item.result c.loop-row.views.items c.push.new.self.items c.in_ok-view.field-0 c.in-Some.view c.loop-row-test.true c.row-item.is c.loop-row.invariant c.in_ok-view.ensures c.in-Some.is c.in_ok-push-in-Some.ensures.items
