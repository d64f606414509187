use Rattle.register_tables.proofs.Mapped.{mapped_more}
use Rattle.register_plans.specs.Answered.{figured_among}
use Rattle.register_plans.proofs.answers.all_figured.Goals as goal

pub loop-view-preserved : goal.loop-view-preserved
loop-view-preserved g c =
    mapped_more (figured_among c.args.book.now.rows) c.deref_mut-view-items.result.now c.loop-view.view-items c.loop-view.view-index c.view-item.result c.figure.new.view
    c.loop-view-test.true c.loop-view.invariant c.view-item.is c.figure.ensures
