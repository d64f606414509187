use Rattle.ipam_data.specs.Updates.{figured}
use Rattle.register_tables.specs.Held.{state_of}
use Rattle.register_tables.proofs.Mapped.{mapped_more}
use Rattle.register_tables.proofs.RowTables.all_figured.Goals as goal

pub loop-view-preserved : goal.loop-view-preserved
loop-view-preserved c =
    mapped_more (figured (state_of c.args.self.now)) c.deref_mut-view-items.result.now c.loop-view.view-items c.loop-view.view-index c.view-item.result c.figure.new.view
    c.loop-view-test.true c.loop-view.invariant c.view-item.is c.figure.ensures
