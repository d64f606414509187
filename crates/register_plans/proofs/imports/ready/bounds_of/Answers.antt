use Rattle.ipam_data.specs.Imports.{HasRowBounds}
use Rattle.ipam_data.proofs.Each.{each_more}
use Rattle.register_plans.proofs.imports.ready.bounds_of.Goals as goal

pub loop-row-preserved : goal.loop-row-preserved
loop-row-preserved c = each_more HasRowBounds _ c.loop-row.row-index c.row-item.result c.loop-row-test.true c.row-item.is c.bounds.ensures c.loop-row.invariant
