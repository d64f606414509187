use Rattle.ipam_data.specs.Imports.{HasRowBounds}
use Rattle.ipam_data.proofs.Each.{each_more}
use Rattle.ipam_data.proofs.imports.ImportRows.bounds.Goals as goal

pub loop-item-preserved : goal.loop-item-preserved
loop-item-preserved c = each_more HasRowBounds _ c.loop-item.item-index c.item-item.result c.loop-item-test.true c.item-item.is c.bounds.ensures c.loop-item.invariant
