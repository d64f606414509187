use Rattle.serde_json.specs.View.{view}
use Rattle.pool_json.specs.Bodies.{range_draft}
use Rattle.pool_json.proofs.Ranged.{of_none, of_object}
use Rattle.pool_json.proofs.bodies.read_range.Goals as goal

pub returns-in-Ok : goal.returns-in-Ok
returns-in-Ok c = of_object range_draft c.args.body.now (view c.in-Ok.object) c.range_in.result c.in-Ok.ensures.ok c.range_in.ensures

pub returns-in-Err : goal.returns-in-Err
returns-in-Err c = of_none range_draft c.args.body.now c.in-Err.refusal c.in-Err.ensures.err
