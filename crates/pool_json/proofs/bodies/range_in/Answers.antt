use Rattle.std.proofs.Common.{codes}
use Rattle.serde_json.specs.Find.{get}
use Rattle.serde_json.specs.View.{view}
use Rattle.pool_json.specs.Bodies.{number_of}
use Rattle.pool_json.proofs.Ranged.{ill_named}
use Rattle.pool_json.proofs.bodies.range_in.Goals as goal

pub returns-in-Err : goal.returns-in-Err
returns-in-Err c =
    ill_named _ (number_of (get (codes "start") (view c.args.object.now))) (number_of (get (codes "end") (view c.args.object.now))) c.in-Err.refusal c.in-Err.ensures
