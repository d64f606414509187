use Rattle.serde_json.specs.View.{view}
use Rattle.pool_json.specs.Edits.{member_edit}
use Rattle.pool_json.proofs.Ranged.{of_none, of_object}
use Rattle.pool_json.proofs.edits.read_member_edit.Goals as goal

pub returns-in-Ok : goal.returns-in-Ok
returns-in-Ok c = of_object (member_edit c.args.kind) c.args.body.now (view c.in-Ok.object) c.member_edit.result c.in-Ok.ensures.ok c.member_edit.ensures

pub returns-in-Err : goal.returns-in-Err
returns-in-Err c = of_none (member_edit c.args.kind) c.args.body.now c.in-Err.refusal c.in-Err.ensures.err
