use Rattle.serde_json.specs.View.{view}
use Rattle.pool_json.specs.Edits.{member_name}
use Rattle.pool_json.proofs.Ranged.{of_name}
use Rattle.pool_json.proofs.edits.member_edit.Goals as goal

pub returns-in-Err : goal.returns-in-Err
returns-in-Err c = of_name (member_name c.args.kind (view c.args.object.now)) c.in-Err.refusal c.in-Err.ensures
