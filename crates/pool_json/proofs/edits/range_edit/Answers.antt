use Rattle.std.proofs.Common.{codes}
use Rattle.ipam_data.specs.declared.replies.FieldName.TheVariants.{Name}
use Rattle.serde_json.specs.Find.{get}
use Rattle.serde_json.specs.View.{view}
use Rattle.ipam_json.specs.Members.{name_of}
use Rattle.ipam_json.specs.Outcomes.{read_given}
use Rattle.pool_json.specs.declared.bodies.RequestRefusal.TheVariants.{Start, End}
use Rattle.pool_json.specs.Edits.{given_number}
use Rattle.pool_json.proofs.Ranged.{ill_renamed}
use Rattle.pool_json.proofs.edits.range_edit.Goals as goal

pub returns-in-Err : goal.returns-in-Err
returns-in-Err c =
    ill_renamed (read_given Name name_of (view c.args.object.now)) (given_number Start (get (codes "start") (view c.args.object.now))) (given_number End (get (codes "end") (view c.args.object.now))) c.in-Err.refusal c.in-Err.ensures
