use Rattle.std.proofs.Common.{sym, ◌∙◌}
use Rattle.serde_json.specs.View.{view}
use Rattle.ipam_data.specs.declared.replies.FieldName.TheVariants.{Name}
use Rattle.ipam_json.specs.Outcomes.{value_of}
use Rattle.pool_json.specs.Bodies.{asn_name_of}
use Rattle.pool_json.proofs.Ranged.{ill_given, is_given, none_given}
use Rattle.pool_json.proofs.members.given_asn_name.Goals as goal

pub returns-then-not-has_name : goal.returns-then-not-has_name
returns-then-not-has_name c = none_given Name asn_name_of (value_of Name (view c.args.body.now)) (sym c.has_name.ensures ∙ c.if-not-has_name.true)

pub returns-in-Ok : goal.returns-in-Ok
returns-in-Ok c = is_given Name asn_name_of (value_of Name (view c.args.body.now)) c.in-Ok.name (sym c.has_name.ensures ∙ c.if-not-has_name.false) c.in-Ok.ensures

pub returns-in-Err : goal.returns-in-Err
returns-in-Err c = ill_given Name asn_name_of (value_of Name (view c.args.body.now)) c.in-Err.refusal (sym c.has_name.ensures ∙ c.if-not-has_name.false) c.in-Err.ensures
