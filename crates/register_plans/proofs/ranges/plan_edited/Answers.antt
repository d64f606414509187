use Rattle.std.proofs.Common.{sym, ◌∙◌, Some, [], ◌∷◌}
use Rattle.ipam_data.specs.Checks.{no_log}
use Rattle.ipam_data.specs.Fields.{edited_range, told_of_change}
use Rattle.ipam_data.specs.Ranges.{range_rules}
use Rattle.register_tables.specs.Held.{state_of}
use Rattle.register_plans.proofs.Drafted.{range_edited}
use Rattle.register_plans.proofs.Verdicts.{told_named, told_refuses}
use Rattle.register_plans.proofs.ranges.plan_edited.Goals as goal

pub returns-in-Some : goal.returns-in-Some
returns-in-Some c =
    told_named range_rules (state_of c.args.row_tables.now) (Some c.args.old.now) (told_of_change c.args.edit.now c.args.old.now) (edited_range c.args.edit.now c.args.old.now) (no_log c.args.row_tables.now.spent 1 ∷ []) c.in-Some.rule
    (sym c.missing_edited.ensures ∙ c.in-Some.is)

pub returns-in-Some-told_edited : goal.returns-in-Some-told_edited
returns-in-Some-told_edited c =
    told_refuses range_rules (state_of c.args.row_tables.now) (Some c.args.old.now) (told_of_change c.args.edit.now c.args.old.now) (edited_range c.args.edit.now c.args.old.now) (no_log c.args.row_tables.now.spent 1 ∷ []) c.in-Some-told_edited.rule
    (sym c.missing_edited.ensures ∙ c.in_default.is) (sym c.told_edited.ensures ∙ c.in-Some-told_edited.is)

pub returns : goal.returns
returns c = range_edited (state_of c.args.row_tables.now) c.args.old.now c.args.edit.now c.in_ok-row.row c.plan_replace.result c.requires c.in_ok-row.ensures (sym c.told_edited.ensures ∙ c.in_default-told_edited.is) c.plan_replace.ensures
