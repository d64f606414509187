use Rattle.std.proofs.Common.{ap, option_copied, sym, ◌∙◌}
use Rattle.pool_register.proofs.Edits.{kind_kept}
use Rattle.pool_register.proofs.edit.plan_edit_range.Goals as goal

pub plan_edited_range-requires : goal.plan_edited_range-requires
plan_edited_range-requires c =
    kind_kept c.args.rows.now.pools c.args.kind c.args.id c.args.name.now c.args.first c.args.last c.in-Some.range.now c.in_ok-edited_range.field-0
    (sym c.range_at.ensures ∙ ap option_copied c.in-Some.is) c.in_ok-edited_range.ensures
