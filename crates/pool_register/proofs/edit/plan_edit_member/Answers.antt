use Rattle.std.proofs.Common.{ap, option_copied, sym, ◌∙◌}
use Rattle.pool_register.proofs.Edits.{number_kept}
use Rattle.pool_register.proofs.edit.plan_edit_member.Goals as goal

pub plan_edited_member-requires : goal.plan_edited_member-requires
plan_edited_member-requires c =
    number_kept c.args.rows.now.pools c.args.kind c.args.id c.args.name.now c.in-Some.member.now c.in_ok-edited_member.field-0
    (sym c.member_at.ensures ∙ ap option_copied c.in-Some.is) c.in_ok-edited_member.ensures
