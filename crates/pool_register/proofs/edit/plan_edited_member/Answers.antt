use Rattle.std.proofs.Common.{sym, ◌∙◌}
use Rattle.pool_register.proofs.Edits.{member_edited}
use Rattle.pool_register.proofs.edit.plan_edited_member.Goals as goal

pub returns-in-None : goal.returns-in-None
returns-in-None c = member_edited c.args.rows.now.pools c.args.member c.requires (sym c.edit_member_refusal.ensures ∙ c.in-None.is)
