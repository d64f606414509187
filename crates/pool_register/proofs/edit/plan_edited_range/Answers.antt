use Rattle.std.proofs.Common.{sym, ◌∙◌}
use Rattle.pool_register.proofs.Edits.{range_edited}
use Rattle.pool_register.proofs.edit.plan_edited_range.Goals as goal

pub returns-in-None : goal.returns-in-None
returns-in-None c = range_edited c.args.rows.now.pools c.args.range c.requires (sym c.edit_range_refusal.ensures ∙ c.in-None.is)
