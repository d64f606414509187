use Rattle.std.proofs.Common.{sym, ◌∙◌}
use Rattle.stored_tables.proofs.ColumnLaws.{ends_have_one_mask}
use Rattle.stored_tables.proofs.columns.ends_of.Goals as goal

pub returns-then-len : goal.returns-then-len
returns-then-len c = λ e h t. c.if-len.true (c.len.ensures.len ∙ ends_have_one_mask c.args.start c.args.end e c.len.ensures.bounds c.len-2.ensures.bounds h t ∙ sym c.len-2.ensures.len)
