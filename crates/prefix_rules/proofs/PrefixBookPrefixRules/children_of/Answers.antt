use Rattle.std.proofs.Common.{sym, ◌∙◌}
use Rattle.prefix_rules.proofs.Figures.{children_of_blocks}
use Rattle.prefix_rules.proofs.PrefixBookPrefixRules.children_of.Goals as goal

pub returns : goal.returns
returns g c = c.count_inside.ensures ∙ sym (children_of_blocks c.args.self.now.rows c.args.row.now)
