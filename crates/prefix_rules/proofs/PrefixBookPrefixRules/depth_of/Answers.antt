use Rattle.std.proofs.Common.{sym, ◌∙◌}
use Rattle.prefix_rules.proofs.Figures.{depth_of_blocks}
use Rattle.prefix_rules.proofs.PrefixBookPrefixRules.depth_of.Goals as goal

pub returns : goal.returns
returns g c = c.count_around.ensures ∙ sym (depth_of_blocks c.args.self.now.rows c.args.row.now)
