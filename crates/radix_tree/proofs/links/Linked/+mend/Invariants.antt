use Rattle.radix_tree.specs.Shape.{rank}
use Rattle.radix_tree.proofs.links.Linked.+mend.Given as goal

abbrev pub decreases-mend : goal.decreases-mend
decreases-mend g l = rank l.self.now.pool l.at
