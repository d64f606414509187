use Rattle.radix_tree.proofs.Mended.{kept_removed}
use Rattle.radix_tree.proofs.TreeSpace.remove.Goals as goal

pub invariant_of-self : goal.invariant_of-self
invariant_of-self c = kept_removed c.self.inside.linked c.remove_counted.new.linked c.args.block c.remove_counted.result c.self.invariant c.remove_counted.ensures.removed c.remove_counted.ensures.frees
