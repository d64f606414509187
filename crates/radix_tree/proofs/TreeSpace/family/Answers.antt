use Rattle.std.proofs.Common.{subst}
use Rattle.block_space.specs.Listed.{AreBlocksOf}
use Rattle.radix_tree.specs.Held.{Held}
use Rattle.radix_tree.proofs.Lent.{blocks_of_family}
use Rattle.radix_tree.proofs.TreeSpace.family.Goals as goal

pub returns-clause-lawful : goal.returns-clause-lawful
returns-clause-lawful c = subst (λ (h : Held). AreBlocksOf h.family h.blocks) c.self.view_is (blocks_of_family c.self.inside.linked c.self.invariant.sound.tree)
