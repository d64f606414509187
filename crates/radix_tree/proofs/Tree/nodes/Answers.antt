use Rattle.radix_tree.proofs.Hanging.{shaped}
use Rattle.radix_tree.proofs.Lent.{live_children}
use Rattle.radix_tree.proofs.Leasts.{all_least}
use Rattle.radix_tree.proofs.Tree.nodes.Goals as goal

pub returns-clause-live : goal.returns-clause-live
returns-clause-live c = live_children c.self.inside.linked c.self.invariant.sound.tree

pub returns-clause-frees : goal.returns-clause-frees
returns-clause-frees c = all_least c.self.inside.linked c.self.invariant.sound c.self.invariant.frees

pub returns-clause-shape : goal.returns-clause-shape
returns-clause-shape c = shaped c.self.inside.linked c.self.invariant.sound.tree
