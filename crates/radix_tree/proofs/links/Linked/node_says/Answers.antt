use Rattle.std.proofs.Common.{true, false}
use Rattle.radix_tree.proofs.Lent.{live_children}
use Rattle.radix_tree.proofs.links.Linked.node_says.Goals as goal

pub side_says-low-requires-clause-live : goal.side_says-low-requires-clause-live
side_says-low-requires-clause-live g c = λ below is. live_children c.args.self.now c.requires.sound.tree c.args.id below c.visit-node.result.now false c.visit-node.ensures.node is

pub side_says-high-requires-clause-live : goal.side_says-high-requires-clause-live
side_says-high-requires-clause-live g c = λ below is. live_children c.args.self.now c.requires.sound.tree c.args.id below c.visit-node.result.now true c.visit-node.ensures.node is
