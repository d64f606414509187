use Rattle.std.proofs.Common.{false, IsTrue}
use Rattle.radix_tree.proofs.Fitting.{link_none, link_some, link_apart}
use Rattle.radix_tree.proofs.links.Linked.link_inside.Goals as goal

pub returns-in_default-clause-link : goal.returns-in_default-clause-link
returns-in_default-clause-link g c = link_none c.args.self.now c.requires.sound.tree c.args.within.now c.find-found.result c.find-found.ensures.found c.in_default.is

pub returns-then-contains-clause-link : goal.returns-then-contains-clause-link
returns-then-contains-clause-link g c = link_some c.args.self.now c.requires.sound.tree c.args.within.now c.find-found.result c.find-found.ensures.found c.in-Some.id c.visit-node.result.now c.in-Some.is c.visit-node.ensures.node (c.contains.ensures.0 c.if-contains.true)

pub returns-else-contains-clause-link : goal.returns-else-contains-clause-link
returns-else-contains-clause-link g c =
    link_apart c.args.self.now c.requires.sound.tree c.args.within.now c.find-found.result c.find-found.ensures.found c.in-Some.id c.visit-node.result.now c.in-Some.is c.visit-node.ensures.node c.requires.lawful c.requires.family
    (λ i. (let f : IsTrue false = c.if-contains.ensures.1 i in cc))
