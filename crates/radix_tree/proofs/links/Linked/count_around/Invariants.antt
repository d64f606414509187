use Rattle.inet_num.specs.Net.{IsBlock, IsInside}
use Rattle.radix_tree.specs.Shape.{HasLink, rank}
use Rattle.radix_tree.proofs.Above.{IsAroundUpTo}
use Rattle.radix_tree.proofs.links.Linked.count_around.Given as goal

abbrev pub invariant-loop-found : goal.invariant-loop-found
invariant-loop-found g l = record {
  here : HasLink l.self l.found.place l.found.at l.found.land;
  inside : IsInside l.block l.found.land;
  lawful : IsBlock l.found.land;
  around : IsAroundUpTo l.self l.block l.found.land l.count;
}

abbrev pub decreases-loop-found : goal.decreases-loop-found
decreases-loop-found g l = rank l.self.pool l.found.at
