use Rattle.std.proofs.Common.{◌≡◌}
use Rattle.radix_tree.specs.Preorder.{to_come, IsPending, weight}
use Rattle.radix_tree.proofs.links.Linked.next_entry.Given as goal

abbrev pub invariant-walk : goal.invariant-walk
invariant-walk g l = record {
  pending : IsPending l.self l.pending.items;
  same : to_come l.self.pool l.pending.items ≡ to_come l.self.pool l.initial.pending.items;
}

abbrev pub decreases-walk : goal.decreases-walk
decreases-walk g l = weight l.self.pool l.pending.items
