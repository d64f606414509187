use Rattle.std.proofs.Common.{◌≡◌, ◌≤◌, ◌+◌, take}
use Rattle.inet_num.specs.Net.{size_of}
use Rattle.prefix_list.proofs.Walks.{IsBelow, IsPast}
use Rattle.prefix_list.proofs.sets.add_rest.Given as goal

abbrev pub invariant-walk : goal.invariant-walk
invariant-walk l = record {
  family : l.set.family ≡ l.fn.set.family;
  low : l.block.first ≤ l.at;
  high : l.at + 1 ≤ l.block.first + size_of l.block;
  past : IsPast (take l.taken-index l.by) l.at;
  below : IsBelow l.fn.set l.set l.block l.by l.at;
}
