use Rattle.std.proofs.Common.{◌≡◌, ◌≤◌, ◌-◌, ◌++◌, List}
use Rattle.inet_num.specs.Net.{Cidr}
use Rattle.span_set.proofs.Greedy.{Found}
use Rattle.span_set.proofs.blocks.push_blocks.Given as goal

abbrev pub invariant-walk : goal.invariant-walk
invariant-walk l = record {
  low : l.first ≤ l.at;
  high : l.at ≤ l.last;
  found : (bs : List Cidr) × Found l.family l.first l.last l.at bs × (l.out.items ≡ l.initial.out.items ++ bs);
}

abbrev pub decreases-walk : goal.decreases-walk
decreases-walk l = l.last - l.at
