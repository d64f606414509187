use Rattle.std.proofs.Common.{◌≡◌, ◌-◌, ◌≤◌}
use Rattle.inet_num.proofs.PlainSearch.{listed_below}
use Rattle.inet_num.proofs.plain.available_blocks.Given as goal

abbrev pub invariant-walk : goal.invariant-walk
invariant-walk l = record {
  low : l.within.first ≤ l.at;
  high : l.at ≤ l.last;
  found : l.out.items ≡ listed_below l.within l.children (l.at - l.within.first);
}

abbrev pub decreases-walk : goal.decreases-walk
decreases-walk l = l.last - l.at
