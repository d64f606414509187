use Rattle.std.proofs.Common.{◌-◌}
use Rattle.inet_num.specs.Net.{width_of, IsBlock, IsInside}
use Rattle.radix_tree.proofs.halves.join.Given as goal

abbrev pub invariant-loop-low : goal.invariant-loop-low
invariant-loop-low l = record {
  lawful : IsBlock l.around;
  inside : IsInside l.around l.fn.land;
  first : IsInside l.a l.around;
  second : IsInside l.b l.around;
}

abbrev pub decreases-loop-low : goal.decreases-loop-low
decreases-loop-low l = width_of l.around.family - l.around.len
