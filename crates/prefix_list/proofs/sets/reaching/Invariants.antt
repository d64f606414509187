use Rattle.std.proofs.Common.{length}
use Rattle.inet_num.specs.Free.{InOrder}
use Rattle.prefix_list.specs.Steps.{IsSameFrom}
use Rattle.prefix_list.proofs.sets.reaching.Given as goal

abbrev pub invariant-skip : goal.invariant-skip
invariant-skip l = record {
  ordered : InOrder 0 l.rest;
  same : IsSameFrom l.rest l.by l.number;
}

abbrev pub decreases-skip : goal.decreases-skip
decreases-skip l = length l.rest
