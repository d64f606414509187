use Rattle.std.proofs.Common.{◌≡◌, take, drop}
use Rattle.std.specs.List.{AllByRecursion}
use Rattle.inet_num.specs.Free.{InOrder}
use Rattle.prefix_list.specs.Steps.{IsSameFrom, IsBeyond}
use Rattle.prefix_list.proofs.sets.rest_of.Given as goal

abbrev pub invariant-each : goal.invariant-each
invariant-each l = record {
  family : l.set.family ≡ l.fn.family;
  ordered : InOrder 0 l.left;
  same : AllByRecursion (λ h. IsSameFrom l.left l.fn.by h.first) (drop l.block-index l.have);
  members : IsBeyond l.set (take l.block-index l.have) l.fn.by;
}
