use Rattle.std.proofs.Common.{◌≡◌, take}
use Rattle.number_pools.specs.Steps.{ranges_of}
use Rattle.pool_register.proofs.lists.ranges_of.Given as goal

abbrev pub invariant-row : goal.invariant-row
invariant-row l = l.out.items ≡ ranges_of (take l.range-index l.ranges) l.kind
