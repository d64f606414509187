use Rattle.std.proofs.Common.{◌≡◌, take}
use Rattle.number_pools.specs.Steps.{members_of}
use Rattle.pool_register.proofs.lists.members_of.Given as goal

abbrev pub invariant-row : goal.invariant-row
invariant-row l = l.out.items ≡ members_of (take l.member-index l.members) l.id
