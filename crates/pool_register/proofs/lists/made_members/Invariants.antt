use Rattle.std.proofs.Common.{◌≡◌, ◌+◌, ◌-◌, ◌≤◌, length, take}
use Rattle.number_pools.specs.Steps.{made_members}
use Rattle.pool_register.proofs.lists.made_members.Given as goal

abbrev pub invariant-row : goal.invariant-row
invariant-row l =
    (l.out.items ≡ made_members l.id l.range (take l.at l.numbers) (take l.at l.names)) × (l.next ≡ l.id + l.at) × (l.at ≤ length l.names)

abbrev pub decreases-row : goal.decreases-row
decreases-row l = length l.names - l.at
