use Rattle.std.proofs.Common.{◌≡◌, ◌+◌, take}
use Rattle.number_pools.specs.Steps.{made_members, names_of, numbers_of}
use Rattle.pool_register.proofs.record.recorded.Given as goal

abbrev pub invariant-item : goal.invariant-item
invariant-item l =
    (l.out.items ≡ made_members l.id l.range (numbers_of (take l.item-index l.items)) (names_of (take l.item-index l.items))) × (l.next ≡ l.id + l.item-index)
