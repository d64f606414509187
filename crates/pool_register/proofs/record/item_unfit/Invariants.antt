use Rattle.std.proofs.Common.{◌≡◌, ◌-◌, ◌≤◌, [], length}
use Rattle.number_pools.specs.Steps.{numbers_of, unfit}
use Rattle.pool_register.proofs.Records.{unfit_from}
use Rattle.pool_register.proofs.record.item_unfit.Given as goal

abbrev pub invariant-item : goal.invariant-item
invariant-item l = (unfit_from l.rows.pools l.range l.items l.at ≡ unfit l.rows.pools l.range [] (numbers_of l.items)) × (l.at ≤ length l.items)

abbrev pub decreases-item : goal.decreases-item
decreases-item l = length l.items - l.at
