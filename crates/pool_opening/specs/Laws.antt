-- What holds of the opening of pools.
use Rattle.std.specs.Prelude.{◌≡◌, None}
use Rattle.number_pools.specs.Rows.{Pools}
use Rattle.number_pools.specs.Lawful.{IsLawfulPools}
use Rattle.pool_keeper.specs.Stored.{tables_of}
use Rattle.pool_opening.specs.Faults.{fault_of}

-- the tables of lawful pools have no fault
abbrev pub LawfulHaveNoFault : Type 0
LawfulHaveNoFault = (s : Pools) → IsLawfulPools s → fault_of (tables_of s) ≡ None
