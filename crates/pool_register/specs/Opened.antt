-- Pools of stored tables, and why there are none.
use Rattle.std.specs.Prelude.{◌≡◌, Option, Some, None}
use Rattle.number_pools.specs.Lawful.{IsLawfulPools}
use Rattle.number_pools.specs.Rows.{Pools}
use Rattle.pool_keeper.specs.declared.tables.PoolTables.{PoolTables}
use Rattle.pool_keeper.specs.Keeping.{IsTold}
use Rattle.pool_opening.specs.declared.faults.PoolFault.{PoolFault}
use Rattle.pool_opening.specs.Faults.{IsRefused, fault_of, loaded}

-- these are the pools of tables that the keeper had, without a fault: of the known ones, if they are known. They are lawful in any case
pub record IsOpened (told : Option PoolTables) (s : Pools) : Type 0 where
  pub tables : PoolTables
  pub held : IsTold told tables
  pub faultless : fault_of tables ≡ None
  pub are : s ≡ loaded tables
  pub lawful : IsLawfulPools s

-- the fault is that of the known tables, if it is one of tables at all; of unknown ones nothing is said
abbrev pub IsUnopened : Option PoolTables → PoolFault → Type 0
IsUnopened None fault = Unit {0}
IsUnopened (Some tables) fault = IsRefused tables fault
