-- The opener of pools, as the commands of any machine see it.
use Rattle.std.specs.Prelude.{ℕ, List, Option}
use Rattle.machine_command.specs.Openers.{OpenerMeaning}
use Rattle.pool_keeper.specs.declared.tables.PoolTables.{PoolTables}
use Rattle.pool_opening.specs.declared.faults.PoolFault.{PoolFault}
use Rattle.pool_register.specs.Kept.{Seen}
use Rattle.pool_store.specs.FaultWords.{IsSaid}
use Rattle.pool_store.specs.Opening.{Holds, IsLoaded, IsRefusedOpening}

-- what pools are opened over and go back to, by the path of the store, if any, and what is said if they are not opened
abbrev pub pool_opener : OpenerMeaning (Option (List ℕ)) PoolTables Seen PoolFault
pool_opener = record { loads = IsLoaded; holds = Holds; refuses = IsRefusedOpening; says = IsSaid }
