-- The way back from a cause to status 1: if known tables have a fault and nothing fails, a run ends with 1, or for lack of memory with 5. (The
-- way from status 1 to its cause is `refused` of the clauses of a run.)
use Rattle.std.specs.Prelude.{◌≡◌, ℕ, ◌⊎◌, List, Option, Some}
use Rattle.machine_serving.specs.Views.{ListenerView}
use Rattle.pool_keeper.specs.declared.tables.PoolTables.{PoolTables}
use Rattle.pool_keeper.specs.Keeping.{started}
use Rattle.pool_opening.specs.declared.faults.PoolFault.{PoolFault}
use Rattle.pool_opening.specs.Faults.{fault_of}
use Rattle.pool_words.specs.Asked.{Asks}
use Rattle.pool_words.specs.declared.asked.Command.{Command}
use Rattle.pool_command.specs.Clauses.{AnyFailed, ListenerFailed, Opens}
use Rattle.pool_command.specs.Runs.{PoolOutside, Runs}

-- the known tables of this path have a fault
pub record HasBadTables (path : Option (List ℕ)) (old : PoolOutside) : Type 0 where
  pub tables : PoolTables
  pub told : started old.stores.stored path ≡ Some tables
  pub fault : PoolFault
  pub bad : fault_of tables ≡ Some fault

-- if nothing fails, a fault of known tables gives status 1, memory apart
abbrev pub RunsAreExact : Type 0
RunsAreExact = (words : List (List ℕ)) (old new : PoolOutside) (before after : ListenerView) (status : ℕ) → Runs words old new before after status
    → (¬ AnyFailed old new) → ((command : Command) → Asks words command → ¬ ListenerFailed command before after)
    → (path : Option (List ℕ)) → Opens words path → HasBadTables path old → (status ≡ 1) ⊎ (status ≡ 5)
