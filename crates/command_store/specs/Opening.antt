-- The opening of a register over the store that the words name, or else in memory: what it represents, what it leaves in the store, and
-- what is said if it is refused.
use Rattle.std.specs.Prelude.{◌≡◌, ◌⊎◌, List, IsSome, Option, Some}
use Rattle.ipam_data.specs.State.{State}
use Rattle.stored_tables.specs.declared.opening.OpenFault.{OpenFault}
use Rattle.stored_tables.specs.declared.opening.OpenFault.TheVariants.{Keeper}
use Rattle.stored_tables.specs.declared.tables.Tables.{Tables}
use Rattle.stored_tables.specs.Stored.{Tells}
use Rattle.stored_tables.specs.Opening.{IsOfTables}
use Rattle.ipam_keeper.specs.Keeping.{started, IsReturned}
use Rattle.register_core.specs.Opened.{IsOpened, IsUnopened}
use Rattle.command_words.specs.declared.asked.Store.{Store}
use Rattle.command_streams.specs.Streams.{Gains, GainsFront, Failed}
use Rattle.command_store.specs.Outside.{Outside, StoreFailed, IsUnused}
use Rattle.command_store.specs.FaultWords.{fault_line}

-- the tables with which the store begins, if they are known: without a file the empty ones
abbrev pub found_tables : Store → Outside → Option Tables
found_tables store old = started old.stores.stored store.db

-- the state is one that the tables of the store represent
abbrev pub IsLoaded : Store → Outside → State → Type 0
IsLoaded store old state = IsOpened (found_tables store old) store.global_unique state

-- known tables of the store are those of this state, and all others are unchanged
abbrev pub Holds : Store → Outside → Outside → State → Type 0
Holds store old new state = (told : Option Tables) × Tells told state × IsReturned (Some store.db) told old.stores.stored new.stores.stored

-- the same, and they are known at the end if the tables of the store were known at the start
abbrev pub HoldsTold : Store → Outside → Outside → State → Type 0
HoldsTold store old new state = (told : Option Tables) × (IsSome (found_tables store old) → IsSome told)
    × Tells told state × IsReturned (Some store.db) told old.stores.stored new.stores.stored

-- the tables of the store have this fault
pub record IsBadStore (store : Store) (old : Outside) (fault : OpenFault) : Type 0 where
  pub of_tables : IsOfTables fault
  pub refused : IsUnopened (found_tables store old) store.global_unique fault

-- a fault of the store's tables was said, and nothing else was used
pub record NamesFault (store : Store) (old new : Outside) : Type 0 where
  pub fault : OpenFault
  pub bad : IsBadStore store old fault
  pub said : Gains old.streams.errors new.streams.errors (fault_line fault)
  pub unused : IsUnused old new

-- the store failed, which was said, and nothing else was used
pub record NamesFailure (old new : Outside) : Type 0 where
  pub failed : StoreFailed old new
  pub said : Gains old.streams.errors new.streams.errors (fault_line Keeper)
  pub unused : IsUnused old new

-- what was to be said of the opening could not be, and nothing else was used
pub record FailsToSay (store : Store) (old new : Outside) : Type 0 where
  pub failed : Failed old.streams.errors new.streams.errors
  pub fault : OpenFault
  pub cause : IsBadStore store old fault ⊎ ((fault ≡ Keeper) × StoreFailed old new)
  pub front : GainsFront old.streams.errors new.streams.errors (fault_line fault)
  pub unused : IsUnused old new
