-- The opening of a register over the store that the words name, as what opens a machine is seen: what it represents, what it leaves in the
-- store, and what is left if the opening is refused.
use Rattle.std.specs.Prelude.{◌≡◌, ◌⊎◌, Option, Some, is_some}
use Rattle.command_words.specs.declared.asked.Store.{Store}
use Rattle.ipam_keeper.specs.Keeping.{IsReturned, Rose, started}
use Rattle.machine_command.specs.Outside.{Stored, Stores}
use Rattle.register_core.specs.Machines.{Seen}
use Rattle.register_core.specs.Opened.{IsOpened, IsUnopened}
use Rattle.stored_tables.specs.declared.opening.OpenFault.{OpenFault}
use Rattle.stored_tables.specs.declared.opening.OpenFault.TheVariants.{Keeper}
use Rattle.stored_tables.specs.declared.tables.Tables.{Tables}
use Rattle.stored_tables.specs.Opening.{IsOfTables}
use Rattle.stored_tables.specs.Stored.{Tells}
use Rattle.command_store.specs.Outside.{AreSame}

-- the state is one that the tables of the store represent; and its tables are known if those are
pub record IsLoaded (store : Store) (stored : Stored Tables) (s : Seen) : Type 0 where
  pub opened : IsOpened (started stored store.db) store.global_unique s.state
  pub tells : s.tells ≡ is_some (started stored store.db)

-- the tables of the store are those of the state, if they are known; all others are unchanged
pub record Holds (store : Store) (old new : Stored Tables) (s : Seen) : Type 0 where
  pub told : Option Tables
  pub tells : is_some told ≡ s.tells
  pub are : Tells told s.state
  pub returned : IsReturned (Some store.db) told old new

-- an opening was refused for this: a fault that is said of tables was found in the known ones, that the store failed was counted, which
-- nothing else was, and known tables are unchanged
pub record IsRefusedOpening (store : Store) (old new : Stores Tables) (fault : OpenFault) : Type 0 where
  pub cause : IsOfTables fault → IsUnopened (started old.stored store.db) store.global_unique fault
  pub failed : fault ≡ Keeper → Rose old.faults new.faults
  pub still : (fault ≡ Keeper) ⊎ (new.faults ≡ old.faults)
  pub same : AreSame old.stored new.stored
