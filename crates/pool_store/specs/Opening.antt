-- The opening of pools over the store that a command names, or else in memory: what they represent, what they leave in the store, and what is
-- left if the opening is refused.
use Rattle.std.specs.Prelude.{◌≡◌, ℕ, List, Option, Some, None, is_some}
use Rattle.ipam_keeper.specs.Keeping.{Rose}
use Rattle.machine_command.specs.Outside.{Stores}
use Rattle.pool_keeper.specs.declared.tables.PoolTables.{PoolTables}
use Rattle.pool_keeper.specs.Keeping.{IsReturned, started, tables_at}
use Rattle.pool_keeper.specs.Stored.{Tells}
use Rattle.pool_opening.specs.declared.faults.PoolFault.{PoolFault}
use Rattle.pool_opening.specs.declared.faults.PoolFault.TheVariants.{Keeper}
use Rattle.pool_register.specs.Kept.{Seen}
use Rattle.pool_register.specs.Opened.{IsOpened, IsUnopened}

-- the tables under each path, if they are known
abbrev pub StoredPools : Type 0
StoredPools = Option (List (List ℕ × PoolTables))

-- these are pools that the tables of the path represent; and its tables are known if those are
pub record IsLoaded (path : Option (List ℕ)) (stored : StoredPools) (s : Seen) : Type 0 where
  pub pools : IsOpened (started stored path) s.pools
  pub tells : s.tells ≡ is_some (started stored path)

-- the tables of the path are those of the pools, if they are known; all others are unchanged
pub record Holds (path : Option (List ℕ)) (old new : StoredPools) (s : Seen) : Type 0 where
  pub told : Option PoolTables
  pub tells : is_some told ≡ s.tells
  pub are : Tells told s.pools
  pub returned : IsReturned (Some path) told old new

-- if tables are known, those under each path are unchanged
abbrev pub AreSame : StoredPools → StoredPools → Type 0
AreSame None new = Unit {0}
AreSame (Some old) None = ⊥
AreSame (Some old) (Some new) = (path : List ℕ) → tables_at new path ≡ tables_at old path

-- an opening was refused for this: a fault of the tables is one of the known ones, that the store failed was counted, and known tables
-- are unchanged
pub record IsRefusedOpening (path : Option (List ℕ)) (old new : Stores PoolTables) (fault : PoolFault) : Type 0 where
  pub cause : IsUnopened (started old.stored path) fault
  pub failed : fault ≡ Keeper → Rose old.faults new.faults
  pub same : AreSame old.stored new.stored
