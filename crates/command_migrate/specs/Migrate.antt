-- What a run of the command `migrate` promises of each status: the tables of a file, which are of version 1, become those of this program's
-- version, with every range marked as populated or none.
use Rattle.std.specs.Prelude.{◌≡◌, ℕ, ◌⊎◌, ◌++◌, ◌∷◌, [], Bool, List, Option, Some, None, codes, decimal, option_map}
use Rattle.stored_tables.specs.declared.tables.Tables.{Tables}
use Rattle.stored_tables.specs.declared.migration.MigrateFault.{MigrateFault}
use Rattle.stored_tables.specs.declared.migration.MigrateFault.TheVariants as migrate
use Rattle.stored_tables.specs.declared.opening.OpenFault.{OpenFault}
use Rattle.stored_tables.specs.declared.opening.OpenFault.TheVariants.{Keeper, Memory, BadRow, Version}
use Rattle.stored_tables.specs.Migration.{migrated, unmigrated, range_count}
use Rattle.ipam_keeper.specs.Keeping.{Rose, IsTold, started, IsReturned}
use Rattle.command_streams.specs.Streams.{Told, EndsWith, Gains, GainsFront, Failed}
use Rattle.command_store.specs.Outside.{Outside, Stores, StoreFailed, IsUnused, AreSame, NoCountFalls, NoCountRises}
use Rattle.command_store.specs.FaultWords.{fault_line, IsSaid}
use Rattle.command_store.specs.Opening.{NamesFailure}
use Rattle.command_migrate.specs.declared.migrate.MigrateStop.{MigrateStop}
use Rattle.command_migrate.specs.declared.migrate.MigrateStop.TheVariants.{Unread, Refused, Unwritten, Lacking}

-- how many ranges were marked or not, in words
abbrev pub count_text : ℕ → List ℕ
count_text n = codes "migrated " ++ decimal n ++ 10 ∷ []

-- what is said if the file could not be written
abbrev pub unwritten_text : List ℕ
unwritten_text = codes "store: the store could not be written" ++ 10 ∷ []

-- ---- tables that are known or not

-- they can be migrated
pub record AreFit (told : Option Tables) : Type 0 where
  pub tables : Tables
  pub found : IsTold told tables
  pub fit : unmigrated tables ≡ None

-- they have this fault
pub record AreUnfit (told : Option Tables) (fault : MigrateFault) : Type 0 where
  pub tables : Tables
  pub found : IsTold told tables
  pub refused : unmigrated tables ≡ Some fault

-- they could be migrated, and were: they have so many ranges, and known ones became those that the migration gives
pub record AreMigrated (populated : Bool) (old new : Option Tables) (count : ℕ) : Type 0 where
  pub of : AreFit old
  pub count_is : count ≡ range_count of.tables
  pub holds : new ≡ option_map (migrated populated) old

-- why they were not, with the counts of faults before and after
abbrev pub IsStop : Option Tables → ℕ → ℕ → MigrateStop → Type 0
IsStop told before after Unread = Rose before after
IsStop told before after (Refused fault) = AreUnfit told fault
IsStop told before after Unwritten = AreFit told × Rose before after
IsStop told before after Lacking = Unit {0}

-- the file could not be read or not be written
abbrev pub IsFailure : MigrateStop → Type 0
IsFailure Unread = Unit {0}
IsFailure (Refused fault) = ⊥
IsFailure Unwritten = Unit {0}
IsFailure Lacking = ⊥

-- ---- the tables of a file

abbrev pub tables_of_file : List ℕ → Stores → Option Tables
tables_of_file db old = started old.stored (Some db)

-- they could be migrated, and were; those of all other files are unchanged
abbrev pub IsMigrated : List ℕ → Bool → Stores → Stores → ℕ → Type 0
IsMigrated db populated old new count =
    (told : Option Tables) × AreMigrated populated (tables_of_file db old) told count × IsReturned (Some (Some db)) told old.stored new.stored

-- ---- what is said

-- the fault of a migration, as that of an opening
abbrev pub fault_of : MigrateFault → OpenFault
fault_of (migrate.Version n) = Version n
fault_of (migrate.BadRow kind n) = BadRow kind n
fault_of migrate.Memory = Memory

-- why a file was not migrated was said, with its status
abbrev pub IsStopSaid : MigrateStop → Told → Told → ℕ → Type 0
IsStopSaid Unread old new status = IsSaid Keeper old new status
IsStopSaid (Refused fault) old new status = IsSaid (fault_of fault) old new status
IsStopSaid Unwritten old new status = EndsWith old new unwritten_text 4 status
IsStopSaid Lacking old new status = (status ≡ 5) × (new ≡ old)

-- ---- a run

-- the tables are migrated, the number of their ranges is on the output, and nothing was said
pub record PrintsMigrated (db : List ℕ) (populated : Bool) (old new : Outside) : Type 0 where
  pub count : ℕ
  pub done : IsMigrated db populated old.stores new.stores count
  pub printed : Gains old.streams.output new.streams.output (count_text count)
  pub silent : new.streams.errors ≡ old.streams.errors

-- the output failed, with a prefix of the number; the tables are migrated
pub record FailsToPrint (db : List ℕ) (populated : Bool) (old new : Outside) : Type 0 where
  pub failed : Failed old.streams.output new.streams.output
  pub count : ℕ
  pub done : IsMigrated db populated old.stores new.stores count
  pub front : GainsFront old.streams.output new.streams.output (count_text count)
  pub silent : new.streams.errors ≡ old.streams.errors

-- a fault of the file's tables was said, and nothing else was used
pub record NamesUnfit (db : List ℕ) (old new : Outside) : Type 0 where
  pub fault : MigrateFault
  pub bad : AreUnfit (tables_of_file db old.stores) fault
  pub said : Gains old.streams.errors new.streams.errors (fault_line (fault_of fault))
  pub unused : IsUnused old new

-- the tables could be migrated, but the store failed, which was said, and nothing else was used
pub record NamesUnwritten (db : List ℕ) (old new : Outside) : Type 0 where
  pub fit : AreFit (tables_of_file db old.stores)
  pub failed : StoreFailed old new
  pub said : Gains old.streams.errors new.streams.errors unwritten_text
  pub unused : IsUnused old new

-- the text names what stopped the migration: a fault of the tables, or the store that failed when it was read or written
abbrev pub IsToSay : List ℕ → Outside → Outside → List ℕ → Type 0
IsToSay db old new text =
    ((fault : MigrateFault) × AreUnfit (tables_of_file db old.stores) fault × (text ≡ fault_line (fault_of fault)))
    ⊎ (StoreFailed old new × (text ≡ fault_line Keeper))
    ⊎ (AreFit (tables_of_file db old.stores) × StoreFailed old new × (text ≡ unwritten_text))

-- what was to be said could not be, the messages have a prefix of it, and nothing else was used
pub record FailsToSay (db : List ℕ) (old new : Outside) : Type 0 where
  pub failed : Failed old.streams.errors new.streams.errors
  pub text : List ℕ
  pub cause : IsToSay db old new text
  pub front : GainsFront old.streams.errors new.streams.errors text
  pub unused : IsUnused old new

-- known tables are as the start found them; or they are those that the migration gives, and the status is 0 or the output failed
abbrev pub IsWhole : List ℕ → Bool → Outside → Outside → ℕ → Type 0
IsWhole db populated old new status =
    (AreSame old.stores.stored new.stores.stored × ¬ (status ≡ 0))
    ⊎ (((n : ℕ) × IsMigrated db populated old.stores new.stores n) × ((status ≡ 0) ⊎ ((status ≡ 3) × Failed old.streams.output new.streams.output)))

-- a run of `migrate`
pub record IsMigrate (db : List ℕ) (populated : Bool) (old new : Outside) (status : ℕ) : Type 0 where
  pub statuses : (status ≡ 0) ⊎ (status ≡ 1) ⊎ (status ≡ 3) ⊎ (status ≡ 4) ⊎ (status ≡ 5)
  -- 0: the tables are migrated, and the number of their ranges is on the output
  pub done : status ≡ 0 → PrintsMigrated db populated old new
  -- 1: the tables have another version, or a range has another number of texts
  pub refused : status ≡ 1 → NamesUnfit db old new
  -- 3: the output failed, and the tables are migrated; or what was to be said could not be, and known tables are unchanged
  pub fault : status ≡ 3 → FailsToPrint db populated old new ⊎ FailsToSay db old new
  -- 4: the file could not be read or not be written
  pub store_fault : status ≡ 4 → NamesFailure old new ⊎ NamesUnwritten db old new
  -- 5: out of memory. Nothing was printed, nothing said, and known tables are unchanged
  pub memory : status ≡ 5 → IsUnused old new × (new.streams.errors ≡ old.streams.errors)
  -- with each status the input was left alone, and known tables are unchanged or migrated
  pub input : new.streams.input ≡ old.streams.input
  pub whole : IsWhole db populated old new status
  pub later : NoCountFalls old new
  -- 5: no count of faults rose
  pub quiet : status ≡ 5 → NoCountRises old new
