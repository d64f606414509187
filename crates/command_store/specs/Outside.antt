-- What is seen of all objects that a command is given, before it and after it: its streams, and its opener of stores.
use Rattle.std.specs.Prelude.{◌≡◌, ℕ, ◌⊎◌, List, Option, Some, None}
use Rattle.stored_tables.specs.declared.tables.Tables.{Tables}
use Rattle.ipam_keeper.specs.Keeping.{tables_at}
use Rattle.command_streams.specs.Streams.{Streams, SomeFailed, NeverRises}
use Rattle.machine_command.specs.Outside as any

-- what is known of an opener: the tables under each path, if they are known, and its count of faults
abbrev pub Stores : Type 0
Stores = any.Stores Tables

-- what is known of the opener, by the members of its trait
abbrev pub stores : {O : Type 0} → (O → Option (List (List ℕ × Tables))) → (O → ℕ) → O → Stores
stores stored faults opener = any.stores stored faults opener

abbrev pub Outside : Type 0
Outside = any.Outside Tables

abbrev pub outside : Streams → Stores → Outside
outside streams stores = any.outside streams stores

-- the opener failed meanwhile, or a keeper that it took back had failed
abbrev pub StoreFailed : Outside → Outside → Type 0
StoreFailed old new = any.StoreFailed old new

-- if tables are known, those under each path are unchanged
abbrev pub AreSame : Option (List (List ℕ × Tables)) → Option (List (List ℕ × Tables)) → Type 0
AreSame None new = Unit {0}
AreSame (Some old) None = ⊥
AreSame (Some old) (Some new) = (path : List ℕ) → tables_at new path ≡ tables_at old path

-- nothing was read and nothing written, and known tables are unchanged
pub record IsUnused (old new : Outside) : Type 0 where
  pub input : new.streams.input ≡ old.streams.input
  pub output : new.streams.output ≡ old.streams.output
  pub stored : AreSame old.stores.stored new.stores.stored

-- one of the streams or the opener failed meanwhile
abbrev pub AnyFailed : Outside → Outside → Type 0
AnyFailed old new = SomeFailed old.streams new.streams ⊎ StoreFailed old new

-- no count of faults falls
abbrev pub NoCountFalls : Outside → Outside → Type 0
NoCountFalls old new = any.NoCountFalls old new

-- no count of faults rose
pub record NoCountRises (old new : Outside) : Type 0 where
  pub streams : NeverRises old.streams new.streams
  pub stores : new.stores.faults ≡ old.stores.faults
