-- What is seen of all objects that a command is given, before it and after it: its streams, and its opener, whose stores have tables of
-- type T.
use Rattle.std.specs.Prelude.{◌≡◌, ◌+◌, ◌≤◌, ◌⊎◌, ℕ, List, Option}
use Rattle.ipam_edge.specs.Faults.{Rose}
use Rattle.history_lock.specs.Machines.{last_count}
use Rattle.command_streams.specs.Streams.{NeverFalls, Streams}

-- the tables under each path, if they are known
abbrev pub Stored : Type 0 → Type 0
Stored T = Option (List (List ℕ × T))

-- the known tables of an opener, and its count of faults
pub record Stores (T : Type 0) : Type 0 where
  pub stored : Stored T
  pub faults : ℕ

-- what is known of the opener, by the members of its trait
abbrev pub stores : {O T : Type 0} → (O → Stored T) → (O → ℕ) → O → Stores T
stores stored faults opener = record { stored = stored opener; faults = faults opener }

pub record Outside (T : Type 0) : Type 0 where
  pub streams : Streams
  pub stores : Stores T

abbrev pub outside : {T : Type 0} → Streams → Stores T → Outside T
outside streams stores = record { streams = streams; stores = stores }

-- the count rose by so much, or up to its last value
abbrev pub IsRaised : ℕ → ℕ → ℕ → Type 0
IsRaised old more new = (new ≡ old + more) ⊎ ((old ≤ new) × (new ≡ last_count) × (last_count ≤ old + more))

-- the opener failed meanwhile, or a machine that it took back had failed
abbrev pub StoreFailed : {T : Type 0} → Outside T → Outside T → Type 0
StoreFailed old new = Rose old.stores.faults new.stores.faults

-- no count of faults falls
pub record NoCountFalls {T : Type 0} (old new : Outside T) : Type 0 where
  pub streams : NeverFalls old.streams new.streams
  pub stores : old.stores.faults ≤ new.stores.faults
