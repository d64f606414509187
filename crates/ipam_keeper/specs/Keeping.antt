-- What is known of a keeper's tables, what an opener knows of those under each path, and what their counts of faults do.
use Rattle.std.specs.Prelude.{◌≡◌, ℕ, ◌+◌, ◌<◌, ◌≤◌, ◌⊎◌, Bool, bytes_eq, List, [], ◌∷◌, Option, Some, None, if◌then◌else◌, option_map}
use Rattle.stored_tables.specs.declared.tables.Tables.{Tables}
use Rattle.stored_tables.specs.Order.{empty_tables}

-- ---- counts

-- the last value of a count, which it can't pass
abbrev pub last_count : ℕ
last_count = 18446744073709551615

-- the count rose, or it is at its last value
abbrev pub Rose : ℕ → ℕ → Type 0
Rose old new = (old < new) ⊎ (last_count ≤ new)

-- the count rose by so much, or up to its last value
abbrev pub IsRaised : ℕ → ℕ → ℕ → Type 0
IsRaised old more new = (new ≡ old + more) ⊎ ((old ≤ new) × (new ≡ last_count) × (last_count ≤ old + more))

-- ---- a keeper

-- the tables are the known ones, if any are known
abbrev pub IsTold : Option Tables → Tables → Type 0
IsTold None tables = Unit {0}
IsTold (Some told) tables = told ≡ tables

-- these tables, whichever were kept
abbrev pub replaced_by : Tables → Tables → Tables
replaced_by tables kept = tables

-- ---- an opener

-- the entry is one of the path
abbrev pub is_under : List ℕ → List ℕ × Tables → Bool
is_under path entry = bytes_eq entry.0 path

-- the tables under a path: those of its first entry, or without one the empty tables
abbrev pub tables_at : List (List ℕ × Tables) → List ℕ → Tables
tables_at [] path = empty_tables
tables_at (entry ∷ rest) path = if is_under path entry then entry.1 else tables_at rest path

-- the tables of a keeper that is started: the empty ones without a path, and else those that are known to be there
abbrev pub started : Option (List (List ℕ × Tables)) → Option (List ℕ) → Option Tables
started stored None = Some empty_tables
started stored (Some path) = option_map (λ entries. tables_at entries path) stored

-- if tables are known, those under other paths are as before
abbrev pub StayBeside : List ℕ → Option (List (List ℕ × Tables)) → Option (List (List ℕ × Tables)) → Type 0
StayBeside path None new = Unit {0}
StayBeside path (Some old) None = ⊥
StayBeside path (Some old) (Some new) = (other : List ℕ) → ¬ (other ≡ path) → tables_at new other ≡ tables_at old other

-- if tables are known, those under this path are the known ones, if any are known
abbrev pub AreGiven : List ℕ → Option Tables → Option (List (List ℕ × Tables)) → Type 0
AreGiven path told None = Unit {0}
AreGiven path None (Some new) = Unit {0}
AreGiven path (Some told) (Some new) = tables_at new path ≡ told

-- what is under each path after a keeper was given back, by the path of the one that is out: nothing changes if none is out, or
-- one without a path
abbrev pub IsReturned : Option (Option (List ℕ)) → Option Tables → Option (List (List ℕ × Tables)) → Option (List (List ℕ × Tables)) → Type 0
IsReturned None told old new = new ≡ old
IsReturned (Some None) told old new = new ≡ old
IsReturned (Some (Some path)) told old new = AreGiven path told new × StayBeside path old new
