-- What is known of the tables of a keeper of pools, and what an opener knows of those under each path.
use Rattle.std.specs.Prelude.{◌≡◌, ℕ, Bool, bytes_eq, List, [], ◌∷◌, Option, Some, None, if◌then◌else◌, option_map}
use Rattle.pool_keeper.specs.declared.tables.PoolTables.{PoolTables}
use Rattle.pool_keeper.specs.Stored.{empty_tables}

-- ---- a keeper

-- the tables are the known ones, if any are known
abbrev pub IsTold : Option PoolTables → PoolTables → Type 0
IsTold None tables = Unit {0}
IsTold (Some told) tables = told ≡ tables

-- ---- an opener

-- the entry is one of the path
abbrev pub is_under : List ℕ → List ℕ × PoolTables → Bool
is_under path entry = bytes_eq entry.0 path

-- the tables under a path: those of its first entry, or without one the empty tables
abbrev pub tables_at : List (List ℕ × PoolTables) → List ℕ → PoolTables
tables_at [] path = empty_tables
tables_at (entry ∷ rest) path = if is_under path entry then entry.1 else tables_at rest path

-- the tables of a keeper that is started: the empty ones without a path, and else those that are known to be there
abbrev pub started : Option (List (List ℕ × PoolTables)) → Option (List ℕ) → Option PoolTables
started stored None = Some empty_tables
started stored (Some path) = option_map (λ entries. tables_at entries path) stored

-- if tables are known, those under other paths are as before
abbrev pub StayBeside : List ℕ → Option (List (List ℕ × PoolTables)) → Option (List (List ℕ × PoolTables)) → Type 0
StayBeside path None new = Unit {0}
StayBeside path (Some old) None = ⊥
StayBeside path (Some old) (Some new) = (other : List ℕ) → ¬ (other ≡ path) → tables_at new other ≡ tables_at old other

-- if tables are known, those under this path are the known ones, if any are known
abbrev pub AreGiven : List ℕ → Option PoolTables → Option (List (List ℕ × PoolTables)) → Type 0
AreGiven path told None = Unit {0}
AreGiven path None (Some new) = Unit {0}
AreGiven path (Some told) (Some new) = tables_at new path ≡ told

-- what is under each path after a keeper was given back, by the path of the one that is out: nothing changes if none is out, or
-- one without a path
abbrev pub IsReturned : Option (Option (List ℕ)) → Option PoolTables → Option (List (List ℕ × PoolTables)) → Option (List (List ℕ × PoolTables)) → Type 0
IsReturned None told old new = new ≡ old
IsReturned (Some None) told old new = new ≡ old
IsReturned (Some (Some path)) told old new = AreGiven path told new × StayBeside path old new
