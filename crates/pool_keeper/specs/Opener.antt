-- What an opener of keepers of pools in memory holds.
use Rattle.std.specs.Prelude.{ℕ, ◌<◌, List, [], ◌∷◌, Option, Some, None, if◌then◌else◌}
use Rattle.pool_keeper.specs.declared.tables.PoolTables.{PoolTables}
use Rattle.pool_keeper.specs.Keeping.{is_under}

-- the tables under each path, the numbers of the calls of each keeper that fail, the path of the keeper that is out, if one is, and
-- how many calls of the keepers that were given back had failed
pub record Opened : Type 0 where
  pub stored : List (List ℕ × PoolTables)
  pub fails : List ℕ
  pub lent : Option (Option (List ℕ))
  pub faults : ℕ

-- with these tables under a path, in the place of its first entry or else after all
abbrev pub kept_at : List (List ℕ × PoolTables) → List ℕ → PoolTables → List (List ℕ × PoolTables)
kept_at [] path tables = (path, tables) ∷ []
kept_at (entry ∷ rest) path tables = if is_under path entry then (path, tables) ∷ rest else entry ∷ kept_at rest path tables

-- with the tables of the keeper that was given back under its path, if it has one
abbrev pub returned : List (List ℕ × PoolTables) → Option (Option (List ℕ)) → PoolTables → List (List ℕ × PoolTables)
returned stored None tables = stored
returned stored (Some None) tables = stored
returned stored (Some (Some path)) tables = kept_at stored path tables

-- there is room for one entry more while a keeper with a path is out
abbrev pub HasRoomFor : Option (Option (List ℕ)) → ℕ → ℕ → Type 0
HasRoomFor None count room = Unit {0}
HasRoomFor (Some None) count room = Unit {0}
HasRoomFor (Some (Some path)) count room = count < room

-- with the keeper of this path, or of none, out
abbrev pub lending : Opened → Option (List ℕ) → Opened
lending opened path = record { stored = opened.stored; fails = opened.fails; lent = Some path; faults = opened.faults }
