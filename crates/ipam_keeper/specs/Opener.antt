-- What an opener in memory holds.
use Rattle.std.specs.Prelude.{ℕ, ◌<◌, List, [], ◌∷◌, Option, Some, None, if◌then◌else◌}
use Rattle.stored_tables.specs.declared.tables.Tables.{Tables}
use Rattle.stored_tables.specs.Order.{AreTables}
use Rattle.ipam_keeper.specs.Keeping.{is_under}

-- the tables under each path, the numbers of the calls of each keeper that fail, the path of the keeper that is out, if one is, and
-- how many calls of the keepers that were given back had failed
pub record Opened : Type 0 where
  pub stored : List (List ℕ × Tables)
  pub fails : List ℕ
  pub lent : Option (Option (List ℕ))
  pub faults : ℕ

-- all tables are in order
abbrev pub AllTables : List (List ℕ × Tables) → Type 0
AllTables [] = Unit {0}
AllTables (entry ∷ rest) = AreTables entry.1 × AllTables rest

-- with these tables under a path, in the place of its first entry or else after all
abbrev pub kept_at : List (List ℕ × Tables) → List ℕ → Tables → List (List ℕ × Tables)
kept_at [] path tables = (path, tables) ∷ []
kept_at (entry ∷ rest) path tables = if is_under path entry then (path, tables) ∷ rest else entry ∷ kept_at rest path tables

-- with the tables of the keeper that was given back under its path, if it has one
abbrev pub returned : List (List ℕ × Tables) → Option (Option (List ℕ)) → Tables → List (List ℕ × Tables)
returned stored None tables = stored
returned stored (Some None) tables = stored
returned stored (Some (Some path)) tables = kept_at stored path tables

-- there is room for one entry more while a keeper with a path is out
abbrev pub HasRoomFor : Option (Option (List ℕ)) → ℕ → ℕ → Type 0
HasRoomFor None count room = Unit {0}
HasRoomFor (Some None) count room = Unit {0}
HasRoomFor (Some (Some path)) count room = count < room

-- with the keeper of this path, or of none, out
abbrev pub lending : Opened → Option (List ℕ) → Opened
lending opened path = record { stored = opened.stored; fails = opened.fails; lent = Some path; faults = opened.faults }
