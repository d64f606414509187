-- Stored pools: the tables that represent pools, and what a change does to tables.
use Rattle.std.specs.Prelude.{◌≡◌, ℕ, ◌==◌, List, [], ◌∷◌, ◌++◌, Option, Some, None, if◌then◌else◌}
use Rattle.number_pools.specs.Rows.{Pools, member_id, range_id}
use Rattle.pool_keeper.specs.declared.tables.PoolTables.{PoolTables}
use Rattle.pool_keeper.specs.declared.tables.PoolChange.{PoolChange}

-- no rows, and both next ids are 1
abbrev pub empty_tables : PoolTables
empty_tables = record { next_range = 1; next_member = 1; ranges = []; members = [] }

-- without the first row of the id, if there is an id and such a row
abbrev pub without_first : {T : Type 0} → (T → ℕ) → Option ℕ → List T → List T
without_first id None rows = rows
without_first id (Some n) [] = []
without_first id (Some n) (x ∷ xs) = if id x == n then xs else x ∷ without_first id (Some n) xs

-- with this row in the place of the first one of its id, if there is a row and such a one
abbrev pub with_changed : {T : Type 0} → (T → ℕ) → Option T → List T → List T
with_changed id None rows = rows
with_changed id (Some row) [] = []
with_changed id (Some row) (x ∷ xs) = if id x == id row then row ∷ xs else x ∷ with_changed id (Some row) xs

-- the tables after a change: the rows of its cuts go, its changed rows are in their places, its new rows are after all others, and its next
-- ids are set
abbrev pub changed : PoolChange → PoolTables → PoolTables
changed change tables = record {
  next_range = change.next_range;
  next_member = change.next_member;
  ranges = with_changed range_id change.changed_range (without_first range_id change.cut_range tables.ranges) ++ change.new_ranges;
  members = with_changed member_id change.changed_member (without_first member_id change.cut_member tables.members) ++ change.new_members;
}

-- the tables that represent pools; log items are not stored
abbrev pub tables_of : Pools → PoolTables
tables_of s = record { next_range = s.ranges.next; next_member = s.members.next; ranges = s.ranges.rows; members = s.members.rows }

-- if tables are known, they are those of the pools
abbrev pub Tells : Option PoolTables → Pools → Type 0
Tells None s = Unit {0}
Tells (Some tables) s = tables ≡ tables_of s
