-- Lawful pools. How many rows there may be is no part of it: calls that would make too many are refused.
use Rattle.std.specs.Prelude.{◌≡◌, ℕ, ◌≤◌, List, Some}
use Rattle.ipam_data.specs.Checks.{most_spent}
use Rattle.ipam_data.specs.RowList.{RowList, row_at, AllAre, AllBelow, IsApart, Rises, last_next}
use Rattle.number_pools.specs.declared.rows.NumberRange.{NumberRange}
use Rattle.number_pools.specs.declared.rows.Member.{Member}
use Rattle.number_pools.specs.Rows.{Pools, member_id, most_of, range_id}
use Rattle.number_pools.specs.Free.{pool_at}

-- ids are from 1, in order and below the next one, which is at least 1 also if there are no rows, and at most the last one
pub record AreNumbered {T : Type 0} (id : T → ℕ) (row_list : RowList T) : Type 0 where
  pub ordered : Rises id 0 row_list.rows
  pub below : AllBelow id row_list.next row_list.rows
  pub next_low : 1 ≤ row_list.next
  pub next_fits : row_list.next ≤ last_next

-- two ranges of one kind and one name
abbrev pub HaveOneName : NumberRange → NumberRange → Type 0
HaveOneName x y = (x.kind ≡ y.kind) × (x.name ≡ y.name)

-- from 1 up to the greatest of its kind
abbrev pub IsInBounds : NumberRange → Type 0
IsInBounds r = (1 ≤ r.first) × (r.first ≤ r.last) × (r.last ≤ most_of r.kind)

-- the member's number is one of its range, which exists
abbrev pub IsInRange : List NumberRange → Member → Type 0
IsInRange ranges m = (r : NumberRange) × (row_at range_id ranges m.range ≡ Some r) × (r.first ≤ m.number) × (m.number ≤ r.last)

-- two members hold one number of one pool
abbrev pub HoldOneNumber : List NumberRange → Member → Member → Type 0
HoldOneNumber ranges x y = (pool_at ranges x ≡ pool_at ranges y) × (x.number ≡ y.number)

-- ranges and members are numbered; names are unique per kind; each range is in its bounds and each member in its range; no two members
-- hold one number of one pool; and no more items of the log are spent than may be
pub record IsLawfulPools (s : Pools) : Type 0 where
  pub ranges : AreNumbered range_id s.ranges
  pub members : AreNumbered member_id s.members
  pub names : IsApart range_id HaveOneName s.ranges.rows
  pub bounds : AllAre IsInBounds s.ranges.rows
  pub within : AllAre (IsInRange s.ranges.rows) s.members.rows
  pub numbers : IsApart member_id (HoldOneNumber s.ranges.rows) s.members.rows
  pub spent : s.spent ≤ most_spent
