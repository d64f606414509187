-- What is held in memory of pools.
use Rattle.std.specs.Prelude.{◌≡◌, ℕ, ◌+◌, Some}
use Rattle.ipam_data.specs.RowList.{appended, row_at}
use Rattle.number_pools.specs.declared.rows.NumberRange.{NumberRange}
use Rattle.number_pools.specs.declared.rows.Member.{Member}
use Rattle.number_pools.specs.Rows.{Pools, member_id, range_id}

-- the pools, and how many more ranges, members and numbers of members can be put without taking memory
pub record Held : Type 0 where
  pub pools : Pools
  pub range_room : ℕ
  pub member_room : ℕ
  pub key_room : ℕ

-- with one member more, which spends an item of the log
abbrev pub with_member : Pools → Member → Pools
with_member s m = record { ranges = s.ranges; members = appended member_id s.members m; spent = s.spent + 1 }

-- there is a range of this one's id, and it is of its kind
pub record KeepsItsKind (s : Pools) (range : NumberRange) : Type 0 where
  pub old : NumberRange
  pub there : row_at range_id s.ranges.rows range.id ≡ Some old
  pub kind : old.kind ≡ range.kind

-- there is a member of this one's id, of its range and with its number
pub record KeepsItsNumber (s : Pools) (m : Member) : Type 0 where
  pub old : Member
  pub there : row_at member_id s.members.rows m.id ≡ Some old
  pub range : old.range ≡ m.range
  pub number : old.number ≡ m.number
