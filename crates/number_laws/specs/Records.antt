-- What a call that records chosen numbers owes: each item has the number and the name that were asked for, and no member of the pool held the number.
use Rattle.std.specs.Prelude.{◌≡◌, ◌≢◌, ◌⊎◌, ◌↔◌, ℕ, ◌<◌, Bool, Contains, List, Some, length, slice_get}
use Rattle.ipam_data.specs.RowList.{row_at}
use Rattle.number_pools.specs.declared.calls.Chosen.{Chosen}
use Rattle.number_pools.specs.declared.calls.PoolCall.TheVariants.{Record}
use Rattle.number_pools.specs.declared.calls.PoolRefusal.{PoolRefusal}
use Rattle.number_pools.specs.declared.calls.PoolReply.{PoolReply}
use Rattle.number_pools.specs.declared.calls.PoolReply.TheVariants.{Claimed, Refused}
use Rattle.number_pools.specs.declared.rows.PoolKind.{PoolKind}
use Rattle.number_pools.specs.declared.rows.NumberRange.{NumberRange}
use Rattle.number_pools.specs.declared.rows.Member.{Member}
use Rattle.number_pools.specs.Rows.{Pools, range_id}
use Rattle.number_pools.specs.Lawful.{IsLawfulPools}
use Rattle.number_pools.specs.Steps.{plain_pool_step}
use Rattle.number_laws.specs.Claims.{HaveNewIds, IsFreeIn}

-- the item is recorded of this range with its number and its name
abbrev pub IsAsChosen : ℕ → Chosen → Member → Type 0
IsAsChosen id item x = (x.number ≡ item.number) × (x.name ≡ item.name) × (x.range ≡ id)

-- chosen numbers of this range were recorded, with one member for each item
pub record RecordedNumbers (s : Pools) (kind : PoolKind) (id : ℕ) (items : List Chosen) (done : Pools × PoolReply) : Type 0 where
  pub range : NumberRange
  pub there : row_at range_id s.ranges.rows id ≡ Some range
  pub is_of : range.kind ≡ kind
  -- these members are answered, and there are no other new ones
  pub rows : List Member
  pub told : done.1 ≡ Claimed rows
  pub stored : (x : Member) → Contains done.0.members.rows x ↔ (Contains s.members.rows x ⊎ Contains rows x)
  pub many : length rows ≡ length items
  pub each : (k : ℕ) (item : Chosen) (x : Member) → slice_get items k ≡ Some item → slice_get rows k ≡ Some x → IsAsChosen id item x
  -- each number is one of the range that no member of its pool held
  pub free : (x : Member) → Contains rows x → IsFreeIn s range x.number
  pub ids : HaveNewIds s rows

-- a call that records and is not refused records what was chosen
abbrev pub RecordsAreChosen : Type 0
RecordsAreChosen = (s : Pools) (kind : PoolKind) (id : ℕ) (list : Bool) (items : List Chosen) → IsLawfulPools s
    → ((why : PoolRefusal) → ¬ ((plain_pool_step s (Record kind id list items)).1 ≡ Refused why))
    → RecordedNumbers s kind id items (plain_pool_step s (Record kind id list items))
