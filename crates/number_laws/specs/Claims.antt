-- What claims of numbers owe: a claim returns the least free numbers of its range, and ids that no member had.
use Rattle.std.specs.Prelude.{◌≡◌, ◌≢◌, ◌⊎◌, ◌↔◌, ℕ, ◌<◌, ◌≤◌, Bool, Contains, List, Some, length, slice_get}
use Rattle.ipam_data.specs.RowList.{row_at}
use Rattle.number_pools.specs.declared.calls.PoolCall.TheVariants.{Claim}
use Rattle.number_pools.specs.declared.calls.PoolRefusal.{PoolRefusal}
use Rattle.number_pools.specs.declared.calls.PoolReply.{PoolReply}
use Rattle.number_pools.specs.declared.calls.PoolReply.TheVariants.{Claimed, Refused}
use Rattle.number_pools.specs.declared.rows.PoolKind.{PoolKind}
use Rattle.number_pools.specs.declared.rows.PoolKind.TheVariants.{Asn}
use Rattle.number_pools.specs.declared.rows.NumberRange.{NumberRange}
use Rattle.number_pools.specs.declared.rows.Member.{Member}
use Rattle.number_pools.specs.Rows.{Pools, range_id}
use Rattle.number_pools.specs.Lawful.{IsLawfulPools}
use Rattle.number_pools.specs.Steps.{plain_pool_step}
use Rattle.number_laws.specs.Histories.{IsOfAsns}

-- the member and the range share a pool: the member is one of the range (as of a group of VLANs), or both are of ranges of ASNs
abbrev pub IsOfPool : Pools → NumberRange → Member → Type 0
IsOfPool s r m = (m.range ≡ r.id) ⊎ ((r.kind ≡ Asn) × IsOfAsns s m.range)

-- the number is one of the range, and no member of its pool holds it
pub record IsFreeIn (s : Pools) (r : NumberRange) (n : ℕ) : Type 0 where
  pub low : r.first ≤ n
  pub high : n ≤ r.last
  pub unheld : (m : Member) → Contains s.members.rows m → IsOfPool s r m → m.number ≢ n

-- the members have the least free numbers, each once and in order: member k has the one below which k are free
pub record AreTheLeast (s : Pools) (r : NumberRange) (rows : List Member) : Type 0 where
  pub free : (x : Member) → Contains rows x → IsFreeIn s r x.number
  pub rise : (i j : ℕ) (x y : Member) → slice_get rows i ≡ Some x → slice_get rows j ≡ Some y → i < j → x.number < y.number
  pub none_passed : (x : Member) (n : ℕ) → Contains rows x → IsFreeIn s r n → n < x.number → (y : Member) × Contains rows y × (y.number ≡ n)

-- their ids rise, from the next one on, which is above those of all existing members
pub record HaveNewIds (s : Pools) (rows : List Member) : Type 0 where
  pub next : (x : Member) → Contains rows x → s.members.next ≤ x.id
  pub above : (y : Member) → Contains s.members.rows y → y.id < s.members.next
  pub rise : (i j : ℕ) (x y : Member) → slice_get rows i ≡ Some x → slice_get rows j ≡ Some y → i < j → x.id < y.id

-- a claim of numbers of this range was accepted, with one member for each name
pub record GotNumbers (s : Pools) (kind : PoolKind) (id : ℕ) (names : List (List ℕ)) (done : Pools × PoolReply) : Type 0 where
  pub range : NumberRange
  pub there : row_at range_id s.ranges.rows id ≡ Some range
  pub is_of : range.kind ≡ kind
  -- these members are answered, and there are no other new ones
  pub rows : List Member
  pub told : done.1 ≡ Claimed rows
  pub stored : (x : Member) → Contains done.0.members.rows x ↔ (Contains s.members.rows x ⊎ Contains rows x)
  pub many : length rows ≡ length names
  pub each : (k : ℕ) (name : List ℕ) (x : Member) → slice_get names k ≡ Some name → slice_get rows k ≡ Some x → (x.name ≡ name) × (x.range ≡ id)
  pub least : AreTheLeast s range rows
  pub ids : HaveNewIds s rows

-- a claim that is not refused gets the least free numbers of its range
abbrev pub ClaimsAreNew : Type 0
ClaimsAreNew = (s : Pools) (kind : PoolKind) (id : ℕ) (list : Bool) (names : List (List ℕ)) → IsLawfulPools s
    → ((why : PoolRefusal) → ¬ ((plain_pool_step s (Claim kind id list names)).1 ≡ Refused why))
    → GotNumbers s kind id names (plain_pool_step s (Claim kind id list names))
