-- Numbers over a history of calls: no call gives out or records a number that an earlier call gave out or recorded, unless a call between gave
-- it back.
use Rattle.std.specs.Prelude.{◌≡◌, ◌≢◌, ◌⊎◌, ℕ, ◌<◌, Contains, List, [], ◌∷◌, Some, take, slice_get}
use Rattle.ipam_data.specs.RowList.{row_at}
use Rattle.number_pools.specs.declared.calls.PoolCall.{PoolCall}
use Rattle.number_pools.specs.declared.calls.PoolCall.TheVariants.{CutMember}
use Rattle.number_pools.specs.declared.calls.PoolReply.TheVariants.{Gone}
use Rattle.number_pools.specs.declared.rows.PoolKind.{PoolKind}
use Rattle.number_pools.specs.declared.rows.PoolKind.TheVariants.{Asn}
use Rattle.number_pools.specs.declared.rows.NumberRange.{NumberRange}
use Rattle.number_pools.specs.declared.rows.Member.{Member}
use Rattle.number_pools.specs.Rows.{Pools, range_id}
use Rattle.number_pools.specs.Lawful.{IsLawfulPools}
use Rattle.number_pools.specs.Steps.{plain_pool_step}

-- the state after these calls, one by one
abbrev pub replay : Pools → List PoolCall → Pools
replay s [] = s
replay s (call ∷ calls) = replay (plain_pool_step s call).0 calls

-- the member exists after the call, and none with its id existed before: a claim gave its number out, or the number was chosen and recorded
abbrev pub IsGiven : Pools → PoolCall → Member → Type 0
IsGiven s call x = Contains (plain_pool_step s call).0.members.rows x × ((y : Member) → Contains s.members.rows y → y.id ≢ x.id)

-- the range of this id gives out ASNs
abbrev pub IsOfAsns : Pools → ℕ → Type 0
IsOfAsns s id = (r : NumberRange) × (row_at range_id s.ranges.rows id ≡ Some r) × (r.kind ≡ Asn)

-- a call strictly between two places gave back the number of the member with this id
pub record IsGivenBack (s : Pools) (history : List PoolCall) (i j n : ℕ) : Type 0 where
  pub place : ℕ
  pub after : i < place
  pub before : place < j
  pub kind : PoolKind
  pub there : slice_get history place ≡ Some (CutMember kind n)
  pub accepted : (plain_pool_step (replay s (take place history)) (CutMember kind n)).1 ≡ Gone

-- a number that a call of a history gave out or recorded, and one that a later call did, are two numbers, if both are of one range (as a group of
-- VLANs is), or of any two ranges of ASNs, unless a call between the two gave the first one back
abbrev pub NumbersNeverMeet : Type 0
NumbersNeverMeet = (s : Pools) (history : List PoolCall) (i j : ℕ) (one other : PoolCall) (x y : Member) → IsLawfulPools s
    → i < j → slice_get history i ≡ Some one → slice_get history j ≡ Some other
    → IsGiven (replay s (take i history)) one x → IsGiven (replay s (take j history)) other y
    → (x.range ≡ y.range) ⊎ (IsOfAsns (plain_pool_step (replay s (take i history)) one).0 x.range × IsOfAsns (plain_pool_step (replay s (take j history)) other).0 y.range)
    → (x.number ≢ y.number) ⊎ IsGivenBack s history i j x.id
