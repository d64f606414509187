-- What an edit owes: the row has what was given, under its id, and all else stays. So no number changes hands.
use Rattle.std.specs.Prelude.{◌≡◌, ◌≢◌, ℕ, List, Option, Some}
use Rattle.ipam_data.specs.RowList.{row_at}
use Rattle.number_pools.specs.declared.calls.PoolCall.TheVariants.{EditMember, EditRange}
use Rattle.number_pools.specs.declared.calls.PoolRefusal.{PoolRefusal}
use Rattle.number_pools.specs.declared.calls.PoolReply.{PoolReply}
use Rattle.number_pools.specs.declared.calls.PoolReply.TheVariants.{ChangedMember, ChangedRange, Refused}
use Rattle.number_pools.specs.declared.rows.PoolKind.{PoolKind}
use Rattle.number_pools.specs.declared.rows.NumberRange.{NumberRange}
use Rattle.number_pools.specs.declared.rows.Member.{Member}
use Rattle.number_pools.specs.Rows.{Pools, member_id, range_id}
use Rattle.number_pools.specs.Steps.{edited_member, edited_range, plain_pool_step}

-- this range of the kind has what was given, and is answered; all other ranges and all members are as before
pub record EditedRange (s : Pools) (kind : PoolKind) (id : ℕ) (name : Option (List ℕ)) (first last : Option ℕ) (done : Pools × PoolReply) : Type 0 where
  pub old : NumberRange
  pub there : row_at range_id s.ranges.rows id ≡ Some old
  pub is_of : old.kind ≡ kind
  pub told : done.1 ≡ ChangedRange (edited_range old name first last)
  pub stored : row_at range_id done.0.ranges.rows id ≡ Some (edited_range old name first last)
  pub others : (n : ℕ) → n ≢ id → row_at range_id done.0.ranges.rows n ≡ row_at range_id s.ranges.rows n
  pub members : done.0.members ≡ s.members

-- this member has the name that was given, the same number and the same range, and is answered; all other members and all ranges are as before
pub record EditedMember (s : Pools) (id : ℕ) (name : Option (List ℕ)) (done : Pools × PoolReply) : Type 0 where
  pub old : Member
  pub there : row_at member_id s.members.rows id ≡ Some old
  pub told : done.1 ≡ ChangedMember (edited_member old name)
  pub stored : row_at member_id done.0.members.rows id ≡ Some (edited_member old name)
  pub others : (n : ℕ) → n ≢ id → row_at member_id done.0.members.rows n ≡ row_at member_id s.members.rows n
  pub ranges : done.0.ranges ≡ s.ranges

-- an edit that is not refused edits the row that was asked for, and it alone
pub record EditsAreAsAsked : Type 0 where
  pub ranges : (s : Pools) (kind : PoolKind) (id : ℕ) (name : Option (List ℕ)) (first last : Option ℕ)
      → ((why : PoolRefusal) → ¬ ((plain_pool_step s (EditRange kind id name first last)).1 ≡ Refused why))
      → EditedRange s kind id name first last (plain_pool_step s (EditRange kind id name first last))
  pub members : (s : Pools) (kind : PoolKind) (id : ℕ) (name : Option (List ℕ))
      → ((why : PoolRefusal) → ¬ ((plain_pool_step s (EditMember kind id name)).1 ≡ Refused why))
      → EditedMember s id name (plain_pool_step s (EditMember kind id name))
