-- What a plan says of a call: what the plain step leads to, and the change of stored pools that it makes.
use Rattle.std.specs.Prelude.{◌≡◌, ◌≢◌, ℕ, ◌+◌, ◌≤◌, length, List, [], ◌∷◌, Some, None, Contains}
use Rattle.history_lock.specs.Replies.{plain}
use Rattle.ipam_data.specs.Checks.{most_spent}
use Rattle.ipam_data.specs.RowList.{last_next}
use Rattle.number_pools.specs.declared.rows.NumberRange.{NumberRange}
use Rattle.number_pools.specs.declared.rows.Member.{Member}
use Rattle.number_pools.specs.declared.calls.TheConstants.{MOST_RANGES, MOST_MEMBERS}
use Rattle.number_pools.specs.declared.calls.PoolCall.{PoolCall}
use Rattle.number_pools.specs.declared.calls.PoolReply.{PoolReply}
use Rattle.number_pools.specs.declared.calls.PoolReply.TheVariants.{Made, Gone, Claimed, ChangedRange, ChangedMember, Refused as RefusedReply}
use Rattle.number_pools.specs.Machines.{kind_of}
use Rattle.number_pools.specs.Rows.{Pools}
use Rattle.number_pools.specs.Steps.{plain_pool_step, with_edited_member, with_edited_range, with_made, with_range, without_member, without_range}
use Rattle.pool_rows.specs.Held.{Held, KeepsItsKind, KeepsItsNumber}
use Rattle.pool_keeper.specs.declared.tables.PoolChange.{PoolChange}
use Rattle.pool_register.specs.declared.planned.Update.{Update}
use Rattle.pool_register.specs.declared.planned.Update.TheVariants.{AddRange, CutRange, CutMember, Claim, EditRange, EditMember}
use Rattle.pool_register.specs.declared.planned.Planned.{Planned}
use Rattle.pool_register.specs.declared.planned.Planned.TheVariants.{Refused, Read, Change}

-- with these members after all others, each of which spends an item of the log
abbrev pub with_members : Pools → List Member → Pools
with_members s made = with_made s made (length made)

-- ---- what an update does

-- the pools after it
abbrev pub updated : Pools → Update → Pools
updated s (AddRange range) = with_range s range
updated s (CutRange id) = without_range s id
updated s (CutMember id) = without_member s id
updated s (Claim made) = with_members s made
updated s (EditRange range) = with_edited_range s range
updated s (EditMember m) = with_edited_member s m

-- the reply that gives it
abbrev pub reply_of : Update → PoolReply
reply_of (AddRange range) = Made range
reply_of (CutRange id) = Gone
reply_of (CutMember id) = Gone
reply_of (Claim made) = Claimed made
reply_of (EditRange range) = ChangedRange range
reply_of (EditMember m) = ChangedMember m

-- the change that makes no rows, cuts none and has none in the place of another
abbrev pub no_change : Pools → PoolChange
no_change s = record {
  next_range = s.ranges.next;
  next_member = s.members.next;
  new_ranges = [];
  new_members = [];
  cut_range = None;
  cut_member = None;
  changed_range = None;
  changed_member = None;
}

-- the change of stored pools that it makes
abbrev pub change_of : Pools → Update → PoolChange
change_of s (AddRange range) = record (no_change s) { next_range = s.ranges.next + 1; new_ranges = range ∷ [] }
change_of s (CutRange id) = record (no_change s) { cut_range = Some id }
change_of s (CutMember id) = record (no_change s) { cut_member = Some id }
change_of s (Claim made) = record (no_change s) { next_member = s.members.next + length made; new_members = made }
change_of s (EditRange range) = record (no_change s) { changed_range = Some range }
change_of s (EditMember m) = record (no_change s) { changed_member = Some m }

-- ---- which updates can be made

-- the range has the next id, and there is room for it
pub record CanAddRange (s : Pools) (range : NumberRange) : Type 0 where
  pub id : range.id ≡ s.ranges.next
  pub few : length s.ranges.rows + 1 ≤ MOST_RANGES
  pub ids : s.ranges.next + 1 ≤ last_next
  pub log : s.spent + 1 ≤ most_spent

-- no member is of the range
pub record CanCutRange (s : Pools) (id : ℕ) : Type 0 where
  pub unused : (m : Member) → Contains s.members.rows m → m.range ≢ id
  pub log : s.spent + 1 ≤ most_spent

-- the members have these ids, one after another
abbrev pub AreFrom : ℕ → List Member → Type 0
AreFrom id [] = Unit {0}
AreFrom id (m ∷ ms) = (m.id ≡ id) × AreFrom (id + 1) ms

-- the members have the next ids, and there is room for them
pub record CanClaim (s : Pools) (made : List Member) : Type 0 where
  pub id : AreFrom s.members.next made
  pub few : length s.members.rows + length made ≤ MOST_MEMBERS
  pub ids : s.members.next + length made ≤ last_next
  pub log : s.spent + length made ≤ most_spent

-- the range is in the place of one of its kind
pub record CanEditRange (s : Pools) (range : NumberRange) : Type 0 where
  pub keeps : KeepsItsKind s range
  pub log : s.spent + 1 ≤ most_spent

-- the member is in the place of one that holds its number
pub record CanEditMember (s : Pools) (m : Member) : Type 0 where
  pub keeps : KeepsItsNumber s m
  pub log : s.spent + 1 ≤ most_spent

abbrev pub CanUpdate : Pools → Update → Type 0
CanUpdate s (AddRange range) = CanAddRange s range
CanUpdate s (CutRange id) = CanCutRange s id
CanUpdate s (CutMember id) = s.spent + 1 ≤ most_spent
CanUpdate s (Claim made) = CanClaim s made
CanUpdate s (EditRange range) = CanEditRange s range
CanUpdate s (EditMember m) = CanEditMember s m

-- there is room in memory for it
abbrev pub HasRoom : Held → Update → Type 0
HasRoom held (AddRange range) = 1 ≤ held.range_room
HasRoom held (CutRange id) = Unit {0}
HasRoom held (CutMember id) = Unit {0}
HasRoom held (Claim made) = (length made ≤ held.member_room) × (length made ≤ held.key_room)
HasRoom held (EditRange range) = 1 ≤ held.range_room
HasRoom held (EditMember m) = 1 ≤ held.member_room

-- ---- a plan

-- the plan is one of what a call leads to
abbrev pub IsPlannedAs : Pools → Pools × PoolReply → Planned → Type 0
IsPlannedAs s step (Refused why) = step ≡ (s, RefusedReply why)
IsPlannedAs s step (Read reply) = (step ≡ (s, reply)) × (kind_of reply ≡ plain)
IsPlannedAs s step (Change update) = (step ≡ (updated s update, reply_of update)) × CanUpdate s update

-- the plan is that of the call
abbrev pub IsPlanned : Pools → PoolCall → Planned → Type 0
IsPlanned s call planned = IsPlannedAs s (plain_pool_step s call) planned
