-- Pools as a lock sees them: what kind of reply each one is, and which calls are taken.
use Rattle.std.specs.Prelude.{◌≤◌, length}
use Rattle.history_lock.specs.Replies.{ReplyKind, accepted, fault, memory, plain}
use Rattle.number_pools.specs.declared.calls.PoolRefusal.{PoolRefusal}
use Rattle.number_pools.specs.declared.calls.PoolRefusal.TheVariants.{Absent, NameTaken, Bounds, InUse, NoSpace, Outside, Taken, Repeated, Limit, Keeper, Memory}
use Rattle.number_pools.specs.declared.calls.PoolCall.{PoolCall}
use Rattle.number_pools.specs.declared.calls.PoolCall.TheVariants as call
use Rattle.number_pools.specs.declared.calls.PoolReply.{PoolReply}
use Rattle.number_pools.specs.declared.calls.PoolReply.TheVariants.{Made, Gone, Claimed, ChangedRange, ChangedMember, OneRange, OneMember, Ranges, Members, Numbers, Page, Refused}

abbrev pub refusal_kind : PoolRefusal → ReplyKind
refusal_kind (Absent id) = plain
refusal_kind (NameTaken id) = plain
refusal_kind Bounds = plain
refusal_kind (InUse id) = plain
refusal_kind (NoSpace n) = plain
refusal_kind (Outside n) = plain
refusal_kind (Taken n id) = plain
refusal_kind (Repeated n) = plain
refusal_kind (Limit which n) = plain
refusal_kind Keeper = fault
refusal_kind Memory = memory

abbrev pub kind_of : PoolReply → ReplyKind
kind_of (Made range) = accepted
kind_of Gone = accepted
kind_of (Claimed members) = accepted
kind_of (ChangedRange range) = accepted
kind_of (ChangedMember member) = accepted
kind_of (OneRange range) = plain
kind_of (OneMember member) = plain
kind_of (Ranges rows) = plain
kind_of (Members rows) = plain
kind_of (Numbers numbers) = plain
kind_of (Page query count members) = plain
kind_of (Refused why) = refusal_kind why

-- the calls that pools take: a claim has at least one item, and so has a call that records
abbrev pub IsTaken : PoolCall → Type 0
IsTaken (call.AddRange kind name first last) = Unit {0}
IsTaken (call.CutRange kind id) = Unit {0}
IsTaken (call.Ranges kind) = Unit {0}
IsTaken (call.Members kind id) = Unit {0}
IsTaken (call.CutMember kind id) = Unit {0}
IsTaken (call.Available kind id limit) = Unit {0}
IsTaken (call.Claim kind id list names) = 1 ≤ length names
IsTaken (call.Record kind id list items) = 1 ≤ length items
IsTaken (call.OneRange kind id) = Unit {0}
IsTaken (call.OneMember kind id) = Unit {0}
IsTaken (call.EditRange kind id name first last) = Unit {0}
IsTaken (call.EditMember kind id name) = Unit {0}
IsTaken (call.Page kind query) = Unit {0}
