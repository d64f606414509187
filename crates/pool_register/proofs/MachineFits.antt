-- A call of pools is one of a machine.
use Rattle.std.proofs.Common.{◌≡◌, ◌≢◌, ◌↔◌, ℕ, Bool, true, false, List, [], ◌∷◌, Option, Some, None, IsSome, is_some, refl, ap, sym}
use Rattle.history_lock.specs.Replies.{accepted, fault, AnswersAs}
use Rattle.history_lock.specs.Replay.{replay as machine_replay}
use Rattle.number_pools.specs.declared.calls.PoolCall.{PoolCall}
use Rattle.number_pools.specs.declared.calls.PoolRefusal.{PoolRefusal}
use Rattle.number_pools.specs.declared.calls.PoolRefusal.TheVariants.{Absent, NameTaken, Bounds, InUse, NoSpace, Outside, Taken, Repeated, Limit, Keeper, Memory}
use Rattle.number_pools.specs.declared.calls.PoolReply.{PoolReply}
use Rattle.number_pools.specs.declared.calls.PoolReply.TheVariants.{Made, Gone, Claimed, ChangedRange, ChangedMember, OneRange, OneMember, Ranges, Members, Numbers, Page, Refused}
use Rattle.number_pools.specs.Machines.{kind_of, refusal_kind}
use Rattle.number_pools.specs.Rows.{Pools}
use Rattle.number_pools.specs.Steps.{plain_pool_step}
use Rattle.pool_register.specs.Kept.{is_change, replay, seen_step}

-- replay as a lock sees it is that of the pools
pub seen_replay : (s : Pools) (tells : Bool) (log : List (ℕ × PoolCall))
    → machine_replay seen_step (record { pools = s; tells = tells }) log ≡ record { pools = replay s log; tells = tells }
seen_replay s tells [] = refl
seen_replay s tells (entry ∷ log) = seen_replay (plain_pool_step s entry.1).0 tells log

-- a keeper that goes on as before tells as before
pub tells_still : {A : Type 0} (old new : Option A) → IsSome old ↔ IsSome new → is_some new ≡ is_some old
tells_still None None h = refl
tells_still None (Some y) h = let k : false ≡ true = h.1 refl in cc
tells_still (Some x) None h = let k : false ≡ true = h.0 refl in cc
tells_still (Some x) (Some y) h = refl

-- what `act` promises of its answer
abbrev pub IsStep : Pools → Pools → PoolCall → PoolReply → Type 0
IsStep old new called reply = reply ≢ Refused Memory → reply ≢ Refused Keeper → plain_pool_step old called ≡ (new, reply)

told_of : (old new : Pools) (called : PoolCall) (reply : PoolReply) → IsStep old new called reply → reply ≢ Refused Memory → reply ≢ Refused Keeper → reply ≡ (plain_pool_step old called).1
told_of old new called reply h m k = sym (ap (λ (p : Pools × PoolReply). p.1) (h m k))

-- an answer of the kind of an accepted change is one of those in whose place a fault may be told
change_of_kind : (why : PoolRefusal) → refusal_kind why ≡ accepted → false ≡ true
change_of_kind (Absent id) e = cc
change_of_kind (NameTaken id) e = cc
change_of_kind Bounds e = cc
change_of_kind (InUse id) e = cc
change_of_kind (NoSpace n) e = cc
change_of_kind (Outside n) e = cc
change_of_kind (Taken n id) e = cc
change_of_kind (Repeated n) e = cc
change_of_kind (Limit which n) e = cc
change_of_kind Keeper e = cc
change_of_kind Memory e = cc

is_changed : (reply : PoolReply) → kind_of reply ≡ accepted → is_change reply ≡ true
is_changed (Made range) e = refl
is_changed Gone e = refl
is_changed (Claimed members) e = refl
is_changed (ChangedRange range) e = refl
is_changed (ChangedMember member) e = refl
is_changed (OneRange range) e = cc
is_changed (OneMember member) e = cc
is_changed (Ranges rows) e = cc
is_changed (Members rows) e = cc
is_changed (Numbers numbers) e = cc
is_changed (Page query count members) e = cc
is_changed (Refused why) e = change_of_kind why e

-- .. and of a keeper that fails: it was asked to store a change
abbrev pub IsAsked : Pools → PoolCall → PoolReply → Type 0
IsAsked old called reply = reply ≡ Refused Keeper → kind_of (plain_pool_step old called).1 ≡ accepted

pub answers : (old new : Pools) (called : PoolCall) (reply : PoolReply) → IsStep old new called reply → IsAsked old called reply
    → AnswersAs is_change (kind_of reply) reply (plain_pool_step old called).1
answers old new called (Made range) h asked = told_of old new called (Made range) h (λ e. cc) (λ e. cc)
answers old new called Gone h asked = told_of old new called Gone h (λ e. cc) (λ e. cc)
answers old new called (Claimed members) h asked = told_of old new called (Claimed members) h (λ e. cc) (λ e. cc)
answers old new called (ChangedRange range) h asked = told_of old new called (ChangedRange range) h (λ e. cc) (λ e. cc)
answers old new called (ChangedMember member) h asked = told_of old new called (ChangedMember member) h (λ e. cc) (λ e. cc)
answers old new called (OneRange range) h asked = told_of old new called (OneRange range) h (λ e. cc) (λ e. cc)
answers old new called (OneMember member) h asked = told_of old new called (OneMember member) h (λ e. cc) (λ e. cc)
answers old new called (Ranges rows) h asked = told_of old new called (Ranges rows) h (λ e. cc) (λ e. cc)
answers old new called (Members rows) h asked = told_of old new called (Members rows) h (λ e. cc) (λ e. cc)
answers old new called (Numbers numbers) h asked = told_of old new called (Numbers numbers) h (λ e. cc) (λ e. cc)
answers old new called (Page query count members) h asked = told_of old new called (Page query count members) h (λ e. cc) (λ e. cc)
answers old new called (Refused (Absent id)) h asked = told_of old new called (Refused (Absent id)) h (λ e. cc) (λ e. cc)
answers old new called (Refused (NameTaken id)) h asked = told_of old new called (Refused (NameTaken id)) h (λ e. cc) (λ e. cc)
answers old new called (Refused Bounds) h asked = told_of old new called (Refused Bounds) h (λ e. cc) (λ e. cc)
answers old new called (Refused (InUse id)) h asked = told_of old new called (Refused (InUse id)) h (λ e. cc) (λ e. cc)
answers old new called (Refused (NoSpace n)) h asked = told_of old new called (Refused (NoSpace n)) h (λ e. cc) (λ e. cc)
answers old new called (Refused (Outside n)) h asked = told_of old new called (Refused (Outside n)) h (λ e. cc) (λ e. cc)
answers old new called (Refused (Taken n id)) h asked = told_of old new called (Refused (Taken n id)) h (λ e. cc) (λ e. cc)
answers old new called (Refused (Repeated n)) h asked = told_of old new called (Refused (Repeated n)) h (λ e. cc) (λ e. cc)
answers old new called (Refused (Limit which n)) h asked = told_of old new called (Refused (Limit which n)) h (λ e. cc) (λ e. cc)
answers old new called (Refused Keeper) h asked = is_changed (plain_pool_step old called).1 (asked refl)
answers old new called (Refused Memory) h asked = tt

keeper_of : (why : PoolRefusal) → refusal_kind why ≡ fault → why ≡ Keeper
keeper_of (Absent id) e = cc
keeper_of (NameTaken id) e = cc
keeper_of Bounds e = cc
keeper_of (InUse id) e = cc
keeper_of (NoSpace n) e = cc
keeper_of (Outside n) e = cc
keeper_of (Taken n id) e = cc
keeper_of (Repeated n) e = cc
keeper_of (Limit which n) e = cc
keeper_of Keeper e = refl
keeper_of Memory e = cc

-- a reply that tells a fault is that of the keeper
pub fault_told : (reply : PoolReply) → kind_of reply ≡ fault → reply ≡ Refused Keeper
fault_told (Made range) e = cc
fault_told Gone e = cc
fault_told (Claimed members) e = cc
fault_told (ChangedRange range) e = cc
fault_told (ChangedMember member) e = cc
fault_told (OneRange range) e = cc
fault_told (OneMember member) e = cc
fault_told (Ranges rows) e = cc
fault_told (Members rows) e = cc
fault_told (Numbers numbers) e = cc
fault_told (Page query count members) e = cc
fault_told (Refused why) e = ap Refused (keeper_of why e)
