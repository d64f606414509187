-- What pools over a keeper keep, and how their list of accepted changes grows.
use Rattle.std.specs.Prelude.{◌≡◌, ℕ, Bool, true, false, List, fold, Option}
use Rattle.history_lock.specs.Replies.{grown}
use Rattle.number_pools.specs.declared.calls.PoolCall.{PoolCall}
use Rattle.number_pools.specs.declared.calls.PoolReply.{PoolReply}
use Rattle.number_pools.specs.declared.calls.PoolReply.TheVariants.{Made, Gone, Claimed, ChangedRange, ChangedMember, OneRange, OneMember, Ranges, Members, Numbers, Page, Refused}
use Rattle.number_pools.specs.Machines.{kind_of}
use Rattle.number_pools.specs.Rows.{Pools}
use Rattle.number_pools.specs.Steps.{plain_pool_step}
use Rattle.pool_keeper.specs.declared.tables.PoolTables.{PoolTables}
use Rattle.pool_keeper.specs.Stored.{Tells}

-- the pools as they were opened, as they are, the accepted changes from the first, each with its caller, and the keeper
pub record Kept (K : Type 0) : Type 0 where
  pub opening : Pools
  pub state : Pools
  pub log : List (ℕ × PoolCall)
  pub keeper : K

-- the pools after calls, one after another
abbrev pub replay : Pools → List (ℕ × PoolCall) → Pools
replay s log = fold (λ p entry. (plain_pool_step p entry.1).0) s log

-- the accepted changes after a reply
abbrev pub logged : List (ℕ × PoolCall) → ℕ × PoolCall → PoolReply → List (ℕ × PoolCall)
logged log entry reply = grown (kind_of reply) entry log

-- the pools are what the accepted changes lead to, and known tables are theirs
pub record IsWhole (opening state : Pools) (log : List (ℕ × PoolCall)) (told : Option PoolTables) : Type 0 where
  pub replayed : state ≡ replay opening log
  pub tells : Tells told state

-- ---- as a lock sees them

-- the pools, and whether the tables of their keeper are known: once known, they stay known
pub record Seen : Type 0 where
  pub pools : Pools
  pub tells : Bool

abbrev pub seen_step : Seen → PoolCall → Seen × PoolReply
seen_step s call = (record { pools = (plain_pool_step s.pools call).0; tells = s.tells }, (plain_pool_step s.pools call).1)

-- the plain answers in whose place a fault may be reported: the accepted changes, which a keeper has to store
abbrev pub is_change : PoolReply → Bool
is_change (Made range) = true
is_change Gone = true
is_change (Claimed members) = true
is_change (ChangedRange range) = true
is_change (ChangedMember member) = true
is_change (OneRange range) = false
is_change (OneMember member) = false
is_change (Ranges rows) = false
is_change (Members rows) = false
is_change (Numbers numbers) = false
is_change (Page query count members) = false
is_change (Refused why) = false
