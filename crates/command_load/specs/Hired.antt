-- What a worker has before its claims and after them.
use Rattle.std.specs.Prelude.{◌≡◌, ◌<◌, ◌≤◌, ◌-◌, ℕ, List, [], ◌∷◌, length, true, Some, IfSome, slice_index_or}
use Rattle.atomic_table.specs.Seated.{TableId}
use Rattle.history_lock.specs.Seats.{SeatView, IsSameSeat}
use Rattle.ipam_data.specs.declared.calls.Call.{Call}
use Rattle.register_core.specs.Machines.{Seen}
use Rattle.command_load.specs.Notes.{IsNoted}
use Rattle.command_load.specs.declared.workers.Claimer.{Claimer}

-- a seat as contracts see it
abbrev pub Caller : Type 0
Caller = SeatView Seen Call

-- the greatest number of an address of IPv4
abbrev pub last_of_v4 : ℕ
last_of_v4 = 4294967295

-- the caller of this seat made claims alone, and this is what they led to
abbrev pub Notes : Caller → ℕ → ℕ → ℕ → Type 0
Notes seat claimed least greatest = IsNoted true last_of_v4 seat claimed least greatest

-- a worker of the lock z that has its seat, through which no claim was made yet
pub record IsHired {K : Type 0} (z : TableId) (w : Claimer K) : Type 0 where
  pub seat : Caller
  pub has : w.seat ≡ Some seat
  pub lock : seat.lock ≡ z
  pub weight : seat.weight ≡ 1
  -- no seat was joined to it
  pub ended : seat.ended ≡ []
  pub fresh : Notes seat 0 last_of_v4 0

-- a worker of the lock z after its claims; if it got its share, its tally is what they led to
pub record IsDone {K : Type 0} (z : TableId) (w : Claimer K) : Type 0 where
  pub seat : Caller
  pub has : w.seat ≡ Some seat
  pub lock : seat.lock ≡ z
  pub weight : seat.weight ≡ 1
  pub ended : seat.ended ≡ []
  pub noted : w.tally.claimed ≡ w.share → Notes seat w.tally.claimed w.tally.least w.tally.greatest
  pub few : w.tally.claimed ≤ w.share

-- a worker was so and is so: it made claims through its seat, and if it got its share its tally is what they led to
pub record HasClaimed {K : Type 0} (old new : Claimer K) : Type 0 where
  pub before : Caller
  pub after : Caller
  pub had : old.seat ≡ Some before
  pub has : new.seat ≡ Some after
  pub same : IsSameSeat before after
  pub share : new.share ≡ old.share
  pub few : new.tally.claimed ≤ new.share
  pub noted : Notes before 0 last_of_v4 0 → new.tally.claimed ≡ new.share → Notes after new.tally.claimed new.tally.least new.tally.greatest

-- each of them
abbrev pub AllHaveClaimed : {K : Type 0} → List (Claimer K) → List (Claimer K) → Type 0
AllHaveClaimed {K} old new = (i : ℕ) (w : Claimer K) → i < length old → HasClaimed (slice_index_or old i w) (slice_index_or new i w)

-- the seats of hired workers have numbers one after the other, the greatest first
abbrev pub AreNumberedDown : {K : Type 0} → ℕ → List (Claimer K) → Type 0
AreNumberedDown top [] = Unit {0}
AreNumberedDown top (w ∷ ws) = IfSome w.seat (λ seat. seat.number ≡ top) × AreNumberedDown (top - 1) ws

-- the number of the first seat that is split off, one at a time
abbrev pub top_number : ℕ
top_number = 65535
