-- What a worker has before and after its work, and what it served, read against one history.
use Rattle.std.specs.Prelude.{◌≡◌, ◌≤◌, ◌<◌, ℕ, List, [], length, Option, Some, IfSome, slice_index_or}
use Rattle.atomic_table.specs.Seated.{TableId}
use Rattle.ipam_listen.specs.Connections.{Connection}
use Rattle.history_lock.specs.Seats.{SeatView}
use Rattle.http_lanes.specs.Served.{AreServed}
use Rattle.machine_session.specs.Protocols.{Protocol}
use Rattle.machine_session.specs.Told.{IsLater, answers_in, standing_of}

-- the seat was v and is w, and it served all known connections of the lane: their answers are a talk in what it has seen now
pub record HasServedSeat {S C A B W E : Type 0} (P : Protocol S C A B W E) (v w : SeatView S C) (told : Option (List Connection)) : Type 0 where
  pub connections : List Connection
  pub told_are : IfSome told (λ all. all ≡ connections)
  pub later : IsLater v w
  pub served : AreServed (answers_in P w.opening w.seen w.number) connections (standing_of v) (standing_of w)

-- a worker with a seat of the lock z, whose lane has handed out no connection yet, if they are known
pub record IsReady {S C L : Type 0} (told : L → Option (List Connection)) (z : TableId) (seat : Option (SeatView S C)) (lane : L) : Type 0 where
  pub now : SeatView S C
  pub has : seat ≡ Some now
  pub lock : now.lock ≡ z
  pub fresh : IfSome (told lane) (λ connections. connections ≡ [])

-- a worker was so and is so: its seat served the connections of its lane, which has no accept left
pub record HasWorked {S C A B W E L : Type 0} (P : Protocol S C A B W E) (told : L → Option (List Connection)) (accepts faults : L → ℕ) (old : Option (SeatView S C)) (lane_old : L) (new : Option (SeatView S C)) (lane_new : L) : Type 0 where
  pub before : SeatView S C
  pub after : SeatView S C
  pub had : old ≡ Some before
  pub has : new ≡ Some after
  pub served : HasServedSeat P before after (told lane_new)
  pub none_left : accepts lane_new ≡ 0
  pub later : faults lane_old ≤ faults lane_new

-- each of them, with its seat and its lane
abbrev pub AllHaveWorked : {S C A B W E L X : Type 0} → Protocol S C A B W E → (L → Option (List Connection)) → (L → ℕ) → (L → ℕ) → (X → Option (SeatView S C)) → (X → L) → List X → List X → Type 0
AllHaveWorked {X = X} P told accepts faults seat lane old new =
    (i : ℕ) (w : X) → i < length old
    → HasWorked P told accepts faults (seat (slice_index_or old i w)) (lane (slice_index_or old i w)) (seat (slice_index_or new i w)) (lane (slice_index_or new i w))
