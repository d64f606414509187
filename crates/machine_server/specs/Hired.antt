-- What a hired worker has, before and after its work.
use Rattle.std.specs.Prelude.{◌≡◌, ◌-◌, ℕ, length, List, [], ◌∷◌, All, Option, Some, IfSome, map}
use Rattle.atomic_table.specs.Seated.{TableId}
use Rattle.ipam_listen.specs.Connections.{Connection}
use Rattle.history_lock.specs.Seats.{SeatView}
use Rattle.http_lanes.specs.Listened.{returned_as}
use Rattle.http_lanes.specs.Served.{AreServed}
use Rattle.machine_session.specs.Protocols.{Protocol}
use Rattle.machine_session.specs.Told.{answers_in, newcomer, standing_of}
use Rattle.machine_server.specs.History.{AreLanesOf, AreNumberedFrom, IsShift, Shift, all_faults_of, ended_of}

-- a worker of the lock z that has served some connections, or none yet, of a machine that was opened so
pub record IsHired {S C A B W E L : Type 0} (P : Protocol S C A B W E) (told : L → Option (List Connection)) (opening : S) (base : ℕ) (z : TableId) (had : Option (SeatView S C)) (lane : L) : Type 0 where
  pub seat : SeatView S C
  pub has : had ≡ Some seat
  pub lock : seat.lock ≡ z
  pub weight : seat.weight ≡ 1
  pub opening_is : seat.opening ≡ opening
  pub base_is : seat.base ≡ base
  -- no seat was joined to it
  pub ended : seat.ended ≡ []
  pub connections : List Connection
  pub told_are : IfSome (told lane) (λ all. all ≡ connections)
  pub served : AreServed (answers_in P opening seat.seen seat.number) connections newcomer (standing_of seat)

-- it has served none yet
pub record IsFresh {S C L : Type 0} (told : L → Option (List Connection)) (had : Option (SeatView S C)) (lane : L) : Type 0 where
  pub seat : SeatView S C
  pub has : had ≡ Some seat
  pub none_seen : seat.seen ≡ []
  pub no_faults : seat.faults ≡ 0
  pub none_told : IfSome (told lane) (λ all. all ≡ [])

-- the seats of hired workers have numbers one after the other, the greatest first
abbrev pub AreNumberedDown : {S C X : Type 0} → (X → Option (SeatView S C)) → ℕ → List X → Type 0
AreNumberedDown seat top [] = Unit {0}
AreNumberedDown seat top (w ∷ ws) = IfSome (seat w) (λ v. v.number ≡ top) × AreNumberedDown seat (top - 1) ws

-- the number of the first seat that is split off, one at a time
abbrev pub top_number : ℕ
top_number = 65535

-- workers as they work: each has served some connections, or none yet
pub record AreHired {S C A B W E L X : Type 0} (P : Protocol S C A B W E) (told : L → Option (List Connection)) (opening : S) (base : ℕ) (z : TableId) (seat : X → Option (SeatView S C)) (lane : X → L) (workers : List X) : Type 0 where
  pub hired : All (λ w. IsHired P told opening base z (seat w) (lane w)) workers
  pub numbers : AreNumberedDown seat top_number workers

-- workers before their work
pub record AreFresh {S C A B W E L X : Type 0} (P : Protocol S C A B W E) (told : L → Option (List Connection)) (opening : S) (base : ℕ) (z : TableId) (seat : X → Option (SeatView S C)) (lane : X → L) (workers : List X) : Type 0 where
  pub hired : AreHired P told opening base z seat lane workers
  pub fresh : All (λ w. IsFresh told (seat w) (lane w)) workers

-- some workers were dismissed, whose lanes are these: the seat that is left knows what they did; if no worker's lane had an accept
-- left, which is the fact `none_left`, none of these has
pub record HasDismissed {S C A B W E L : Type 0} (P : Protocol S C A B W E) (told : L → Option (List Connection)) (accepts : L → ℕ) (none_left : Type 0) (first : ℕ) (opening : S) (seat : SeatView S C) (lanes : List L) : Type 0 where
  pub shifts : List (Shift C)
  pub tell : AreLanesOf (map (returned_as told accepts) lanes) shifts
  pub ended : seat.ended ≡ map ended_of shifts
  pub answered : All (IsShift P opening seat.seen) shifts
  pub faults : seat.faults ≡ all_faults_of shifts
  pub numbers : AreNumberedFrom first shifts
  pub many : length lanes ≡ length shifts
  pub spent : none_left → All (λ r. r.accepts ≡ 0) (map (returned_as told accepts) lanes)
