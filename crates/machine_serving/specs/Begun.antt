-- What exists before the workers start, or why nobody is served.
use Rattle.std.specs.Prelude.{◌≡◌, ◌+◌, ◌≤◌, ◌<◌, ◌⊎◌, ℕ, List, [], Option, length}
use Rattle.ipam_edge.specs.Faults.{Rose}
use Rattle.atomic_table.specs.Seated.{TableId}
use Rattle.history_lock.specs.Seats.{SeatView}
use Rattle.ipam_listen.specs.Connections.{Connection}
use Rattle.http_lanes.specs.declared.listening.Listening.{Listening}
use Rattle.http_lanes.specs.Listened.{IsListening}
use Rattle.machine_session.specs.Protocols.{Protocol}
use Rattle.machine_server.specs.Hired.{AreFresh}
use Rattle.command_streams.specs.Streams.{Told}
use Rattle.machine_command.specs.Outside.{Stored, Stores}
use Rattle.machine_command.specs.Openers.{OpenerMeaning}
use Rattle.machine_serving.specs.declared.ending.Unserved.{Unserved}
use Rattle.machine_serving.specs.declared.ending.Unserved.TheVariants.{Opening, Memory, Place}
use Rattle.machine_serving.specs.Serve.{IsBoundBy, IsLeft, Serving}
use Rattle.machine_serving.specs.Views.{ListenerView, ListeningFailed, NobodyCame}

-- workers were hired for the lanes that were handed out, each with a seat of the lock z; none has served a connection yet
pub record IsManned {S C A B W E L X : Type 0} (P : Protocol S C A B W E) (told : L → Option (List Connection)) (serving : Serving) (before now : ListenerView) (z : TableId) (seat : SeatView S C) (seat_of : X → Option (SeatView S C)) (lane_of : X → L) (hired : List X) (came : Listening) : Type 0 where
  pub seated : (seat.lock ≡ z) × (seat.weight + length hired ≡ 65536)
  pub first : (seat.ended ≡ []) × (seat.seen ≡ []) × (seat.faults ≡ 0)
  pub crew : AreFresh P told seat.opening seat.base z seat_of lane_of hired
  pub bound : IsBoundBy serving now
  pub lanes : now.lanes ≡ before.lanes + length hired
  pub returned : now.returned ≡ before.returned
  -- as many lanes were handed out as were wanted, and the listener did not fail; or fewer were handed out, and it failed
  pub heard : IsListening ((length hired ≡ serving.workers) × (now.faults ≡ before.faults)) ((length hired < serving.workers) × Rose before.faults now.faults) came
  pub later : before.faults ≤ now.faults

-- the listener could not be bound: it failed, and handed out no lane
abbrev pub HasNoPlace : ListenerView → ListenerView → Type 0
HasNoPlace before after = ListeningFailed before after × NobodyCame before after

-- nobody was served: the opening was refused; or memory ran out; or it could not bind. Only then the listener was used
abbrev pub IsUnserved : {Q T S F : Type 0} → OpenerMeaning Q T S F → Q → Stores T → Stores T → ListenerView → ListenerView → Unserved F → Type 0
IsUnserved U asked old new before after (Opening fault) = U.refuses asked old new fault × (after ≡ before)
IsUnserved U asked old new before after Memory = IsLeft U asked old.stored new.stored × (after ≡ before)
IsUnserved U asked old new before after Place = IsLeft U asked old.stored new.stored × HasNoPlace before after

-- the opener's count rose only with a fault that says so, or if it could not bind
abbrev pub IsCalm : {F : Type 0} → (F → Type 0) → ℕ → ℕ → Unserved F → Type 0
IsCalm fails old new (Opening fault) = fails fault ⊎ (new ≡ old)
IsCalm fails old new Memory = new ≡ old
IsCalm fails old new Place = Unit {0}

-- what is said if nobody was served: why the opening was refused, and nothing else
abbrev pub IsUnservedSaid : {F : Type 0} → (F → Told → Told → ℕ → Type 0) → Unserved F → Told → Told → ℕ → Type 0
IsUnservedSaid says (Opening fault) old new status = says fault old new status
IsUnservedSaid says Memory old new status = (status ≡ 5) × (new ≡ old)
IsUnservedSaid says Place old new status = (status ≡ 3) × (new ≡ old)

-- what is said with the status of out of memory is no fault that says that the opener failed
abbrev pub IsSayable : {F : Type 0} → (F → Type 0) → Unserved F → Type 0
IsSayable fails (Opening fault) = ¬ fails fault
IsSayable fails Memory = Unit {0}
IsSayable fails Place = Unit {0}
