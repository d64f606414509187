-- What follows the workers' end.
use Rattle.std.specs.Prelude.{◌≡◌, ◌+◌, ◌≤◌, ◌⊎◌, ℕ, List, length}
use Rattle.ipam_edge.specs.Faults.{Rose}
use Rattle.history_lock.specs.Replay.{replay}
use Rattle.http_lanes.specs.declared.listening.Listening.{Listening}
use Rattle.http_lanes.specs.declared.listening.Listening.TheVariants.{Whole, Broken}
use Rattle.machine_session.specs.Protocols.{Protocol}
use Rattle.machine_server.specs.History.{IsServedBy}
use Rattle.machine_command.specs.Outside.{IsRaised, Stored, Stores}
use Rattle.machine_command.specs.Openers.{OpenerMeaning}
use Rattle.machine_serving.specs.declared.ending.Served.{Served}
use Rattle.machine_serving.specs.Views.{ListenerView}

-- the lock was closed, and the machine went back: it has one history from this opening state. `lends` says what was stored when the machine
-- was opened, and `none_left` that none of the workers' lanes, which were so many, has an accept left
pub record IsFinished {S C A B W E Q T F : Type 0} (P : Protocol S C A B W E) (U : OpenerMeaning Q T S F) (asked : Q) (lends : Stored T → Type 0) (opening : S) (base faults_old : ℕ) (new : Stores T) (before after : ListenerView) (none_left : Type 0) (hired : ℕ) (came : Listening) (served : Served) : Type 0 where
  pub history : List (ℕ × C)
  -- the machine's count of faults
  pub counted : ℕ
  pub one_history : IsServedBy P opening base counted before.returned after.returned none_left history
  pub raised : IsRaised faults_old counted new.faults
  pub entries : served.entries ≡ length history
  pub holds : (first : Stored T) → lends first → U.holds asked first new.stored (replay P.step opening history)
  pub came_back : length after.returned ≡ length before.returned + hired
  pub lanes : after.lanes ≡ before.lanes
  pub bound : after.bound ≡ before.bound
  pub later : before.faults ≤ after.faults
  -- the listening was whole if all lanes were handed out and none failed
  pub whole : served.listening ≡ Whole → (came ≡ Whole) × (after.faults ≡ before.faults)
  pub broken : served.listening ≡ Broken → (came ≡ Broken) ⊎ Rose before.faults after.faults
