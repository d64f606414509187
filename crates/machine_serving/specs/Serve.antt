-- What a run of the command `serve` promises: a machine that was opened is served to all that connect.
use Rattle.std.specs.Prelude.{◌≡◌, ◌+◌, ◌++◌, ◌≤◌, ◌<◌, ◌⊎◌, ℕ, List, [], ◌∷◌, length, codes, decimal}
use Rattle.history_lock.specs.Replay.{replay}
use Rattle.ipam_listen.specs.Connections.{binding}
use Rattle.http_lanes.specs.declared.listening.Listening.{Listening}
use Rattle.http_lanes.specs.declared.listening.Listening.TheVariants.{Whole, Broken}
use Rattle.http_lanes.specs.Listened.{IsListening}
use Rattle.machine_session.specs.Protocols.{Protocol}
use Rattle.machine_server.specs.History.{IsServedBy}
use Rattle.command_streams.specs.Streams.{EndsWith, NeverRises}
use Rattle.machine_command.specs.Outside.{NoCountFalls, Outside, Stored}
use Rattle.machine_command.specs.Openers.{OpenerMeaning}
use Rattle.machine_command.specs.Session.{IsRefused}
use Rattle.machine_serving.specs.Views.{ListenerView, ListeningFailed, NobodyCame, NoneFailed}

-- what the arguments ask for: where to listen, by how many workers, for how many connections of each
pub record Serving : Type 0 where
  pub place : List ℕ
  pub workers : ℕ
  pub connections : ℕ

abbrev pub serving : List ℕ → ℕ → ℕ → Serving
serving place workers connections = record { place = place; workers = workers; connections = connections }

-- as many lanes were handed out as workers were asked for
abbrev pub AllCame : Serving → ListenerView → ListenerView → Type 0
AllCame s before after = after.lanes ≡ before.lanes + s.workers

-- it is bound to the place of the words, and each lane may accept their number of connections
abbrev pub IsBoundBy : Serving → ListenerView → Type 0
IsBoundBy s after = after.bound ≡ binding s.place s.connections

-- the line that says how many changes were accepted
abbrev pub entries_line : ℕ → List ℕ
entries_line entries = codes "entries " ++ decimal entries ++ 10 ∷ []

-- the status of a listening that ended so, if nothing else fails
abbrev pub listening_status : Listening → ℕ
listening_status Whole = 0
listening_status Broken = 3

-- the machine was served at the place of the words: all that is known of the lanes is out of one history of so many changes
pub record ServesStore {S C A B W E Q T F : Type 0} (P : Protocol S C A B W E) (U : OpenerMeaning Q T S F) (asked : Q) (s : Serving) (old new : Outside T) (before after : ListenerView) (entries : ℕ) : Type 0 where
  pub bound : IsBoundBy s after
  pub opening : S
  pub loaded : U.loads asked old.stores.stored opening
  pub history : List (ℕ × C)
  -- all answers of all connections are out of the one history, which has their changes, in order, and no others; each lane that was given
  -- back reports the connections that were served; if all lanes were handed out none has an accept left; and no more answers report a fault than the
  -- opener's count rose, as far as that goes
  pub served : IsServedBy P opening old.stores.faults new.stores.faults before.returned after.returned (AllCame s before after) history
  pub entries_are : entries ≡ length history
  -- the store has the history's replay
  pub holds : U.holds asked old.stores.stored new.stores.stored (replay P.step opening history)

-- all that were handed out were served, and the count of the changes was printed, as far as that could be: with status 0 if as many lanes were
-- handed out as were wanted and none failed, else with status 3. Nothing is said
pub record IsServed {S C A B W E Q T F : Type 0} (P : Protocol S C A B W E) (U : OpenerMeaning Q T S F) (asked : Q) (s : Serving) (old new : Outside T) (before after : ListenerView) (status : ℕ) : Type 0 where
  pub entries : ℕ
  pub serves : ServesStore P U asked s old new before after entries
  pub listening : Listening
  pub heard : IsListening (AllCame s before after × NoneFailed before after) (ListeningFailed before after) listening
  pub said : EndsWith old.streams.output new.streams.output (entries_line entries) (listening_status listening) status
  pub silent : new.streams.errors ≡ old.streams.errors

-- the store was left: no machine was opened, or one was given back unchanged
abbrev pub IsLeft : {Q T S F : Type 0} → OpenerMeaning Q T S F → Q → Stored T → Stored T → Type 0
IsLeft {S = S} U asked old new = (new ≡ old) ⊎ ((state : S) × U.loads asked old state × U.holds asked old new state)

-- memory ran out before anybody was served: nothing was said, and the listener was not used
pub record HasNoMemory {Q T S F : Type 0} (U : OpenerMeaning Q T S F) (asked : Q) (old new : Outside T) (before after : ListenerView) (status : ℕ) : Type 0 where
  pub is : status ≡ 5
  pub streams : new.streams ≡ old.streams
  pub left : IsLeft U asked old.stores.stored new.stores.stored
  pub idle : after ≡ before

-- the listener could not be bound to the place: nothing was said, and nobody was served
pub record LacksPlace {Q T S F : Type 0} (U : OpenerMeaning Q T S F) (asked : Q) (old new : Outside T) (before after : ListenerView) (status : ℕ) : Type 0 where
  pub is : status ≡ 3
  pub streams : new.streams ≡ old.streams
  pub left : IsLeft U asked old.stores.stored new.stores.stored
  pub failed : ListeningFailed before after
  pub nobody : NobodyCame before after

-- the outcome: all that were handed out were served; or the opening was refused, and the listener not used; or there was no memory; or no place
abbrev pub IsServeRun : {S C A B W E Q T F : Type 0} → Protocol S C A B W E → OpenerMeaning Q T S F → Q → Serving → Outside T → Outside T → ListenerView → ListenerView → ℕ → Type 0
IsServeRun P U asked s old new before after status =
    IsServed P U asked s old new before after status ⊎ (IsRefused U asked old new status × (after ≡ before))
    ⊎ HasNoMemory U asked old new before after status ⊎ LacksPlace U asked old new before after status

-- a run of `serve`
pub record IsServe {S C A B W E Q T F : Type 0} (P : Protocol S C A B W E) (U : OpenerMeaning Q T S F) (asked : Q) (s : Serving) (old new : Outside T) (before after : ListenerView) (status : ℕ) : Type 0 where
  pub run : IsServeRun P U asked s old new before after status
  -- the input is not read
  pub unread : new.streams.input ≡ old.streams.input
  -- every lane that was handed out was given back
  pub lanes_back : length after.returned + before.lanes ≡ length before.returned + after.lanes
  -- if a lane was handed out, the listener was bound to the place of the words, with their number of connections
  pub bound : before.lanes < after.lanes → IsBoundBy s after
  -- no count of faults falls
  pub later : NoCountFalls old new
  pub listener_later : before.faults ≤ after.faults
  -- 5: none rose
  pub quiet : status ≡ 5 → NeverRises old.streams new.streams × (new.stores.faults ≡ old.stores.faults) × (after ≡ before)
