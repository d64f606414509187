-- What a run of the command `serve` promises of each status: a register over the store that the words name, or else in memory, served to
-- all that connect.
use Rattle.std.specs.Prelude.{◌≡◌, ℕ, ◌+◌, ◌≤◌, ◌<◌, ◌⊎◌, List, length}
use Rattle.history_lock.specs.Replay.{replay}
use Rattle.ipam_data.specs.declared.calls.Call.{Call}
use Rattle.ipam_data.specs.State.{State}
use Rattle.ipam_data.specs.Steps.{plain_step}
use Rattle.ipam_listen.specs.Connections.{binding}
use Rattle.machine_serving.specs.Serve.{entries_line}
use Rattle.machine_serving.specs.Views.{ListenerView, ListeningFailed, NobodyCame, NoneFailed}
use Rattle.machine_server.specs.History.{IsServedBy}
use Rattle.rest_ipam.specs.Protocol.{register_protocol}
use Rattle.command_words.specs.declared.asked.Serving.{Serving}
use Rattle.command_streams.specs.Streams.{Gains, GainsFront, Failed}
use Rattle.command_store.specs.Outside.{AreSame, Outside, NoCountFalls, NoCountRises}
use Rattle.command_store.specs.Opening.{IsLoaded, HoldsTold, NamesFault, NamesFailure, FailsToSay}

-- as many lanes were handed out as workers were asked for
abbrev pub AllCame : Serving → ListenerView → ListenerView → Type 0
AllCame serving before after = after.lanes ≡ before.lanes + serving.workers

-- it is bound to the place of the words, and each lane may accept their number of connections
abbrev pub IsBoundBy : Serving → ListenerView → Type 0
IsBoundBy serving after = after.bound ≡ binding serving.bind serving.connections

-- the register of the store was served at the place of the words: all that is known of the lanes is out of one history of so many changes
pub record ServesStore (serving : Serving) (old new : Outside) (before after : ListenerView) (entries : ℕ) : Type 0 where
  pub bound : IsBoundBy serving after
  pub state : State
  pub loaded : IsLoaded serving.store old state
  pub history : List (ℕ × Call)
  -- all answers of all connections are out of the one history, which has their changes, in order, and no others; each lane that was given
  -- back reports the connections that were served; if all lanes were handed out none has an accept left; and no more answers report that the keeper
  -- failed than the opener's count rose, as far as that goes
  pub served : IsServedBy register_protocol state old.stores.faults new.stores.faults before.returned after.returned (AllCame serving before after) history
  pub entries_are : entries ≡ length history
  -- the store has the history's replay, and its tables are known if they were known at first
  pub holds : HoldsTold serving.store old new (replay plain_step state history)
  -- nothing is said
  pub silent : new.streams.errors ≡ old.streams.errors

-- all lanes were handed out and none failed, and the count of the changes is on the output
pub record Counts (serving : Serving) (old new : Outside) (before after : ListenerView) : Type 0 where
  pub all_came : AllCame serving before after
  pub none_failed : NoneFailed before after
  pub entries : ℕ
  pub serves : ServesStore serving old new before after entries
  pub said : Gains old.streams.output new.streams.output (entries_line entries)

-- a lane was not handed out or an accept failed; the count of the changes is on the output all the same
pub record BreaksOff (serving : Serving) (old new : Outside) (before after : ListenerView) : Type 0 where
  pub failed : ListeningFailed before after
  pub entries : ℕ
  pub serves : ServesStore serving old new before after entries
  pub said : Gains old.streams.output new.streams.output (entries_line entries)

-- the output failed, with a prefix of the count on it
pub record FailsToCount (serving : Serving) (old new : Outside) (before after : ListenerView) : Type 0 where
  pub failed : Failed old.streams.output new.streams.output
  pub entries : ℕ
  pub serves : ServesStore serving old new before after entries
  pub front : GainsFront old.streams.output new.streams.output (entries_line entries)

-- nobody was served, nothing was read and nothing written, and known tables are unchanged
pub record IsUnserved (old new : Outside) (before after : ListenerView) : Type 0 where
  pub streams : new.streams ≡ old.streams
  pub stored : AreSame old.stores.stored new.stores.stored
  pub nobody : NobodyCame before after

-- the listener could not be bound to the place: nothing is said, and nobody was served
pub record HasNoPlace (old new : Outside) (before after : ListenerView) : Type 0 where
  pub failed : ListeningFailed before after
  pub unserved : IsUnserved old new before after

-- a run of `serve` with these words
pub record IsServe (serving : Serving) (old new : Outside) (before after : ListenerView) (status : ℕ) : Type 0 where
  -- the status is one of these
  pub statuses : (status ≡ 0) ⊎ (status ≡ 1) ⊎ (status ≡ 3) ⊎ (status ≡ 4) ⊎ (status ≡ 5)
  -- 0: all lanes were handed out, none failed, all were served to their end, and the count of the changes is on the output
  pub done : status ≡ 0 → Counts serving old new before after
  -- 1: the opening was refused for what the store holds; the listener was not used
  pub refused : status ≡ 1 → NamesFault serving.store old new × (after ≡ before)
  -- 3: the listener failed, and the count was printed; or the output failed; or it could not bind; or what was to be said of the
  -- opening could not be
  pub fault : status ≡ 3 → BreaksOff serving old new before after ⊎ FailsToCount serving old new before after
      ⊎ HasNoPlace old new before after ⊎ (FailsToSay serving.store old new × (after ≡ before))
  -- 4: the opening was refused since the store failed; the listener was not used
  pub store_fault : status ≡ 4 → NamesFailure old new × (after ≡ before)
  -- 5: nobody was served, and nothing was said; the listener was not used, so no count of its faults rose
  pub memory : status ≡ 5 → IsUnserved old new before after × (after ≡ before)
  -- the input is not read
  pub unread : new.streams.input ≡ old.streams.input
  -- every lane that was handed out was given back
  pub lanes_back : length after.returned + before.lanes ≡ length before.returned + after.lanes
  -- if a lane was handed out, the listener was bound to the place of the words, with their number of connections
  pub bound : before.lanes < after.lanes → IsBoundBy serving after
  -- no count of faults falls
  pub later : NoCountFalls old new
  pub listener_later : before.faults ≤ after.faults
  -- 5: none rose
  pub quiet : status ≡ 5 → NoCountRises old new
