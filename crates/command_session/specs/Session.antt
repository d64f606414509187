-- What a run of the command `session` promises of each status: one connection over the input and the output, with its own
-- register, over the store that the words name, or else in memory.
use Rattle.std.specs.Prelude.{◌≡◌, ℕ, ◌+◌, ◌≤◌, ◌⊎◌, List, [], IfSome}
use Rattle.ipam_data.specs.declared.calls.Call.{Call}
use Rattle.ipam_data.specs.State.{State}
use Rattle.ipam_data.specs.Steps.{plain_step}
use Rattle.ipam_keeper.specs.Keeping.{last_count}
use Rattle.http_session.specs.Requests.{AreAllItems, Item}
use Rattle.http_session.specs.Steps.{Grown}
use Rattle.http_session.specs.Talk.{Answer, May, Run, texts}
use Rattle.http_session.specs.Ends.{IsEnd, IsReadAsNeeded}
use Rattle.http_session.specs.declared.session.SessionEnd.{SessionEnd}
use Rattle.http_session.specs.declared.session.SessionEnd.TheVariants.{Closed, SourceFault, SinkFault, Memory}
use Rattle.history_lock.specs.Replay.{replay}
use Rattle.machine_session.specs.Owned.{Counted, plain_of_owned}
use Rattle.rest_ipam.specs.Answered.{answers_kept, answers_plainly, fresh, opened}
use Rattle.command_words.specs.declared.asked.Store.{Store}
use Rattle.command_streams.specs.Streams.{Gains, Failed, NeverRises}
use Rattle.command_store.specs.Outside.{Outside, StoreFailed, IsUnused, NoCountFalls}
use Rattle.command_store.specs.Opening.{IsLoaded, HoldsTold, NamesFault, NamesFailure, FailsToSay}

-- what was read is what a session of the loaded register served, and the output gained what this end says
pub record Serves (store : Store) (old new : Outside) (end : SessionEnd) : Type 0 where
  pub state : State
  pub loaded : IsLoaded store old state
  pub bytes : List ℕ
  -- the register after the last answer, its keeper's count of faults, and how many answers reported that the keeper failed
  pub last : Counted State Call
  pub grown : Grown old.streams.input.bytes new.streams.input.bytes [] bytes
  -- the answers are the plain register's, from the loaded state, but if the keeper failed a change or memory ran out in the register ..
  pub ends : IsEnd answers_kept (fresh state) last old.streams.output.bytes new.streams.output.bytes bytes new.streams.input.bytes end
  -- .. of which the first is reported at most as often as the opener's count rose, as far as that goes ..
  pub bounded : (old.stores.faults + last.told ≤ new.stores.faults) ⊎ (last_count ≤ new.stores.faults)
  -- .. and if it did not rise they are all the plain register's, out of memory aside
  pub plain : (¬ StoreFailed old new)
      → IsEnd answers_plainly (opened state) (plain_of_owned plain_step last.now) old.streams.output.bytes new.streams.output.bytes bytes new.streams.input.bytes end
  pub needed : IsReadAsNeeded bytes
  -- .. and it rose only if a call was answered by a failed keeper
  pub calm : last.told ≡ 0 → new.stores.faults ≡ old.stores.faults
  -- the store has what was accepted, and its tables are known if they were known at first
  pub holds : HoldsTold store old new (replay plain_step state last.now.log)
  -- nothing is said
  pub silent : new.streams.errors ≡ old.streams.errors

-- the output gained the texts of the answers that may be given, one after another, to all requests of the input, up to the first that
-- closes
abbrev pub Prints : {S : Type 0} → May S → S → Outside → Outside → Type 0
Prints {S} may first old new =
    IfSome old.streams.input.bytes (λ bytes. (items : List Item) × (answers : List Answer) × (last : S)
    × AreAllItems bytes (Unit {0}) items × Run may first items answers last
    × Gains old.streams.output new.streams.output (texts items answers))

-- the session closed, with its answers to all requests
pub record Closes (store : Store) (old new : Outside) : Type 0 where
  pub count : ℕ
  pub serves : Serves store old new (Closed count)
  pub prints : Prints answers_kept (fresh serves.state) old new
  pub plain : (¬ StoreFailed old new) → Prints answers_plainly (opened serves.state) old new

-- the input failed, with the answers to all requests that lay whole in the bytes read on the output
pub record Starves (store : Store) (old new : Outside) : Type 0 where
  pub failed : Failed old.streams.input new.streams.input
  pub serves : Serves store old new SourceFault

-- the output failed, with a prefix of the last answer on it
pub record Breaks (store : Store) (old new : Outside) : Type 0 where
  pub failed : Failed old.streams.output new.streams.output
  pub serves : Serves store old new SinkFault

-- a call was answered by a failed keeper
pub record HasFailedCall (store : Store) (old new : Outside) (end : SessionEnd) : Type 0 where
  pub serves : Serves store old new end
  pub failed : 1 ≤ serves.last.told

-- a run of `session` over this store
pub record IsSession (store : Store) (old new : Outside) (status : ℕ) : Type 0 where
  -- the status is one of these
  pub statuses : (status ≡ 0) ⊎ (status ≡ 1) ⊎ (status ≡ 3) ⊎ (status ≡ 4) ⊎ (status ≡ 5)
  -- 0: the answers to all requests are on the output
  pub done : status ≡ 0 → Closes store old new
  -- 1: the opening was refused for what the store holds
  pub refused : status ≡ 1 → NamesFault store old new
  -- 3: the input failed, and each answer was written; or the output failed; or what was to be said of the opening could not be
  pub fault : status ≡ 3 → Starves store old new ⊎ Breaks store old new ⊎ FailsToSay store old new
  -- 4: the opening was refused since the store failed
  pub store_fault : status ≡ 4 → NamesFailure old new
  -- 5: nothing was used; or before a request reached the register, or after its reply was made. Nothing was said
  pub memory : status ≡ 5 → (new.streams.errors ≡ old.streams.errors) × (IsUnused old new ⊎ Serves store old new Memory)
  -- no count of faults falls
  pub later : NoCountFalls old new
  -- 5: the count of no stream rose, and the opener's only if a call was answered by a failed keeper
  pub quiet : status ≡ 5 → NeverRises old.streams new.streams × ((new.stores.faults ≡ old.stores.faults) ⊎ HasFailedCall store old new Memory)
