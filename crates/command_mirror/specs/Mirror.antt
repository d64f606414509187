-- What a run of the command `mirror` promises of each status: a register over the store that the words name, or else in memory, served to an
-- operator over the input and the output, and to readers, who see its published changes.
use Rattle.std.specs.Prelude.{◌≡◌, ◌+◌, ◌++◌, ◌<◌, ◌≤◌, ◌⊎◌, ℕ, List, Some, length}
use Rattle.http_session.specs.declared.session.SessionEnd.{SessionEnd}
use Rattle.http_session.specs.declared.session.SessionEnd.TheVariants.{Closed, SourceFault, SinkFault, Memory}
use Rattle.ipam_data.specs.declared.update.Update.{Update}
use Rattle.ipam_listen.specs.Connections.{Returned, binding}
use Rattle.machine_serving.specs.Views.{ListenerView, ListeningFailed, NoneFailed}
use Rattle.rest_ipam.specs.Answered.{answers_kept, answers_plainly, fresh, opened}
use Rattle.snapshot_operator.specs.Shown.{IsFollowing}
use Rattle.snapshot_rows.specs.Lists.{lists_of}
use Rattle.command_streams.specs.Streams.{Failed, NeverRises}
use Rattle.command_store.specs.Outside.{AreSame, IsUnused, NoCountFalls, NoCountRises, Outside, StoreFailed}
use Rattle.command_store.specs.Opening.{FailsToSay, NamesFailure, NamesFault}
use Rattle.command_session.specs.Session.{HasFailedCall, Prints, Serves}
use Rattle.command_words.specs.declared.asked.Mirroring.{Mirroring}
use Rattle.command_mirror.specs.Lanes.{HasNoLanes}
use Rattle.command_mirror.specs.Readers.{AreReadLanes}

-- the listener was bound to the place of the words, and each lane may accept their number of connections
abbrev pub IsBoundBy : Mirroring → ListenerView → Type 0
IsBoundBy asked after = after.bound ≡ binding asked.bind asked.connections

-- the operator's session ended so, and each reader served the connections of its lane
pub record Mirrors (asked : Mirroring) (old new : Outside) (before after : ListenerView) (how : SessionEnd) : Type 0 where
  pub bound : IsBoundBy asked after
  -- the operator was served by the register of the store
  pub serves : Serves asked.store old new how
  -- the published changes, after each number of which the lists are those of the register after as many accepted changes
  pub published : List Update
  pub follows : IsFollowing serves.state serves.last.now.log published
  -- all lanes that were wanted were handed out and given back, without an accept left; the connections of each were answered from the published changes
  pub back : List Returned
  pub returned : after.returned ≡ before.returned ++ back
  pub many : length back ≡ asked.readers
  pub lanes : after.lanes ≡ before.lanes + asked.readers
  pub read : AreReadLanes (Some (lists_of serves.state)) published back

-- the same, if each accepted change was published
pub record MirrorsAll (asked : Mirroring) (old new : Outside) (before after : ListenerView) (how : SessionEnd) : Type 0 where
  pub mirrors : Mirrors asked old new before after how
  pub all : length mirrors.published ≡ length mirrors.serves.last.now.log

-- the output has the answers to all requests of the input
pub record Finishes (asked : Mirroring) (old new : Outside) (before after : ListenerView) : Type 0 where
  pub count : ℕ
  pub mirrored : MirrorsAll asked old new before after (Closed count)
  pub prints : Prints answers_kept (fresh mirrored.mirrors.serves.state) old new
  pub plain : (¬ StoreFailed old new) → Prints answers_plainly (opened mirrored.mirrors.serves.state) old new

-- the input failed, or the output, or, if the operator was answered all, the listener
pub record Falters (asked : Mirroring) (old new : Outside) (before after : ListenerView) : Type 0 where
  pub how : SessionEnd
  pub mirrored : MirrorsAll asked old new before after how
  pub cause : ((how ≡ SourceFault) × Failed old.streams.input new.streams.input) ⊎ ((how ≡ SinkFault) × Failed old.streams.output new.streams.output)
      ⊎ (Finishes asked old new before after × ListeningFailed before after)

-- memory ran out for the operator's session, and no count rose but the opener's if a call was answered by a failed keeper; or its session
-- ended so since it ran out to publish an accepted change
pub record Exhausts (asked : Mirroring) (old new : Outside) (before after : ListenerView) : Type 0 where
  pub how : SessionEnd
  pub mirrors : Mirrors asked old new before after how
  pub cause : ((how ≡ Memory) × NeverRises old.streams new.streams × ((new.stores.faults ≡ old.stores.faults) ⊎ HasFailedCall asked.store old new Memory))
      ⊎ ((how ≡ Memory) × (length mirrors.published < length mirrors.serves.last.now.log))

-- the listener could not be bound, or a lane was not handed out: neither operator nor readers ran, and nothing is said
pub record HasNoPlace (asked : Mirroring) (old new : Outside) (before after : ListenerView) : Type 0 where
  pub lanes : HasNoLanes (binding asked.bind asked.connections) asked.readers before after
  pub unused : IsUnused old new
  pub silent : new.streams.errors ≡ old.streams.errors

-- memory ran out before the listener was used
pub record Starves (old new : Outside) (before after : ListenerView) : Type 0 where
  pub unused : IsUnused old new
  pub quiet : NoCountRises old new
  pub idle : after ≡ before

-- a run of `mirror` with these words
pub record IsMirror (asked : Mirroring) (old new : Outside) (before after : ListenerView) (status : ℕ) : Type 0 where
  -- the status is one of these
  pub statuses : (status ≡ 0) ⊎ (status ≡ 1) ⊎ (status ≡ 3) ⊎ (status ≡ 4) ⊎ (status ≡ 5)
  -- 0: the operator was answered all, its changes were all published, and the readers' lanes were served to their end; nothing failed
  pub done : status ≡ 0 → Finishes asked old new before after × NoneFailed before after
  -- 1: the opening was refused for what the store holds; the listener was not used
  pub refused : status ≡ 1 → NamesFault asked.store old new × (after ≡ before)
  -- 3: the input, the output or the listener failed; or the listener did not give all lanes, and nobody was served; or what was to be said of
  -- the opening could not be
  pub fault : status ≡ 3 → Falters asked old new before after ⊎ HasNoPlace asked old new before after ⊎ (FailsToSay asked.store old new × (after ≡ before))
  -- 4: the opening was refused since the store failed; the listener was not used
  pub store_fault : status ≡ 4 → NamesFailure old new × (after ≡ before)
  -- 5: memory ran out, and nothing is said
  pub memory : status ≡ 5 → (new.streams.errors ≡ old.streams.errors) × (Starves old new before after ⊎ Exhausts asked old new before after)
  -- every lane that was handed out was given back
  pub lanes_back : length after.returned + before.lanes ≡ length before.returned + after.lanes
  -- if a lane was handed out, the listener was bound to the place of the words, with their number of connections
  pub bound : before.lanes < after.lanes → IsBoundBy asked after
  -- no count of faults falls
  pub later : NoCountFalls old new
  pub listener_later : before.faults ≤ after.faults
