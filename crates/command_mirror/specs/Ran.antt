-- How a mirror over an opened register ran.
use Rattle.std.specs.Prelude.{◌≡◌, ◌+◌, ◌++◌, ◌<◌, ◌⊎◌, ℕ, Bool, true, false, List, length, map, Option, Some}
use Rattle.http_lanes.specs.Listened.{IsListening}
use Rattle.http_lanes.specs.declared.listening.Listening.{Listening}
use Rattle.http_lanes.specs.declared.listening.Listening.TheVariants.{Whole, Broken}
use Rattle.http_session.specs.declared.session.SessionEnd.{SessionEnd}
use Rattle.http_session.specs.declared.session.SessionEnd.TheVariants.{Closed, SourceFault, SinkFault, Memory}
use Rattle.ipam_data.specs.declared.update.Update.{Update}
use Rattle.ipam_edge.specs.Reading.{Step}
use Rattle.ipam_listen.specs.Connections.{Returned, binding}
use Rattle.machine_session.specs.Owned.{owned}
use Rattle.machine_session.specs.Sessions.{IsOwnSession}
use Rattle.machine_serving.specs.Serve.{listening_status}
use Rattle.machine_serving.specs.Views.{ListenerView, ListeningFailed, NoneFailed}
use Rattle.register_core.specs.Kept.{Kept}
use Rattle.register_core.specs.Machines.{pair_of, seen}
use Rattle.rest_ipam.specs.Protocol.{seen_protocol}
use Rattle.snapshot_operator.specs.Shown.{IsFollowing}
use Rattle.snapshot_rows.specs.Lists.{Lists, lists_of}
use Rattle.stored_tables.specs.declared.tables.Tables.{Tables}
use Rattle.command_streams.specs.Streams.{Told}
use Rattle.command_words.specs.declared.asked.Mirroring.{Mirroring}
use Rattle.command_mirror.specs.declared.mirrored.Ran.{Ran}
use Rattle.command_mirror.specs.declared.mirrored.Ran.TheVariants.{Starved, Placeless, Ended}
use Rattle.command_mirror.specs.Lanes.{HasNoLanes}
use Rattle.command_mirror.specs.Readers.{AreReadLanes}
use Rattle.command_mirror.specs.Together.{HasCause}

-- the operator was served by a register that was `first` and is `last`, and the lanes are those of the readers next to it: they were answered
-- from the published changes, which are the first accepted ones, and, if it is whole, all of them
pub record HasMirrored {R K : Type 0} (step : Step R) (told_by : K → Option Tables) (faults_by : K → ℕ) (first last : Kept K) (how : SessionEnd) (whole : Bool) (lanes : List Returned)
    (from to : R) (read_old read_new wrote_old wrote_new : Told) : Type 0 where
  pub session : IsOwnSession seen_protocol step (owned (seen first.opening (told_by first.keeper)) (map pair_of first.log) (faults_by first.keeper))
      (owned (seen last.opening (told_by last.keeper)) (map pair_of last.log) (faults_by last.keeper)) from to read_old.bytes read_new.bytes wrote_old.bytes wrote_new.bytes how
  pub published : List Update
  pub follows : IsFollowing last.opening (map pair_of last.log) published
  pub all : whole ≡ true → length published ≡ length (map pair_of last.log)
  pub lacks : whole ≡ false → length published < length (map pair_of last.log)
  pub memory : (how ≡ Memory) ⊎ (whole ≡ true)
  pub read : AreReadLanes (Some (lists_of last.opening)) published lanes
  pub cause : HasCause how read_old.faults read_new.faults wrote_old.faults wrote_new.faults

-- the same with the lanes of a listener, all of which were handed out and given back
pub record HasEnded {R K : Type 0} (step : Step R) (told_by : K → Option Tables) (faults_by : K → ℕ) (asked : Mirroring) (first last : Kept K) (from to : R) (read_old read_new wrote_old wrote_new : Told)
    (before after : ListenerView) (how : SessionEnd) (whole : Bool) (heard : Listening) : Type 0 where
  pub back : List Returned
  pub mirrored : HasMirrored step told_by faults_by first last how whole back from to read_old read_new wrote_old wrote_new
  pub returned : after.returned ≡ before.returned ++ back
  pub many : length back ≡ asked.readers
  pub lanes : after.lanes ≡ before.lanes + asked.readers
  pub bound : after.bound ≡ binding asked.bind asked.connections
  pub listened : IsListening (NoneFailed before after) (ListeningFailed before after) heard

-- neither operator nor readers ran: the register is unchanged, nothing was read and nothing written
pub record HasNotRun {K : Type 0} (first last : Kept K) (read_old read_new wrote_old wrote_new : Told) : Type 0 where
  pub same : last ≡ first
  pub unread : read_new ≡ read_old
  pub unwritten : wrote_new ≡ wrote_old

-- how it ran, by how it ended
abbrev pub HasRun : {R K : Type 0} → Step R → (K → Option Tables) → (K → ℕ) → Mirroring → Kept K → Kept K → R → R → Told → Told → Told → Told → ListenerView → ListenerView → Ran → Type 0
HasRun step told_by faults_by asked first last from to read_old read_new wrote_old wrote_new before after Starved =
    HasNotRun first last read_old read_new wrote_old wrote_new × (after ≡ before)
HasRun step told_by faults_by asked first last from to read_old read_new wrote_old wrote_new before after Placeless =
    HasNotRun first last read_old read_new wrote_old wrote_new × HasNoLanes (binding asked.bind asked.connections) asked.readers before after
HasRun step told_by faults_by asked first last from to read_old read_new wrote_old wrote_new before after (Ended how whole heard) =
    HasEnded step told_by faults_by asked first last from to read_old read_new wrote_old wrote_new before after how whole heard

-- the status of the command by how it ended: 5 if memory ran out, also to publish a change; 3 if an end or the listener failed
abbrev pub ended_status : SessionEnd → Bool → Listening → ℕ
ended_status how false heard = 5
ended_status (Closed n) true heard = listening_status heard
ended_status SourceFault true heard = 3
ended_status SinkFault true heard = 3
ended_status Memory true heard = 5

abbrev pub ran_status : Ran → ℕ
ran_status Starved = 5
ran_status Placeless = 3
ran_status (Ended how whole heard) = ended_status how whole heard
