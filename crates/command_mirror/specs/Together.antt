-- The operator's session, by what is held before it and after it.
use Rattle.std.specs.Prelude.{◌≡◌, ◌⊎◌, ◌≤◌, ℕ, Bool, true, List, map, Option, Some}
use Rattle.ipam_edge.specs.Faults.{Rose}
use Rattle.ipam_edge.specs.Reading.{Step}
use Rattle.http_session.specs.declared.session.SessionEnd.{SessionEnd}
use Rattle.http_session.specs.declared.session.SessionEnd.TheVariants.{SourceFault, SinkFault, Memory}
use Rattle.ipam_data.specs.declared.update.Update.{Update}
use Rattle.machine_session.specs.Owned.{owned}
use Rattle.machine_session.specs.Sessions.{IsOwnSession}
use Rattle.register_core.specs.Kept.{Kept}
use Rattle.register_core.specs.Machines.{pair_of, seen}
use Rattle.rest_ipam.specs.Protocol.{seen_protocol}
use Rattle.snapshot_operator.specs.Shown.{IsKept, IsShown}
use Rattle.snapshot_reads.specs.Seen.{FeedView}
use Rattle.snapshot_rows.specs.Lists.{Lists}
use Rattle.stored_tables.specs.declared.tables.Tables.{Tables}

-- a register is held, and a feed that shows it
pub record IsHeld {K X : Type 0} (register : X → Kept K) (feed : X → FeedView Lists Update) (held : Option X) : Type 0 where
  pub now : X
  pub has : held ≡ Some now
  pub shown : IsShown (register now).opening (map pair_of (register now).log) (feed now)

-- what is known of the ends of a session: no count of faults falls, and none rose but with its end
pub record HasCause (how : SessionEnd) (read_old read_new wrote_old wrote_new : ℕ) : Type 0 where
  pub source_later : read_old ≤ read_new
  pub source : how ≡ SourceFault → Rose read_old read_new
  pub source_kept : (how ≡ SourceFault) ⊎ (read_new ≡ read_old)
  pub sink_later : wrote_old ≤ wrote_new
  pub sink : how ≡ SinkFault → Rose wrote_old wrote_new
  pub sink_kept : (how ≡ SinkFault) ⊎ (wrote_new ≡ wrote_old)

-- the operator was served by the register and the feed that were held, to this end
pub record HasOperated {R K X : Type 0} (step : Step R) (told_by : K → Option Tables) (faults_by : K → ℕ) (register : X → Kept K) (feed : X → FeedView Lists Update) (whole : X → Bool) (end : X → SessionEnd)
    (old new : Option X) (from to : R) (left_old left_new written_old written_new : Option (List ℕ)) (read_old read_new wrote_old wrote_new : ℕ) : Type 0 where
  pub before : X
  pub after : X
  pub had : old ≡ Some before
  pub has : new ≡ Some after
  pub session : IsOwnSession seen_protocol step (owned (seen (register before).opening (told_by (register before).keeper)) (map pair_of (register before).log) (faults_by (register before).keeper))
      (owned (seen (register after).opening (told_by (register after).keeper)) (map pair_of (register after).log) (faults_by (register after).keeper)) from to left_old left_new written_old written_new (end after)
  pub kept : IsKept (whole after) (register after).opening (map pair_of (register after).log) (feed after)
  -- it is whole but if memory ran out
  pub memory : (end after ≡ Memory) ⊎ (whole after ≡ true)
  pub same : ((feed after).book ≡ (feed before).book) × ((feed after).opening ≡ (feed before).opening)
  pub cause : HasCause (end after) read_old read_new wrote_old wrote_new
