-- The operator's session and the readers beside it, by what was held before and after.
use Rattle.std.proofs.Common.{◌≡◌, ◌∙◌, ◌⊎◌, ℕ, Bool, true, List, [], map, Option, Some, sym, ap, subst}
use Rattle.ipam_edge.specs.Reading.{Step}
use Rattle.http_session.specs.declared.session.SessionEnd.{SessionEnd}
use Rattle.http_session.specs.declared.session.SessionEnd.TheVariants.{Memory}
use Rattle.ipam_data.specs.declared.update.Update.{Update}
use Rattle.machine_session.specs.Owned.{owned}
use Rattle.machine_session.specs.Sessions.{IsOwnSession}
use Rattle.register_core.specs.Kept.{Kept}
use Rattle.register_core.specs.Machines.{pair_of, seen}
use Rattle.rest_ipam.specs.Protocol.{seen_protocol}
use Rattle.snapshot_operator.specs.Shown.{IsKept}
use Rattle.snapshot_reads.specs.Seen.{FeedView}
use Rattle.snapshot_rows.specs.Lists.{Lists}
use Rattle.snapshot_session.specs.Reads.{Seen}
use Rattle.stored_tables.specs.declared.tables.Tables.{Tables}
use Rattle.command_mirror.specs.Readers.{look_of}
use Rattle.command_mirror.specs.Together.{HasCause, HasOperated}
use Rattle.command_mirror.proofs.Worked.{some_same}

-- what is said of the two that were held
pub record IsOperated {R K X : Type 0} (step : Step R) (told_by : K → Option Tables) (faults_by : K → ℕ) (register : X → Kept K) (feed : X → FeedView Lists Update) (whole : X → Bool) (end : X → SessionEnd)
    (before after : X) (from to : R) (left_old left_new written_old written_new : Option (List ℕ)) (read_old read_new wrote_old wrote_new : ℕ) : Type 0 where
  pub session : IsOwnSession seen_protocol step (owned (seen (register before).opening (told_by (register before).keeper)) (map pair_of (register before).log) (faults_by (register before).keeper))
      (owned (seen (register after).opening (told_by (register after).keeper)) (map pair_of (register after).log) (faults_by (register after).keeper)) from to left_old left_new written_old written_new (end after)
  pub kept : IsKept (whole after) (register after).opening (map pair_of (register after).log) (feed after)
  pub memory : (end after ≡ Memory) ⊎ (whole after ≡ true)
  pub same : ((feed after).book ≡ (feed before).book) × ((feed after).opening ≡ (feed before).opening)
  pub cause : HasCause (end after) read_old read_new wrote_old wrote_new

pub operated_as : {R K X : Type 0} (step : Step R) (told_by : K → Option Tables) (faults_by : K → ℕ) (register : X → Kept K) (feed : X → FeedView Lists Update) (whole : X → Bool) (end : X → SessionEnd)
    (old new : Option X) (before after : X) (from to : R) (left_old left_new written_old written_new : Option (List ℕ)) (read_old read_new wrote_old wrote_new : ℕ)
    → old ≡ Some before → new ≡ Some after
    → HasOperated step told_by faults_by register feed whole end old new from to left_old left_new written_old written_new read_old read_new wrote_old wrote_new
    → IsOperated step told_by faults_by register feed whole end before after from to left_old left_new written_old written_new read_old read_new wrote_old wrote_new
operated_as {R} {K} {X} step told_by faults_by register feed whole end old new before after from to left_old left_new written_old written_new read_old read_new wrote_old wrote_new was is o =
    let b = some_same o.before before (sym o.had ∙ was) in
    let a = some_same o.after after (sym o.has ∙ is) in
    subst (λ (x : X × X). IsOperated step told_by faults_by register feed whole end x.0 x.1 from to left_old left_new written_old written_new read_old read_new wrote_old wrote_new) (λ i. (b i, a i))
    (record { session = o.session; kept = o.kept; memory = o.memory; same = o.same; cause = o.cause })

-- the first look of a feed stays while more is published
pub same_look : (f g : FeedView Lists Update) → (g.book ≡ f.book) × (g.opening ≡ f.opening) → look_of f ≡ look_of g
same_look f g same = λ i. record { book = sym same.0 i; opening = sym same.1 i; seen = []; told = [] }
