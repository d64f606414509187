-- What a run of `report` leaves, as the command's record has it, by where it ended.
use Rattle.std.proofs.Common.{◌≡◌, ℕ, ◌⊎◌, List, inl, inr, ap, arith}
use Rattle.ipam_data.specs.declared.replies.Refusal.{Refusal}
use Rattle.ipam_data.specs.State.{State}
use Rattle.command_words.specs.declared.asked.Report.{Report}
use Rattle.command_words.specs.declared.asked.Store.{Store}
use Rattle.command_streams.specs.Streams.{Told}
use Rattle.command_store.specs.Outside.{Outside, IsUnused, NoCountFalls, NoCountRises}
use Rattle.command_store.specs.Opening.{IsLoaded}
use Rattle.command_files.specs.Files.{NamesIt}
use Rattle.command_files.specs.Export.{IsPrinting}
use Rattle.command_files.specs.declared.calls.ReportStop.{ReportStop}
use Rattle.command_files.specs.declared.calls.ReportStop.TheVariants.{Absent, Memory}
use Rattle.command_files.specs.Report.{IsReportText, IsAbsent, IsReportStop, IsReportStopSaid, IsReport}

module _ (report : Report) (store : Store) (old new : Outside) (status : ℕ) (quiet : status ≡ 5 → NoCountRises old new) where
  -- it printed the text, or the opening was refused
  pub of_printing : IsPrinting (IsReportText report store old) store old new status → IsReport report store old new status
  of_printing p = record {
    statuses = p.statuses;
    done = p.done;
    refused = λ z. inl (p.refused z);
    fault = λ z. elim (p.fault z) [ inl h ↦ inl h | inr h ↦ inr (inl h) ];
    store_fault = p.store_fault;
    memory = p.memory;
    later = p.later;
    quiet = p.quiet;
  }

  -- memory ran out
  of_memory : status ≡ 5 → new.streams.errors ≡ old.streams.errors → IsUnused old new → NoCountFalls old new → IsReport report store old new status
  of_memory five silent unused later = record {
    statuses = inr (inr (inr (inr five)));
    done = λ z. absurd (omega arith);
    refused = λ z. absurd (omega arith);
    fault = λ z. absurd (omega arith);
    store_fault = λ z. absurd (omega arith);
    memory = λ z. (record { input = unused.input; errors = silent; stored = unused.stored }, unused.output);
    later = later;
    quiet = quiet;
  }

  -- the prefix was not there
  of_absent : (refusal : Refusal) → IsAbsent report store old refusal → NamesIt refusal 1 old.streams.errors new.streams.errors status
      → IsUnused old new → NoCountFalls old new → IsReport report store old new status
  of_absent refusal absent (inl (inl e)) unused later = let one = e.0 in record {
    statuses = inr (inl one);
    done = λ z. absurd (omega arith);
    refused = λ z. inr (record { refusal = refusal; absent = absent; said = e.1; unused = unused });
    fault = λ z. absurd (omega arith);
    store_fault = λ z. absurd (omega arith);
    memory = λ z. absurd (omega arith);
    later = later;
    quiet = quiet;
  }
  of_absent refusal absent (inl (inr e)) unused later = let three = e.0 in record {
    statuses = inr (inr (inl three));
    done = λ z. absurd (omega arith);
    refused = λ z. absurd (omega arith);
    fault = λ z. inr (inr (record { failed = e.1; refusal = refusal; absent = absent; front = e.2; unused = unused }));
    store_fault = λ z. absurd (omega arith);
    memory = λ z. absurd (omega arith);
    later = later;
    quiet = quiet;
  }
  of_absent refusal absent (inr e) unused later = of_memory e.0 e.1 unused later

  -- it has no text
  pub of_stop : (stop : ReportStop) (state : State) → IsLoaded store old state → IsReportStop state report stop
      → IsReportStopSaid stop old.streams.errors new.streams.errors status → IsUnused old new → NoCountFalls old new → IsReport report store old new status
  of_stop (Absent refusal) state loaded cause said unused later = of_absent refusal (state, loaded, cause) said unused later
  of_stop Memory state loaded cause said unused later = of_memory said.0 said.1 unused later

-- where a report has no text for want of memory, no count rose
pub quiet_stop : (old new : Outside) (stop : ReportStop) (status : ℕ) → IsReportStopSaid stop old.streams.errors new.streams.errors status
    → new.streams.input.faults ≡ old.streams.input.faults → new.streams.output.faults ≡ old.streams.output.faults → new.stores.faults ≡ old.stores.faults
    → status ≡ 5 → NoCountRises old new
quiet_stop old new (Absent refusal) status (inl (inl e)) read wrote same five = (let one = e.0 in absurd (omega arith))
quiet_stop old new (Absent refusal) status (inl (inr e)) read wrote same five = (let three = e.0 in absurd (omega arith))
quiet_stop old new (Absent refusal) status (inr e) read wrote same five =
    record { streams = record { input = read; output = wrote; errors = ap (λ (t : Told). t.faults) e.1 }; stores = same }
quiet_stop old new Memory status said read wrote same five =
    record { streams = record { input = read; output = wrote; errors = ap (λ (t : Told). t.faults) said.1 }; stores = same }
