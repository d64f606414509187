-- What a run of `migrate` leaves, as the command's record has it, by where it ended.
use Rattle.std.proofs.Common.{◌≡◌, ℕ, ◌⊎◌, Bool, List, inl, inr, refl, subst, ap, arith}
use Rattle.stored_tables.specs.declared.migration.MigrateFault.{MigrateFault}
use Rattle.stored_tables.specs.declared.migration.MigrateFault.TheVariants.{Version, BadRow, Memory}
use Rattle.stored_tables.specs.declared.opening.OpenFault.TheVariants.{Keeper}
use Rattle.ipam_edge.proofs.FaultLemmas.{unless}
use Rattle.command_streams.specs.Streams.{Told, EndsWith}
use Rattle.command_store.specs.Outside.{Outside, IsUnused, NoCountFalls, NoCountRises}
use Rattle.command_store.specs.FaultWords.{fault_line}
use Rattle.command_store.specs.Opening.{NamesFailure}
use Rattle.command_migrate.specs.declared.migrate.MigrateStop.{MigrateStop}
use Rattle.command_migrate.specs.declared.migrate.MigrateStop.TheVariants.{Unread, Refused, Unwritten, Lacking}
use Rattle.command_migrate.specs.Migrate.{count_text, unwritten_text, fault_of, tables_of_file, AreUnfit, IsStop, IsFailure, IsStopSaid, IsMigrated, PrintsMigrated, NamesUnfit, FailsToPrint, FailsToSay, NamesUnwritten, IsMigrate}

module _ (db : List ℕ) (populated : Bool) (old new : Outside) (status : ℕ) (input : new.streams.input ≡ old.streams.input) (later : NoCountFalls old new)
    (quiet : status ≡ 5 → NoCountRises old new) where
  at_done : status ≡ 0 → PrintsMigrated db populated old new → IsMigrate db populated old new status
  at_done zero_ done = record {
    statuses = inl zero_;
    done = λ z. done;
    refused = λ z. absurd (omega arith);
    fault = λ z. absurd (omega arith);
    store_fault = λ z. absurd (omega arith);
    memory = λ z. absurd (omega arith);
    input = input;
    whole = inr ((done.count, done.done), inl zero_);
    later = later;
    quiet = quiet;
  }

  at_front : status ≡ 3 → FailsToPrint db populated old new → IsMigrate db populated old new status
  at_front three front = record {
    statuses = inr (inr (inl three));
    done = λ z. absurd (omega arith);
    refused = λ z. absurd (omega arith);
    fault = λ z. inl front;
    store_fault = λ z. absurd (omega arith);
    memory = λ z. absurd (omega arith);
    input = input;
    whole = inr ((front.count, front.done), inr (three, front.failed));
    later = later;
    quiet = quiet;
  }

  at_refused : status ≡ 1 → NamesUnfit db old new → IsMigrate db populated old new status
  at_refused one refused = record {
    statuses = inr (inl one);
    done = λ z. absurd (omega arith);
    refused = λ z. refused;
    fault = λ z. absurd (omega arith);
    store_fault = λ z. absurd (omega arith);
    memory = λ z. absurd (omega arith);
    input = input;
    whole = inl (refused.unused.stored, (λ z. omega arith));
    later = later;
    quiet = quiet;
  }

  at_unsaid : status ≡ 3 → FailsToSay db old new → IsMigrate db populated old new status
  at_unsaid three unsaid = record {
    statuses = inr (inr (inl three));
    done = λ z. absurd (omega arith);
    refused = λ z. absurd (omega arith);
    fault = λ z. inr unsaid;
    store_fault = λ z. absurd (omega arith);
    memory = λ z. absurd (omega arith);
    input = input;
    whole = inl (unsaid.unused.stored, (λ z. omega arith));
    later = later;
    quiet = quiet;
  }

  at_store : status ≡ 4 → IsUnused old new → NamesFailure old new ⊎ NamesUnwritten db old new → IsMigrate db populated old new status
  at_store four unused named = record {
    statuses = inr (inr (inr (inl four)));
    done = λ z. absurd (omega arith);
    refused = λ z. absurd (omega arith);
    fault = λ z. absurd (omega arith);
    store_fault = λ z. named;
    memory = λ z. absurd (omega arith);
    input = input;
    whole = inl (unused.stored, (λ z. omega arith));
    later = later;
    quiet = quiet;
  }

  at_memory : status ≡ 5 → IsUnused old new → new.streams.errors ≡ old.streams.errors → IsMigrate db populated old new status
  at_memory five unused silent = record {
    statuses = inr (inr (inr (inr five)));
    done = λ z. absurd (omega arith);
    refused = λ z. absurd (omega arith);
    fault = λ z. absurd (omega arith);
    store_fault = λ z. absurd (omega arith);
    memory = λ z. (unused, silent);
    input = input;
    whole = inl (unused.stored, (λ z. omega arith));
    later = later;
    quiet = quiet;
  }

  -- the tables were migrated, and their number was printed, or could not be
  pub of_done : (count : ℕ) (text : List ℕ) → IsMigrated db populated old.stores new.stores count → text ≡ count_text count
      → EndsWith old.streams.output new.streams.output text 0 status → new.streams.errors ≡ old.streams.errors → IsMigrate db populated old new status
  of_done count text done is ends silent = said (subst (λ (t : List ℕ). EndsWith old.streams.output new.streams.output t 0 status) is ends)
    where
      said : EndsWith old.streams.output new.streams.output (count_text count) 0 status → IsMigrate db populated old new status
      said (inl e) = at_done e.0 (record { count = count; done = done; printed = e.1; silent = silent })
      said (inr e) = at_front e.0 (record { failed = e.1; count = count; done = done; front = e.2; silent = silent })

  unfit : (fault : MigrateFault) → AreUnfit (tables_of_file db old.stores) fault
      → EndsWith old.streams.errors new.streams.errors (fault_line (fault_of fault)) 1 status ⊎ ((status ≡ 5) × (new.streams.errors ≡ old.streams.errors))
      → IsUnused old new → IsMigrate db populated old new status
  unfit fault bad (inl (inl e)) unused = at_refused e.0 (record { fault = fault; bad = bad; said = e.1; unused = unused })
  unfit fault bad (inl (inr e)) unused =
      at_unsaid e.0 (record { failed = e.1; text = fault_line (fault_of fault); cause = inl (fault, bad, refl); front = e.2; unused = unused })
  unfit fault bad (inr e) unused = at_memory e.0 unused e.1

  -- they were not, and it was said why, or could not be
  pub of_stop : (stop : MigrateStop) → IsStop (tables_of_file db old.stores) old.stores.faults new.stores.faults stop
      → IsStopSaid stop old.streams.errors new.streams.errors status → IsUnused old new → IsMigrate db populated old new status
  of_stop Unread failed (inl e) unused = at_store e.0 unused (inl (record { failed = failed; said = e.1; unused = unused }))
  of_stop Unread failed (inr e) unused =
      at_unsaid e.0 (record { failed = e.1; text = fault_line Keeper; cause = inr (inl (failed, refl)); front = e.2; unused = unused })
  of_stop (Refused (Version n)) bad said unused = unfit (Version n) bad said unused
  of_stop (Refused (BadRow kind n)) bad said unused = unfit (BadRow kind n) bad said unused
  of_stop (Refused Memory) bad said unused = at_memory said.0 unused said.1
  of_stop Unwritten stop (inl e) unused = at_store e.0 unused (inr (record { fit = stop.0; failed = stop.1; said = e.1; unused = unused }))
  of_stop Unwritten stop (inr e) unused =
      at_unsaid e.0 (record { failed = e.1; text = unwritten_text; cause = inr (inr (stop.0, stop.1, refl)); front = e.2; unused = unused })
  of_stop Lacking stop said unused = at_memory said.0 unused said.1

-- what was printed, or could not be, is no lack of memory
pub not_lacking : (old new : Told) (text : List ℕ) (status : ℕ) → EndsWith old new text 0 status → status ≡ 5 → ⊥
not_lacking old new text status (inl e) five = (let zero_ = e.0 in omega arith)
not_lacking old new text status (inr e) five = (let three = e.0 in omega arith)

-- nor is a failure; so of lack of memory nothing was said, and no count rose
silent_unfit : (fault : MigrateFault) (old new : Told) (status : ℕ) → status ≡ 5
    → EndsWith old new (fault_line (fault_of fault)) 1 status ⊎ ((status ≡ 5) × (new ≡ old)) → new ≡ old
silent_unfit fault old new status five (inl (inl e)) = (let one = e.0 in absurd (omega arith))
silent_unfit fault old new status five (inl (inr e)) = (let three = e.0 in absurd (omega arith))
silent_unfit fault old new status five (inr e) = e.1

silent_stop : (stop : MigrateStop) (old new : Told) (status : ℕ) → status ≡ 5 → IsStopSaid stop old new status → (IsFailure stop → ⊥) × (new ≡ old)
silent_stop Unread old new status five (inl e) = (let four = e.0 in absurd (omega arith))
silent_stop Unread old new status five (inr e) = (let three = e.0 in absurd (omega arith))
silent_stop (Refused (Version n)) old new status five said = ((λ f. f), silent_unfit (Version n) old new status five said)
silent_stop (Refused (BadRow kind n)) old new status five said = ((λ f. f), silent_unfit (BadRow kind n) old new status five said)
silent_stop (Refused Memory) old new status five said = ((λ f. f), said.1)
silent_stop Unwritten old new status five (inl e) = (let four = e.0 in absurd (omega arith))
silent_stop Unwritten old new status five (inr e) = (let three = e.0 in absurd (omega arith))
silent_stop Lacking old new status five said = ((λ f. f), said.1)

pub quiet_stop : (old new : Outside) (stop : MigrateStop) (status : ℕ) → IsFailure stop ⊎ (new.stores.faults ≡ old.stores.faults)
    → IsStopSaid stop old.streams.errors new.streams.errors status → new.streams.input.faults ≡ old.streams.input.faults
    → new.streams.output.faults ≡ old.streams.output.faults → status ≡ 5 → NoCountRises old new
quiet_stop old new stop status still said read wrote five =
    let silent = silent_stop stop old.streams.errors new.streams.errors status five said in
    record { streams = record { input = read; output = wrote; errors = ap (λ (t : Told). t.faults) silent.1 }; stores = unless silent.0 still }
