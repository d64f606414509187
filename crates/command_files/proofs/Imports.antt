-- What a run of `import` leaves, as the command's record has it, by where it ended.
use Rattle.std.proofs.Common.{◌≡◌, ℕ, ◌≤◌, ◌⊎◌, List, Err, IsErrOf, inl, inr, refl, subst, ◌∙◌, ap, arith}
use Rattle.ipam_data.specs.declared.kinds.Kind.{Kind}
use Rattle.ipam_data.specs.declared.replies.Refusal.{Refusal}
use Rattle.ipam_data.specs.declared.replies.Refusal.TheVariants.{Keeper as NotWritten}
use Rattle.stored_tables.specs.declared.opening.OpenFault.{OpenFault}
use Rattle.stored_tables.specs.declared.opening.OpenFault.TheVariants.{Keeper as NotRead, BadTables, Memory as NoMemory, BadRow, Version, BadNext, Limit}
use Rattle.ipam_data.specs.declared.imports.ImportRow.{ImportRow}
use Rattle.ipam_data.specs.declared.imports.ImportRows.{ImportRows}
use Rattle.command_words.specs.declared.asked.Store.{Store}
use Rattle.command_streams.specs.Streams.{Told, EndsWith, Gains, GainsFront}
use Rattle.command_store.specs.Outside.{Outside, Stores, StoreFailed, NoCountFalls, NoCountRises}
use Rattle.command_store.specs.FaultWords.{IsSaid, fault_line}
use Rattle.command_files.specs.declared.files.FileStop.{FileStop}
use Rattle.command_files.specs.declared.files.FileStop.TheVariants.{Unread, Refused as RefusedFile, Memory as NoRoom}
use Rattle.command_files.specs.declared.calls.Counts.{Counts}
use Rattle.command_files.specs.declared.calls.MakeStop.TheVariants.{Refused, Keeper, Memory}
use Rattle.command_files.specs.declared.import.ImportStop.{ImportStop}
use Rattle.command_files.specs.declared.import.ImportStop.TheVariants.{Opening, Making}
use Rattle.command_store.specs.Opening.{IsBadStore}
use Rattle.ipam_edge.proofs.FaultLemmas.{unless}
use Rattle.command_store.proofs.Refused.{quiet_refused, unchanged}
use Rattle.command_files.specs.Files.{GivesRows, refusal_text, NamesIt, IsFileStop, IsFileStopSaid}
use Rattle.command_files.specs.Import.{NothingOpened, LeavesAll, counts_text, PrintsCounts, NamesRefusal, NamesTables, NamesUnread, IsUnwritten, NamesUnwritten, FailsToRead, FailsToPrint, FailsToSay, IsRefusedSo, IsStored, IsImport}
use Rattle.command_files.specs.Making.{HasImported, IsOpenStop, IsImportStop, IsStopSaid, IsStoreStop}

module _ (kind : Kind) (store : Store) (old new : Outside) (status : ℕ) (quiet : status ≡ 5 → NoCountRises old new) where
  at_done : status ≡ 0 → PrintsCounts kind store old new → NoCountFalls old new → IsImport kind store old new status
  at_done zero done later = record {
    statuses = inl zero;
    done = λ z. done;
    refused = λ z. absurd (omega arith);
    fault = λ z. absurd (omega arith);
    store_fault = λ z. absurd (omega arith);
    memory = λ z. absurd (omega arith);
    later = later;
    quiet = quiet;
  }

  at_refused : status ≡ 1 → NamesRefusal kind store old new ⊎ NamesTables store old new → NoCountFalls old new → IsImport kind store old new status
  at_refused one refused later = record {
    statuses = inr (inl one);
    done = λ z. absurd (omega arith);
    refused = λ z. refused;
    fault = λ z. absurd (omega arith);
    store_fault = λ z. absurd (omega arith);
    memory = λ z. absurd (omega arith);
    later = later;
    quiet = quiet;
  }

  at_fault : status ≡ 3 → FailsToRead old new ⊎ FailsToPrint kind store old new ⊎ FailsToSay kind store old new → NoCountFalls old new → IsImport kind store old new status
  at_fault three fault later = record {
    statuses = inr (inr (inl three));
    done = λ z. absurd (omega arith);
    refused = λ z. absurd (omega arith);
    fault = λ z. fault;
    store_fault = λ z. absurd (omega arith);
    memory = λ z. absurd (omega arith);
    later = later;
    quiet = quiet;
  }

  at_store : status ≡ 4 → NamesUnread old new ⊎ NamesUnwritten kind store old new → NoCountFalls old new → IsImport kind store old new status
  at_store four named later = record {
    statuses = inr (inr (inr (inl four)));
    done = λ z. absurd (omega arith);
    refused = λ z. absurd (omega arith);
    fault = λ z. absurd (omega arith);
    store_fault = λ z. named;
    memory = λ z. absurd (omega arith);
    later = later;
    quiet = quiet;
  }

  at_memory : status ≡ 5 → LeavesAll old new → new.streams.errors ≡ old.streams.errors → NoCountFalls old new → IsImport kind store old new status
  at_memory five left silent later = record {
    statuses = inr (inr (inr (inr five)));
    done = λ z. absurd (omega arith);
    refused = λ z. absurd (omega arith);
    fault = λ z. absurd (omega arith);
    store_fault = λ z. absurd (omega arith);
    memory = λ z. (left, silent);
    later = later;
    quiet = quiet;
  }

  leaves : new.streams.output ≡ old.streams.output → NothingOpened old new → LeavesAll old new
  leaves output unopened = record { output = output; stored = unchanged old.stores.stored new.stores.stored (ap (λ (s : Stores). s.stored) unopened) }

  -- a refusal was said, or could not be
  named : (refusal : Refusal) → IsRefusedSo kind store old new refusal → NamesIt refusal 1 old.streams.errors new.streams.errors status → LeavesAll old new → NoCountFalls old new
      → IsImport kind store old new status
  named refusal cause (inl (inl e)) left later = at_refused e.0 (inl (record { refusal = refusal; cause = cause; said = e.1; left = left })) later
  named refusal cause (inl (inr e)) left later =
      at_fault e.0 (inr (inr (record { failed = e.1; text = refusal_text refusal; cause = inl (refusal, cause, refl); front = e.2; left = left }))) later
  named refusal cause (inr e) left later = at_memory e.0 left e.1 later

  -- the input gave no rows
  pub of_file_stop : (stop : FileStop) → IsFileStop kind old.streams.input new.streams.input stop → IsFileStopSaid stop old.streams.errors new.streams.errors status
      → new.streams.output ≡ old.streams.output → NothingOpened old new → NoCountFalls old new → IsImport kind store old new status
  of_file_stop Unread stop said output unopened later =
      at_fault said.0 (inl (record { failed = stop; unopened = unopened; left = leaves output unopened; silent = said.1 })) later
  of_file_stop (RefusedFile refusal) stop said output unopened later = named refusal (inl (stop, unopened)) said (leaves output unopened) later
  of_file_stop NoRoom stop said output unopened later = at_memory said.0 (leaves output unopened) said.1 later

  -- the opening is refused for what the tables have
  bad : (fault : OpenFault) → IsBadStore store old fault → EndsWith old.streams.errors new.streams.errors (fault_line fault) 1 status ⊎ ((status ≡ 5) × (new.streams.errors ≡ old.streams.errors))
      → LeavesAll old new → NoCountFalls old new → IsImport kind store old new status
  bad fault b (inl (inl e)) left later = at_refused e.0 (inr (record { fault = fault; bad = b; said = e.1; left = left })) later
  bad fault b (inl (inr e)) left later =
      at_fault e.0 (inr (inr (record { failed = e.1; text = fault_line fault; cause = inr (inl (fault, b, refl)); front = e.2; left = left }))) later
  bad fault b (inr e) left later = at_memory e.0 left e.1 later

  opening : (fault : OpenFault) → IsOpenStop store old.stores new.stores fault → IsSaid fault old.streams.errors new.streams.errors status → LeavesAll old new → NoCountFalls old new
      → IsImport kind store old new status
  opening NotRead stop (inl e) left later = at_store e.0 (inl (record { failed = stop.failed refl; said = e.1; left = left })) later
  opening NotRead stop (inr e) left later =
      at_fault e.0 (inr (inr (record { failed = e.1; text = fault_line NotRead; cause = inr (inr (inl (stop.failed refl, refl))); front = e.2; left = left }))) later
  opening NoMemory stop said left later = at_memory said.0 left said.1 later
  opening (BadTables which n rule) stop said left later = bad (BadTables which n rule) (record { of_tables = tt; refused = stop.tables tt }) said left later
  opening (BadRow which n) stop said left later = bad (BadRow which n) (record { of_tables = tt; refused = stop.tables tt }) said left later
  opening (Version n) stop said left later = bad (Version n) (record { of_tables = tt; refused = stop.tables tt }) said left later
  opening (BadNext which) stop said left later = bad (BadNext which) (record { of_tables = tt; refused = stop.tables tt }) said left later
  opening (Limit which n) stop said left later = bad (Limit which n) (record { of_tables = tt; refused = stop.tables tt }) said left later

  -- the keeper failed
  unwritten : IsUnwritten kind store old new → EndsWith old.streams.errors new.streams.errors (refusal_text NotWritten) 4 status → LeavesAll old new → NoCountFalls old new → IsImport kind store old new status
  unwritten is (inl e) left later = at_store e.0 (inr (record { unwritten = is; said = e.1; left = left })) later
  unwritten is (inr e) left later =
      at_fault e.0 (inr (inr (record { failed = e.1; text = refusal_text NotWritten; cause = inr (inr (inr (is, refl))); front = e.2; left = left }))) later

  -- the rows did not come into the store
  pub of_stop : (rows : List ImportRow) (stop : ImportStop) → GivesRows kind old.streams.input new.streams.input rows → IsImportStop kind store rows old.stores new.stores stop
      → IsStopSaid stop old.streams.errors new.streams.errors status → new.streams.output ≡ old.streams.output → NoCountFalls old new → IsImport kind store old new status
  of_stop rows (Opening fault) given stop said output later = opening fault stop.cause said (record { output = output; stored = stop.same }) later
  of_stop rows (Making (Refused refusal)) given stop said output later =
      named refusal (inr (rows, stop.cause.0, record { given = given; loaded = stop.cause.1 }, stop.cause.2)) said (record { output = output; stored = stop.same }) later
  of_stop rows (Making Keeper) given stop said output later =
      unwritten (record { rows = rows; state = stop.cause.0; import = record { given = given; loaded = stop.cause.1 }; accepted = stop.cause.2; failed = stop.cause.3 }) said
      (record { output = output; stored = stop.same }) later
  of_stop rows (Making Memory) given stop said output later = at_memory said.0 (record { output = output; stored = stop.same }) said.1 later

  -- they did
  abbrev stored : (rows : List ImportRow) (counts : Counts) → GivesRows kind old.streams.input new.streams.input rows → HasImported kind store rows old.stores new.stores counts
      → IsStored kind store old new
  stored rows counts given h = record {
    rows = rows;
    state = h.state;
    import = record { given = given; loaded = h.found };
    accepted = h.counted.0;
    holds = (h.told, h.telling, h.tells, h.returned);
    created = counts.created;
    present = counts.present;
    counts = h.counted.1;
  }

  pub of_done : (rows : List ImportRow) (counts : Counts) (message : List ℕ) → GivesRows kind old.streams.input new.streams.input rows
      → HasImported kind store rows old.stores new.stores counts → message ≡ counts_text counts.created counts.present
      → EndsWith old.streams.output new.streams.output message 0 status → new.streams.errors ≡ old.streams.errors → NoCountFalls old new
      → IsImport kind store old new status
  of_done rows counts message given h is (inl e) silent later =
      at_done e.0 (record { done = stored rows counts given h; printed = subst (λ (t : List ℕ). Gains old.streams.output new.streams.output t) is e.1; silent = silent }) later
  of_done rows counts message given h is (inr e) silent later =
      at_fault e.0 (inr (inl (record {
        failed = e.1;
        done = stored rows counts given h;
        front = subst (λ (t : List ℕ). GainsFront old.streams.output new.streams.output t) is e.2;
        silent = silent;
      }))) later

-- ---- out of memory

named_want : (refusal : Refusal) (wanted : ℕ) (old new : Told) (status : ℕ) → wanted ≤ 4 → status ≡ 5 → NamesIt refusal wanted old new status → new ≡ old
named_want refusal wanted old new status low five (inl (inl e)) = (let is = e.0 in absurd (omega arith))
named_want refusal wanted old new status low five (inl (inr e)) = (let three = e.0 in absurd (omega arith))
named_want refusal wanted old new status low five (inr e) = e.1

-- where the input gave no rows, and memory ran out, no count rose
pub quiet_file_stop : (old new : Outside) (stop : FileStop) (status : ℕ) → IsErrOf {T = ImportRows} (Err stop) Unread ⊎ (new.streams.input.faults ≡ old.streams.input.faults)
    → IsFileStopSaid stop old.streams.errors new.streams.errors status → new.streams.output.faults ≡ old.streams.output.faults → new.stores.faults ≡ old.stores.faults
    → status ≡ 5 → NoCountRises old new
quiet_file_stop old new Unread status kept said wrote same five = (let three = said.0 in absurd (omega arith))
quiet_file_stop old new (RefusedFile refusal) status kept said wrote same five =
    record { streams = record { input = unless (λ k. cc k) kept; output = wrote; errors = ap (λ (t : Told). t.faults) (named_want refusal 1 _ _ status (omega arith) five said) }; stores = same }
quiet_file_stop old new NoRoom status kept said wrote same five =
    record { streams = record { input = unless (λ k. cc k) kept; output = wrote; errors = ap (λ (t : Told). t.faults) said.1 }; stores = same }

-- nor where the rows did not come into the store
pub quiet_stop : (old new : Outside) (stop : ImportStop) (status : ℕ) → IsStoreStop stop ⊎ (new.stores.faults ≡ old.stores.faults)
    → IsStopSaid stop old.streams.errors new.streams.errors status → new.streams.input.faults ≡ old.streams.input.faults → new.streams.output.faults ≡ old.streams.output.faults
    → status ≡ 5 → NoCountRises old new
quiet_stop old new (Opening fault) status still said read wrote five = quiet_refused old new fault status still said read wrote five
quiet_stop old new (Making (Refused refusal)) status still said read wrote five =
    record { streams = record { input = read; output = wrote; errors = ap (λ (t : Told). t.faults) (named_want refusal 1 _ _ status (omega arith) five said) }; stores = unless (λ k. k) still }
quiet_stop old new (Making Keeper) status still (inl e) read wrote five = (let four = e.0 in absurd (omega arith))
quiet_stop old new (Making Keeper) status still (inr e) read wrote five = (let three = e.0 in absurd (omega arith))
quiet_stop old new (Making Memory) status still said read wrote five =
    record { streams = record { input = read; output = wrote; errors = ap (λ (t : Told). t.faults) said.1 }; stores = unless (λ k. k) still }
