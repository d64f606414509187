-- What a run of a command that prints a text of the register leaves, as its record has it, by where it ended.
use Rattle.std.proofs.Common.{◌≡◌, ℕ, ◌⊎◌, List, inl, inr, refl, arith}
use Rattle.stored_tables.specs.declared.opening.OpenFault.{OpenFault}
use Rattle.stored_tables.specs.declared.opening.OpenFault.TheVariants.{Keeper, BadTables, Memory, BadRow, Version, BadNext, Limit}
use Rattle.command_words.specs.declared.asked.Store.{Store}
use Rattle.command_streams.specs.Streams.{Told, EndsWith}
use Rattle.command_store.specs.Outside.{Outside, IsUnused, NoCountFalls, NoCountRises}
use Rattle.command_store.specs.FaultWords.{IsSaid, fault_line}
use Rattle.command_store.specs.Opening.{IsBadStore, NamesFault, NamesFailure, FailsToSay}
use Rattle.command_files.specs.Making.{IsOpenStop}
use Rattle.command_files.specs.Export.{LeavesInput, Prints, PrintsFront, IsPrinting}

module _ (IsText : List ℕ → Type 0) (store : Store) (old new : Outside) (status : ℕ) (quiet : status ≡ 5 → NoCountRises old new) where
  at_done : status ≡ 0 → Prints IsText old new → NoCountFalls old new → IsPrinting IsText store old new status
  at_done zero done later = record {
    statuses = inl zero;
    done = λ z. done;
    refused = λ z. absurd (omega arith);
    fault = λ z. absurd (omega arith);
    store_fault = λ z. absurd (omega arith);
    memory = λ z. absurd (omega arith);
    later = later;
    quiet = quiet;
  }

  at_refused : status ≡ 1 → NamesFault store old new → NoCountFalls old new → IsPrinting IsText store old new status
  at_refused one refused later = record {
    statuses = inr (inl one);
    done = λ z. absurd (omega arith);
    refused = λ z. refused;
    fault = λ z. absurd (omega arith);
    store_fault = λ z. absurd (omega arith);
    memory = λ z. absurd (omega arith);
    later = later;
    quiet = quiet;
  }

  at_fault : status ≡ 3 → PrintsFront IsText old new ⊎ FailsToSay store old new → NoCountFalls old new → IsPrinting IsText store old new status
  at_fault three fault later = record {
    statuses = inr (inr (inl three));
    done = λ z. absurd (omega arith);
    refused = λ z. absurd (omega arith);
    fault = λ z. fault;
    store_fault = λ z. absurd (omega arith);
    memory = λ z. absurd (omega arith);
    later = later;
    quiet = quiet;
  }

  at_store : status ≡ 4 → NamesFailure old new → NoCountFalls old new → IsPrinting IsText store old new status
  at_store four named later = record {
    statuses = inr (inr (inr (inl four)));
    done = λ z. absurd (omega arith);
    refused = λ z. absurd (omega arith);
    fault = λ z. absurd (omega arith);
    store_fault = λ z. named;
    memory = λ z. absurd (omega arith);
    later = later;
    quiet = quiet;
  }

  pub at_memory : status ≡ 5 → LeavesInput old new → new.streams.output ≡ old.streams.output → NoCountFalls old new → IsPrinting IsText store old new status
  at_memory five left output later = record {
    statuses = inr (inr (inr (inr five)));
    done = λ z. absurd (omega arith);
    refused = λ z. absurd (omega arith);
    fault = λ z. absurd (omega arith);
    store_fault = λ z. absurd (omega arith);
    memory = λ z. (left, output);
    later = later;
    quiet = quiet;
  }

  bad : (fault : OpenFault) → IsBadStore store old fault → EndsWith old.streams.errors new.streams.errors (fault_line fault) 1 status ⊎ ((status ≡ 5) × (new.streams.errors ≡ old.streams.errors))
      → IsUnused old new → NoCountFalls old new → IsPrinting IsText store old new status
  bad fault b (inl (inl e)) unused later = at_refused e.0 (record { fault = fault; bad = b; said = e.1; unused = unused }) later
  bad fault b (inl (inr e)) unused later = at_fault e.0 (inr (record { failed = e.1; fault = fault; cause = inl b; front = e.2; unused = unused })) later
  bad fault b (inr e) unused later = at_memory e.0 (record { input = unused.input; errors = e.1; stored = unused.stored }) unused.output later

  -- the opening was refused
  pub of_refused : (fault : OpenFault) → IsOpenStop store old.stores new.stores fault → IsSaid fault old.streams.errors new.streams.errors status → IsUnused old new → NoCountFalls old new
      → IsPrinting IsText store old new status
  of_refused Keeper stop (inl e) unused later = at_store e.0 (record { failed = stop.failed refl; said = e.1; unused = unused }) later
  of_refused Keeper stop (inr e) unused later = at_fault e.0 (inr (record { failed = e.1; fault = Keeper; cause = inr (refl, stop.failed refl); front = e.2; unused = unused })) later
  of_refused Memory stop said unused later = at_memory said.0 (record { input = unused.input; errors = said.1; stored = unused.stored }) unused.output later
  of_refused (BadTables which n rule) stop said unused later = bad (BadTables which n rule) (record { of_tables = tt; refused = stop.tables tt }) said unused later
  of_refused (BadRow which n) stop said unused later = bad (BadRow which n) (record { of_tables = tt; refused = stop.tables tt }) said unused later
  of_refused (Version n) stop said unused later = bad (Version n) (record { of_tables = tt; refused = stop.tables tt }) said unused later
  of_refused (BadNext which) stop said unused later = bad (BadNext which) (record { of_tables = tt; refused = stop.tables tt }) said unused later
  of_refused (Limit which n) stop said unused later = bad (Limit which n) (record { of_tables = tt; refused = stop.tables tt }) said unused later

  -- the text was printed, or could not be
  pub of_printed : (text : List ℕ) → IsText text → EndsWith old.streams.output new.streams.output text 0 status → LeavesInput old new → NoCountFalls old new → IsPrinting IsText store old new status
  of_printed text is (inl e) left later = at_done e.0 (text, is, e.1, left) later
  of_printed text is (inr e) left later = at_fault e.0 (inl (text, is, e.1, e.2, left)) later

-- a text that was printed, or could not be, is no want of memory
pub not_want : (old new : Told) (text : List ℕ) (status : ℕ) → EndsWith old new text 0 status → status ≡ 5 → ⊥
not_want old new text status (inl e) five = (let zero_ = e.0 in absurd (omega arith))
not_want old new text status (inr e) five = (let three = e.0 in absurd (omega arith))
