-- What a run of the command `export` promises of each status: all records of a kind as the rows of a file, and the store unchanged.
use Rattle.std.specs.Prelude.{◌≡◌, ℕ, ◌⊎◌, List}
use Rattle.ipam_data.specs.declared.kinds.Kind.{Kind}
use Rattle.ipam_data.specs.State.{State}
use Rattle.csv_import.specs.Exports.{rows_text}
use Rattle.ipam_data.specs.Exported.{exported}
use Rattle.command_words.specs.declared.asked.Store.{Store}
use Rattle.command_streams.specs.Streams.{Gains, GainsFront, Failed}
use Rattle.command_store.specs.Outside.{Outside, AreSame, NoCountFalls, NoCountRises}
use Rattle.command_store.specs.Opening.{IsLoaded, NamesFault, NamesFailure, FailsToSay}

-- the text of an export of the state that was loaded
abbrev pub IsExportText : Kind → Store → Outside → List ℕ → Type 0
IsExportText kind store old text = (state : State) × IsLoaded store old state × (text ≡ rows_text kind (exported state kind))

-- the input and the messages were left alone, and known tables are unchanged
pub record LeavesInput (old new : Outside) : Type 0 where
  pub input : new.streams.input ≡ old.streams.input
  pub errors : new.streams.errors ≡ old.streams.errors
  pub stored : AreSame old.stores.stored new.stores.stored

-- the text is on the output
abbrev pub Prints : (List ℕ → Type 0) → Outside → Outside → Type 0
Prints IsText old new = (text : List ℕ) × IsText text × Gains old.streams.output new.streams.output text × LeavesInput old new

-- the output failed, with a prefix of the text
abbrev pub PrintsFront : (List ℕ → Type 0) → Outside → Outside → Type 0
PrintsFront IsText old new =
    (text : List ℕ) × IsText text × Failed old.streams.output new.streams.output × GainsFront old.streams.output new.streams.output text × LeavesInput old new

-- a run of a command that prints a text of the register that is loaded
pub record IsPrinting (IsText : List ℕ → Type 0) (store : Store) (old new : Outside) (status : ℕ) : Type 0 where
  pub statuses : (status ≡ 0) ⊎ (status ≡ 1) ⊎ (status ≡ 3) ⊎ (status ≡ 4) ⊎ (status ≡ 5)
  pub done : status ≡ 0 → Prints IsText old new
  -- 1: the opening was refused for what the store holds
  pub refused : status ≡ 1 → NamesFault store old new
  -- 3: the output failed, or what was to be said of the opening could not be
  pub fault : status ≡ 3 → PrintsFront IsText old new ⊎ FailsToSay store old new
  -- 4: the opening was refused since the store failed
  pub store_fault : status ≡ 4 → NamesFailure old new
  -- 5: out of memory. Nothing was printed, and nothing said
  pub memory : status ≡ 5 → LeavesInput old new × (new.streams.output ≡ old.streams.output)
  pub later : NoCountFalls old new
  -- 5: no count of faults rose
  pub quiet : status ≡ 5 → NoCountRises old new

-- a run of `export`
abbrev pub IsExport : Kind → Store → Outside → Outside → ℕ → Type 0
IsExport kind store old new status = IsPrinting (IsExportText kind store old) store old new status
