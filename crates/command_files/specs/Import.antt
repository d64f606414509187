-- What a run of the command `import` promises of each status: the rows of a file become records of the register of a store, all of them in
-- one change, or none.
use Rattle.std.specs.Prelude.{◌≡◌, ℕ, ◌⊎◌, List, [], ◌∷◌, ◌++◌, Some, None, codes, decimal}
use Rattle.ipam_data.specs.declared.kinds.Kind.{Kind}
use Rattle.ipam_data.specs.declared.replies.Reply.TheVariants.{Imported}
use Rattle.ipam_data.specs.declared.replies.Refusal.{Refusal}
use Rattle.ipam_data.specs.declared.replies.Refusal.TheVariants.{Keeper as NotWritten}
use Rattle.ipam_data.specs.State.{State, verdict_of}
use Rattle.ipam_data.specs.Updates.{updated}
use Rattle.stored_tables.specs.declared.opening.OpenFault.{OpenFault}
use Rattle.stored_tables.specs.declared.opening.OpenFault.TheVariants.{Keeper as NotRead}
use Rattle.ipam_data.specs.declared.imports.ImportRow.{ImportRow}
use Rattle.ipam_data.specs.Imports.{import_plan}
use Rattle.command_words.specs.declared.asked.Store.{Store}
use Rattle.command_streams.specs.Streams.{Gains, GainsFront, Failed}
use Rattle.command_store.specs.Outside.{Outside, StoreFailed, AreSame, NoCountFalls, NoCountRises}
use Rattle.command_store.specs.FaultWords.{fault_line}
use Rattle.command_store.specs.Opening.{IsLoaded, HoldsTold, IsBadStore}
use Rattle.command_files.specs.Files.{GivesRows, RefusesFile, refusal_text}

-- how many records were made, and how many rows represent records that existed
abbrev pub counts_text : ℕ → ℕ → List ℕ
counts_text created present = codes "created " ++ decimal created ++ codes " present " ++ decimal present ++ 10 ∷ []

-- an import of rows that the input gave, into the state that was loaded
pub record IsImportOf (kind : Kind) (store : Store) (old new : Outside) (rows : List ImportRow) (state : State) : Type 0 where
  pub given : GivesRows kind old.streams.input new.streams.input rows
  pub loaded : IsLoaded store old state

-- it was accepted, and all of it is stored: known tables of the store are those of the state after it
pub record IsStored (kind : Kind) (store : Store) (old new : Outside) : Type 0 where
  pub rows : List ImportRow
  pub state : State
  pub import : IsImportOf kind store old new rows state
  pub accepted : verdict_of (import_plan state kind rows) ≡ None
  pub holds : HoldsTold store old new (updated state (import_plan state kind rows).update)
  pub created : ℕ
  pub present : ℕ
  pub counts : (import_plan state kind rows).reply ≡ Imported created present

-- the opener was not used
abbrev pub NothingOpened : Outside → Outside → Type 0
NothingOpened old new = new.stores ≡ old.stores

-- the file is refused so, and nothing was opened; or the import of its rows is
abbrev pub IsRefusedSo : Kind → Store → Outside → Outside → Refusal → Type 0
IsRefusedSo kind store old new refusal =
    (RefusesFile kind old.streams.input refusal × NothingOpened old new)
    ⊎ ((rows : List ImportRow) × (state : State) × IsImportOf kind store old new rows state × (verdict_of (import_plan state kind rows) ≡ Some refusal))

-- nothing was printed, and known tables are unchanged
pub record LeavesAll (old new : Outside) : Type 0 where
  pub output : new.streams.output ≡ old.streams.output
  pub stored : AreSame old.stores.stored new.stores.stored

-- 0: the counts are on the output, and the import is stored
pub record PrintsCounts (kind : Kind) (store : Store) (old new : Outside) : Type 0 where
  pub done : IsStored kind store old new
  pub printed : Gains old.streams.output new.streams.output (counts_text done.created done.present)
  pub silent : new.streams.errors ≡ old.streams.errors

-- 1: what is refused was said: the file, a row of it or the import, or what the store's tables have wrong
pub record NamesRefusal (kind : Kind) (store : Store) (old new : Outside) : Type 0 where
  pub refusal : Refusal
  pub cause : IsRefusedSo kind store old new refusal
  pub said : Gains old.streams.errors new.streams.errors (refusal_text refusal)
  pub left : LeavesAll old new

pub record NamesTables (store : Store) (old new : Outside) : Type 0 where
  pub fault : OpenFault
  pub bad : IsBadStore store old fault
  pub said : Gains old.streams.errors new.streams.errors (fault_line fault)
  pub left : LeavesAll old new

-- 4: the store could not be opened, since it failed, which was said
pub record NamesUnread (old new : Outside) : Type 0 where
  pub failed : StoreFailed old new
  pub said : Gains old.streams.errors new.streams.errors (fault_line NotRead)
  pub left : LeavesAll old new

-- no check refuses the import of rows that the input gave, into the state that was loaded; but the store failed
pub record IsUnwritten (kind : Kind) (store : Store) (old new : Outside) : Type 0 where
  pub rows : List ImportRow
  pub state : State
  pub import : IsImportOf kind store old new rows state
  pub accepted : verdict_of (import_plan state kind rows) ≡ None
  pub failed : StoreFailed old new

-- 4: the import could not be stored, which was said
pub record NamesUnwritten (kind : Kind) (store : Store) (old new : Outside) : Type 0 where
  pub unwritten : IsUnwritten kind store old new
  pub said : Gains old.streams.errors new.streams.errors (refusal_text NotWritten)
  pub left : LeavesAll old new

-- 3: the input failed, and nothing was opened
pub record FailsToRead (old new : Outside) : Type 0 where
  pub failed : Failed old.streams.input new.streams.input
  pub unopened : NothingOpened old new
  pub left : LeavesAll old new
  pub silent : new.streams.errors ≡ old.streams.errors

-- 3: the output failed, with a prefix of the counts of an import that is stored
pub record FailsToPrint (kind : Kind) (store : Store) (old new : Outside) : Type 0 where
  pub failed : Failed old.streams.output new.streams.output
  pub done : IsStored kind store old new
  pub front : GainsFront old.streams.output new.streams.output (counts_text done.created done.present)
  pub silent : new.streams.errors ≡ old.streams.errors

-- the text names what stopped the import: a refusal, the store's tables, or the store that failed when it was opened or written
abbrev pub IsToSay : Kind → Store → Outside → Outside → List ℕ → Type 0
IsToSay kind store old new text =
    ((refusal : Refusal) × IsRefusedSo kind store old new refusal × (text ≡ refusal_text refusal))
    ⊎ ((fault : OpenFault) × IsBadStore store old fault × (text ≡ fault_line fault))
    ⊎ (StoreFailed old new × (text ≡ fault_line NotRead))
    ⊎ (IsUnwritten kind store old new × (text ≡ refusal_text NotWritten))

-- 3: what was to be said could not be, and the messages have a prefix of it
pub record FailsToSay (kind : Kind) (store : Store) (old new : Outside) : Type 0 where
  pub failed : Failed old.streams.errors new.streams.errors
  pub text : List ℕ
  pub cause : IsToSay kind store old new text
  pub front : GainsFront old.streams.errors new.streams.errors text
  pub left : LeavesAll old new

-- a run of `import`
pub record IsImport (kind : Kind) (store : Store) (old new : Outside) (status : ℕ) : Type 0 where
  pub statuses : (status ≡ 0) ⊎ (status ≡ 1) ⊎ (status ≡ 3) ⊎ (status ≡ 4) ⊎ (status ≡ 5)
  pub done : status ≡ 0 → PrintsCounts kind store old new
  pub refused : status ≡ 1 → NamesRefusal kind store old new ⊎ NamesTables store old new
  pub fault : status ≡ 3 → FailsToRead old new ⊎ FailsToPrint kind store old new ⊎ FailsToSay kind store old new
  pub store_fault : status ≡ 4 → NamesUnread old new ⊎ NamesUnwritten kind store old new
  -- 5: out of memory. Nothing was said
  pub memory : status ≡ 5 → LeavesAll old new × (new.streams.errors ≡ old.streams.errors)
  -- no count of faults falls
  pub later : NoCountFalls old new
  -- 5: none rose
  pub quiet : status ≡ 5 → NoCountRises old new
