-- What is known of an import on its way into a store: while it is made, when it is stored, and where it stops.
use Rattle.std.specs.Prelude.{◌≡◌, ℕ, List, Option, Some, None, IsSome}
use Rattle.ipam_data.specs.declared.kinds.Kind.{Kind}
use Rattle.ipam_data.specs.declared.replies.Reply.TheVariants.{Imported}
use Rattle.ipam_data.specs.declared.replies.Refusal.{Refusal}
use Rattle.ipam_data.specs.declared.replies.Refusal.TheVariants.{Keeper as NotWritten, Memory as NoMemory}
use Rattle.ipam_data.specs.State.{State, Plan, verdict_of}
use Rattle.ipam_data.specs.Updates.{updated}
use Rattle.stored_tables.specs.declared.tables.Tables.{Tables}
use Rattle.stored_tables.specs.declared.opening.OpenFault.{OpenFault}
use Rattle.stored_tables.specs.declared.opening.OpenFault.TheVariants.{Keeper as NotRead}
use Rattle.stored_tables.specs.Stored.{Tells}
use Rattle.stored_tables.specs.Opening.{IsOfTables}
use Rattle.ipam_keeper.specs.Keeping.{Rose, started, IsReturned}
use Rattle.ipam_data.specs.declared.imports.ImportRow.{ImportRow}
use Rattle.ipam_data.specs.Imports.{import_plan}
use Rattle.register_core.specs.Opened.{IsOpened, IsUnopened}
use Rattle.command_words.specs.declared.asked.Store.{Store}
use Rattle.command_streams.specs.Streams.{Told, EndsWith}
use Rattle.command_store.specs.Outside.{Stores, AreSame}
use Rattle.command_store.specs.FaultWords.{IsSaid}
use Rattle.command_files.specs.declared.calls.Counts.{Counts}
use Rattle.command_files.specs.declared.calls.MakeStop.{MakeStop}
use Rattle.command_files.specs.declared.calls.MakeStop.TheVariants.{Refused, Keeper, Memory}
use Rattle.command_files.specs.declared.import.ImportStop.{ImportStop}
use Rattle.command_files.specs.declared.import.ImportStop.TheVariants.{Opening, Making}
use Rattle.command_files.specs.Files.{NamesIt, refusal_text}

-- what stops an import that is refused so: the keeper and out of memory are separate
abbrev pub stop_of : Refusal → MakeStop
stop_of NotWritten = Keeper
stop_of NoMemory = Memory
stop_of refusal = Refused refusal

-- no check of the plan refuses, and these are the counts of its answer
abbrev pub IsCounted : Plan → Counts → Type 0
IsCounted plan counts = (verdict_of plan ≡ None) × (plan.reply ≡ Imported counts.created counts.present)

-- it stops by the plan's refusal, or by the keeper if no check refuses, or for lack of memory
abbrev pub IsMakeStop : Plan → MakeStop → Type 0
IsMakeStop plan (Refused refusal) = verdict_of plan ≡ Some refusal
IsMakeStop plan Keeper = verdict_of plan ≡ None
IsMakeStop plan Memory = Unit {0}

-- the state is the one that the store's tables represent
abbrev pub IsFound : Store → Stores → State → Type 0
IsFound store old state = IsOpened (started old.stored store.db) store.global_unique state

-- the rows were put into the store, with these counts
pub record HasImported (kind : Kind) (store : Store) (rows : List ImportRow) (old new : Stores) (counts : Counts) : Type 0 where
  pub state : State
  pub found : IsFound store old state
  pub counted : IsCounted (import_plan state kind rows) counts
  pub told : Option Tables
  pub telling : IsSome (started old.stored store.db) → IsSome told
  pub tells : Tells told (updated state (import_plan state kind rows).update)
  pub returned : IsReturned (Some store.db) told old.stored new.stored

-- the opening was refused so
pub record IsOpenStop (store : Store) (old new : Stores) (fault : OpenFault) : Type 0 where
  pub tables : IsOfTables fault → IsUnopened (started old.stored store.db) store.global_unique fault
  pub failed : fault ≡ NotRead → Rose old.faults new.faults

-- why the rows were not put into the store
abbrev pub IsStop : Kind → Store → List ImportRow → Stores → Stores → ImportStop → Type 0
IsStop kind store rows old new (Opening fault) = IsOpenStop store old new fault
IsStop kind store rows old new (Making (Refused refusal)) = (state : State) × IsFound store old state × (verdict_of (import_plan state kind rows) ≡ Some refusal)
IsStop kind store rows old new (Making Keeper) =
    (state : State) × IsFound store old state × (verdict_of (import_plan state kind rows) ≡ None) × Rose old.faults new.faults
IsStop kind store rows old new (Making Memory) = Unit {0}

-- the store failed
abbrev pub IsStoreStop : ImportStop → Type 0
IsStoreStop (Opening fault) = fault ≡ NotRead
IsStoreStop (Making (Refused refusal)) = ⊥
IsStoreStop (Making Keeper) = Unit {0}
IsStoreStop (Making Memory) = ⊥

-- and known tables are unchanged
pub record IsImportStop (kind : Kind) (store : Store) (rows : List ImportRow) (old new : Stores) (stop : ImportStop) : Type 0 where
  pub cause : IsStop kind store rows old new stop
  pub same : AreSame old.stored new.stored

-- why the rows were not made was said, with its status
abbrev pub IsMakingSaid : MakeStop → Told → Told → ℕ → Type 0
IsMakingSaid (Refused refusal) old new status = NamesIt refusal 1 old new status
IsMakingSaid Keeper old new status = EndsWith old new (refusal_text NotWritten) 4 status
IsMakingSaid Memory old new status = (status ≡ 5) × (new ≡ old)

-- it was said, with its status
abbrev pub IsStopSaid : ImportStop → Told → Told → ℕ → Type 0
IsStopSaid (Opening fault) old new status = IsSaid fault old new status
IsStopSaid (Making stop) old new status = IsMakingSaid stop old new status
