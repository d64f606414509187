-- Where nothing fails, a cause of status 1 gives it: with status 0 the state was loaded and the file was read, and both have no fault.
use Rattle.std.proofs.Common.{◌≡◌, ℕ, ◌⊎◌, inl, inr, Bool, List, [], Option, Some, None, Result, Ok, Err, IfSome, refl, sym, ◌∙◌, ap, subst, arith}
use Rattle.ipam_data.specs.declared.kinds.Kind.{Kind}
use Rattle.ipam_data.specs.declared.replies.Refusal.{Refusal}
use Rattle.ipam_data.specs.State.{State, verdict_of}
use Rattle.stored_tables.specs.declared.tables.Tables.{Tables}
use Rattle.stored_tables.specs.Opening.{IsOpening}
use Rattle.stored_tables.specs.declared.migration.MigrateFault.{MigrateFault}
use Rattle.stored_tables.specs.Migration.{unmigrated}
use Rattle.ipam_keeper.specs.Keeping.{IsTold}
use Rattle.ipam_data.specs.declared.imports.ImportRow.{ImportRow}
use Rattle.ipam_data.specs.Imports.{import_plan}
use Rattle.csv_import.specs.Files.{IsFileOf}
use Rattle.csv_import.proofs.OneFile.{file_is_one}
use Rattle.command_words.specs.declared.asked.Command.{Command}
use Rattle.command_words.specs.declared.asked.Command.TheVariants.{Session, Serve, Mirror, Import, Export, Report, PrefixList, PrefixCheck, Reverse, Migrate}
use Rattle.command_words.specs.declared.asked.KindName.{KindName}
use Rattle.command_words.specs.declared.asked.Report.{Report as ReportName}
use Rattle.command_words.specs.declared.asked.Store.{Store}
use Rattle.command_words.specs.declared.asked.Serving.{Serving}
use Rattle.command_words.specs.Asked.{Asks}
use Rattle.command_store.specs.Outside.{Outside, AnyFailed}
use Rattle.command_store.specs.Opening.{found_tables, IsLoaded}
use Rattle.machine_serving.specs.Views.{ListenerView}
use Rattle.command_files.specs.Files.{kind_named, GivesRows}
use Rattle.command_files.specs.Import.{IsImportOf, IsStored}
use Rattle.command_files.specs.Report.{IsReportText, report_text}
use Rattle.command_migrate.specs.Migrate.{AreFit, tables_of_file}
use Rattle.ipam_command.specs.Runs.{Runs}
use Rattle.ipam_command.specs.Clauses.{HasClauses, AsksImport, AsksReport, AsksMigrate, ListenerFailed}
use Rattle.ipam_command.specs.Exact.{Opens, HasBadTables, IsToldState, HasBadFile, HasBadRows, LacksPrefix, HasUnmigrated, HasCause, RunsAreExact}
use Rattle.ipam_command.proofs.OpenedLaws.{opened_have_no_fault, opened_to_one_state}
use Rattle.ipam_command.proofs.RunLaws.{runs_have_clauses}

-- a state that was loaded is one for the told tables
loaded_of : (store : Store) (old : Outside) (state : State) (tables : Tables) → found_tables store old ≡ Some tables → IsLoaded store old state
    → IsOpening tables store.global_unique state
loaded_of store old state tables told loaded =
    let is : IsTold (Some tables) loaded.0 = subst (λ (t : Option Tables). IsTold t loaded.0) told loaded.1 in
    subst (λ (t : Tables). IsOpening t store.global_unique state) (sym is) loaded.2

-- so told tables with a fault were not loaded
not_loaded : (store : Store) (old : Outside) (state : State) → HasBadTables store old → IsLoaded store old state → ⊥
not_loaded store old state bad loaded =
    opened_have_no_fault bad.tables store.global_unique state bad.fault (loaded_of store old state bad.tables bad.told loaded) bad.of_tables bad.refused

-- and the state that was loaded is the one of the told tables
one_loaded : (store : Store) (old : Outside) (state other : State) → IsToldState store old state → IsLoaded store old other → state ≡ other
one_loaded store old state other is loaded =
    opened_to_one_state is.tables store.global_unique state other is.opening (loaded_of store old other is.tables is.told loaded)

-- a told file gave its rows
rows_given : (kind : Kind) (old new : Outside) (rows : List ImportRow) (bytes : List ℕ) → old.streams.input.bytes ≡ Some bytes
    → GivesRows kind old.streams.input new.streams.input rows → IsFileOf kind bytes (Ok rows)
rows_given kind old new rows bytes told gives =
    (subst (λ (found : Option (List ℕ)). IfSome found (λ b. IsFileOf kind b (Ok rows) × (new.streams.input.bytes ≡ Some []))) told gives).0

no_bad_file : (kind : Kind) (old new : Outside) (rows : List ImportRow) → HasBadFile kind old → GivesRows kind old.streams.input new.streams.input rows → ⊥
no_bad_file kind old new rows bad gives =
    let e : Err bad.refusal ≡ Ok rows = file_is_one kind bad.bytes (Err bad.refusal) (Ok rows) bad.file (rows_given kind old new rows bad.bytes bad.told gives) in cc

no_bad_rows : (kind : Kind) (store : Store) (old new : Outside) → HasBadRows kind store old → IsStored kind store old new → ⊥
no_bad_rows kind store old new bad done =
    let e : Ok bad.rows ≡ Ok done.rows = file_is_one kind bad.bytes (Ok bad.rows) (Ok done.rows) bad.file (rows_given kind old new done.rows bad.bytes bad.told done.import.given) in
    let rows : bad.rows ≡ done.rows = cc in
    let state : bad.state ≡ done.state = one_loaded store old bad.state done.state bad.opened done.import.loaded in
    let verdict : verdict_of (import_plan done.state kind done.rows) ≡ Some bad.refusal =
    subst (λ (r : List ImportRow). verdict_of (import_plan done.state kind r) ≡ Some bad.refusal) rows
    (subst (λ (s : State). verdict_of (import_plan s kind bad.rows) ≡ Some bad.refusal) state bad.verdict) in
    let none = done.accepted in cc

no_absent : (report : ReportName) (store : Store) (old : Outside) (text : List ℕ) → LacksPrefix report store old → IsReportText report store old text → ⊥
no_absent report store old text lacks has =
    let state : lacks.state ≡ has.0 = one_loaded store old lacks.state has.0 lacks.opened has.1 in
    let none : report_text has.0 report ≡ None = subst (λ (s : State). report_text s report ≡ None) state lacks.absent.0 in
    let some = has.2 in cc

-- told tables that can't be migrated were not
not_fit : (db : List ℕ) (old : Outside) → HasUnmigrated db old → AreFit (tables_of_file db old.stores) → ⊥
not_fit db old bad fits =
    let is : IsTold (Some bad.tables) fits.tables = subst (λ (t : Option Tables). IsTold t fits.tables) bad.told fits.found in
    let refused : unmigrated fits.tables ≡ Some bad.fault = subst (λ (t : Tables). unmigrated t ≡ Some bad.fault) is bad.refused in
    let none = fits.fit in cc

module _ (words : List (List ℕ)) (old new : Outside) (before after : ListenerView) (status : ℕ) (h : HasClauses words old new before after status)
    (well : ¬ AnyFailed old new) (heard : (command : Command) → Asks words command → ¬ ListenerFailed command before after) where
  -- a command that is not done was refused, memory apart
  not_done : (command : Command) → Asks words command → (status ≡ 0 → ⊥) → (status ≡ 1) ⊎ (status ≡ 5)
  not_done command asks undone = elim (h.complete command asks well (heard command asks)) [
    | inl e ↦ absurd (undone e)
    | inr rest ↦ rest
  ]

  of_bad_tables : (store : Store) → Opens words store → HasBadTables store old → (status ≡ 1) ⊎ (status ≡ 5)
  of_bad_tables store opens bad = elim opens [
    | inl asks ↦ not_done (Session store) asks (λ z. (let s = ((h.session store asks).done z).serves in not_loaded store old s.state bad s.loaded))
    | inr a ↦ elim a [
      | inl serves ↦ (
          let mine : HasBadTables serves.0.store old = subst (λ (t : Store). HasBadTables t old) (sym serves.2) bad in
          not_done (Serve serves.0) serves.1 (λ z. (let s = ((h.serve serves.0 serves.1).done z).serves in not_loaded serves.0.store old s.state mine s.loaded)))
      | inr b ↦ elim b [
        | inl imports ↦ not_done (Import imports.0 store) imports.1 (λ z. (
            let s = (((h.import imports.0 store imports.1).0.done z).done) in not_loaded store old s.state bad s.import.loaded))
        | inr c ↦ elim c [
          | inl exports ↦ not_done (Export exports.0 store) exports.1 (λ z. (
              let s = ((h.export exports.0 store exports.1).0.done z).1 in not_loaded store old s.0 bad s.1))
          | inr d ↦ elim d [
            | inl reports ↦ not_done (Report reports.0 store) reports.1 (λ z. (
                let s = ((h.report reports.0 store reports.1).0.done z).1 in not_loaded store old s.0 bad s.1))
            | inr e ↦ elim e [
              | inl lists ↦ (
                  let mine : HasBadTables lists.0.store old = subst (λ (t : Store). HasBadTables t old) (sym lists.2) bad in
                  elim lists.1 [
                    | inl asks ↦ not_done (PrefixList lists.0) asks (λ z. (
                        let s = ((h.answers (PrefixList lists.0) asks).0.done z).of_table in not_loaded lists.0.store old s.0 mine s.1.loaded))
                    | inr asks ↦ not_done (PrefixCheck lists.0) asks (λ z. (
                        let s = ((h.answers (PrefixCheck lists.0) asks).0.done z).of_both in not_loaded lists.0.store old s.0 mine s.2.loaded))
                  ])
              | inr f ↦ elim f [
                | inl zones ↦ not_done (Reverse zones.0 store) zones.1 (λ z. (
                    let s = ((h.answers (Reverse zones.0 store) zones.1).0.done z).1 in not_loaded store old s.0 bad s.1))
                | inr mirrors ↦ (
                    let mine : HasBadTables mirrors.0.store old = subst (λ (t : Store). HasBadTables t old) (sym mirrors.2) bad in
                    not_done (Mirror mirrors.0) mirrors.1 (λ z. (
                    let s = ((h.mirror mirrors.0 mirrors.1).done z).0.mirrored.mirrors.serves in not_loaded mirrors.0.store old s.state mine s.loaded)))
              ]
            ]
          ]
        ]
      ]
    ]
  ]

  of_bad_import : (kind : KindName) (store : Store) → AsksImport words kind store → HasBadFile (kind_named kind) old ⊎ HasBadRows (kind_named kind) store old
      → (status ≡ 1) ⊎ (status ≡ 5)
  of_bad_import kind store asks bad = not_done (Import kind store) asks (λ z. (
      let s = ((h.import kind store asks).0.done z).done in
      elim bad [
        | inl file ↦ no_bad_file (kind_named kind) old new s.rows file s.import.given
        | inr rows ↦ no_bad_rows (kind_named kind) store old new rows s
      ]))

  of_absent : (report : ReportName) (store : Store) → AsksReport words report store → LacksPrefix report store old → (status ≡ 1) ⊎ (status ≡ 5)
  of_absent report store asks lacks = not_done (Report report store) asks (λ z. (
      let s = (h.report report store asks).0.done z in no_absent report store old s.0 lacks s.1))

  of_unmigrated : (db : List ℕ) (populated : Bool) → AsksMigrate words db populated → HasUnmigrated db old → (status ≡ 1) ⊎ (status ≡ 5)
  of_unmigrated db populated asks bad = not_done (Migrate db populated) asks (λ z. (
      let done = ((h.answers (Migrate db populated) asks).0.done z).done in not_fit db old bad done.1.of))

pub runs_are_exact : RunsAreExact
runs_are_exact words old new before after status runs well heard cause =
    let h = runs_have_clauses words old new before after status runs in
    elim cause [
      | inl tables ↦ of_bad_tables words old new before after status h well heard tables.0 tables.1 tables.2
      | inr a ↦ elim a [
        | inl imports ↦ of_bad_import words old new before after status h well heard imports.0 imports.1 imports.2 imports.3
        | inr b ↦ elim b [
          | inl reports ↦ of_absent words old new before after status h well heard reports.0 reports.1 reports.2 reports.3
          | inr files ↦ of_unmigrated words old new before after status h well heard files.0 files.1 files.2 files.3
        ]
      ]
    ]
