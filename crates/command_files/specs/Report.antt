-- What a run of the command `report` promises of each status: a text about the prefixes of a register, and the store unchanged.
use Rattle.std.specs.Prelude.{◌≡◌, ℕ, ◌⊎◌, List, Option, Some, None, option_map, take}
use Rattle.inet_num.specs.Net.{Cidr}
use Rattle.inet_num.specs.Free.{available_blocks_of}
use Rattle.ipam_data.specs.declared.kinds.Kind.TheVariants.{Prefixes}
use Rattle.ipam_data.specs.declared.prefix.Prefix.{Prefix}
use Rattle.ipam_data.specs.declared.replies.Refusal.{Refusal}
use Rattle.ipam_data.specs.declared.replies.Refusal.TheVariants.{NotFound}
use Rattle.ipam_data.specs.Rows.{prefix_id}
use Rattle.ipam_data.specs.RowList.{row_at}
use Rattle.ipam_data.specs.Claims.{child_blocks}
use Rattle.ipam_data.specs.State.{State}
use Rattle.ipam_data.specs.Survey.{survey_of}
use Rattle.ipam_report.specs.Reports.{tree_text, table_text, free_text}
use Rattle.command_words.specs.declared.asked.Report.{Report}
use Rattle.command_words.specs.declared.asked.Report.TheVariants.{Tree, Utilization, Free}
use Rattle.command_words.specs.declared.asked.Store.{Store}
use Rattle.command_streams.specs.Streams.{Told, Gains, GainsFront, Failed}
use Rattle.command_store.specs.Outside.{Outside, IsUnused, NoCountFalls, NoCountRises}
use Rattle.command_store.specs.Opening.{IsLoaded, NamesFault, NamesFailure, FailsToSay}
use Rattle.command_files.specs.declared.calls.ReportStop.{ReportStop}
use Rattle.command_files.specs.declared.calls.ReportStop.TheVariants.{Absent, Memory}
use Rattle.command_files.specs.Files.{refusal_text, NamesIt}
use Rattle.command_files.specs.Export.{LeavesInput, Prints, PrintsFront}

-- at most so many blocks are listed of what is free
abbrev pub most_blocks : ℕ
most_blocks = 1000

-- the first available blocks of a prefix, as lines
abbrev pub free_lines_of : State → Prefix → List ℕ
free_lines_of s row = free_text (take most_blocks (available_blocks_of row.block (child_blocks s.prefixes.rows row)))

-- the text of a report, unless it is of a prefix that is not there
abbrev pub report_text : State → Report → Option (List ℕ)
report_text s Tree = Some (tree_text (survey_of s))
report_text s Utilization = Some (table_text (survey_of s))
report_text s (Free n) = option_map (free_lines_of s) (row_at prefix_id s.prefixes.rows n)

-- what is said if the prefix of a report is not there
abbrev pub report_refusal : Report → Option Refusal
report_refusal Tree = None
report_refusal Utilization = None
report_refusal (Free n) = Some (NotFound Prefixes n)

-- a report of this state has no text since it is of a prefix that is not there, and this is to be said of it
abbrev pub IsAbsentIn : State → Report → Refusal → Type 0
IsAbsentIn s report refusal = (report_text s report ≡ None) × (report_refusal report ≡ Some refusal)

-- what a refusal of the blocks of a prefix represents
abbrev pub report_stop_of : Refusal → ReportStop
report_stop_of (NotFound kind n) = Absent (NotFound kind n)
report_stop_of refusal = Memory

-- these are the first available blocks of the prefix of an id
abbrev pub IsFirstFree : State → ℕ → List Cidr → Type 0
IsFirstFree s n list =
    (row : Prefix) × (row_at prefix_id s.prefixes.rows n ≡ Some row) × (list ≡ take most_blocks (available_blocks_of row.block (child_blocks s.prefixes.rows row)))

-- why a report of this state has no text
abbrev pub IsReportStop : State → Report → ReportStop → Type 0
IsReportStop s report (Absent refusal) = IsAbsentIn s report refusal
IsReportStop s report Memory = Unit {0}

-- that was said, with its status
abbrev pub IsReportStopSaid : ReportStop → Told → Told → ℕ → Type 0
IsReportStopSaid (Absent refusal) old new status = NamesIt refusal 1 old new status
IsReportStopSaid Memory old new status = (status ≡ 5) × (new ≡ old)

-- the text of a report of the state that was loaded
abbrev pub IsReportText : Report → Store → Outside → List ℕ → Type 0
IsReportText report store old text = (state : State) × IsLoaded store old state × (report_text state report ≡ Some text)

-- the state that was loaded has no prefix of the id, and this is to be said of it
abbrev pub IsAbsent : Report → Store → Outside → Refusal → Type 0
IsAbsent report store old refusal = (state : State) × IsLoaded store old state × IsAbsentIn state report refusal

-- that was said, and nothing else was used
pub record NamesAbsent (report : Report) (store : Store) (old new : Outside) : Type 0 where
  pub refusal : Refusal
  pub absent : IsAbsent report store old refusal
  pub said : Gains old.streams.errors new.streams.errors (refusal_text refusal)
  pub unused : IsUnused old new

-- it could not be said
pub record FailsToSayAbsent (report : Report) (store : Store) (old new : Outside) : Type 0 where
  pub failed : Failed old.streams.errors new.streams.errors
  pub refusal : Refusal
  pub absent : IsAbsent report store old refusal
  pub front : GainsFront old.streams.errors new.streams.errors (refusal_text refusal)
  pub unused : IsUnused old new

-- a run of `report`
pub record IsReport (report : Report) (store : Store) (old new : Outside) (status : ℕ) : Type 0 where
  pub statuses : (status ≡ 0) ⊎ (status ≡ 1) ⊎ (status ≡ 3) ⊎ (status ≡ 4) ⊎ (status ≡ 5)
  pub done : status ≡ 0 → Prints (IsReportText report store old) old new
  -- 1: the opening was refused for what the store holds, or the prefix is not there
  pub refused : status ≡ 1 → NamesFault store old new ⊎ NamesAbsent report store old new
  -- 3: the output failed, or what was to be said could not be
  pub fault : status ≡ 3 → PrintsFront (IsReportText report store old) old new ⊎ FailsToSay store old new ⊎ FailsToSayAbsent report store old new
  -- 4: the opening was refused since the store failed
  pub store_fault : status ≡ 4 → NamesFailure old new
  -- 5: out of memory. Nothing was printed, and nothing said
  pub memory : status ≡ 5 → LeavesInput old new × (new.streams.output ≡ old.streams.output)
  pub later : NoCountFalls old new
  -- 5: no count of faults rose
  pub quiet : status ≡ 5 → NoCountRises old new
