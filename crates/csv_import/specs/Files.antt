-- What a file of an import asks for: its rows, or the first fault.
use Rattle.std.specs.Prelude.{◌≡◌, ◌⊎◌, ℕ, ◌+◌, ◌<◌, ◌≤◌, List, [], ◌∷◌, length, Result, Ok, Err, MatchBool}
use Rattle.csv.specs.Reading.{AreRecords, default_config, strip_bom}
use Rattle.csv.specs.declared.parser.State.TheVariants as st
use Rattle.ipam_data.specs.declared.kinds.Kind.{Kind}
use Rattle.ipam_data.specs.declared.imports.ImportRow.{ImportRow}
use Rattle.ipam_data.specs.declared.replies.FieldName.TheVariants.{Column as ColumnField}
use Rattle.ipam_data.specs.declared.replies.Part.TheVariants.{Body}
use Rattle.ipam_data.specs.declared.replies.RowFault.{RowFault}
use Rattle.ipam_data.specs.declared.replies.RowFault.TheVariants.{Field}
use Rattle.ipam_data.specs.declared.replies.Refusal.{Refusal}
use Rattle.ipam_data.specs.declared.replies.Refusal.TheVariants.{TooLarge, Row, Memory}
use Rattle.csv_import.specs.declared.stops.Stop.{Stop}
use Rattle.csv_import.specs.declared.stops.Stop.TheVariants.{Fault, Memory as Stopped}
use Rattle.csv_import.specs.declared.files.TheConstants.{MOST_BYTES}
use Rattle.csv_import.specs.Columns.{is_header}
use Rattle.csv_import.specs.Rows.{IsRowOf}

-- how many bytes a file may have
abbrev pub most_bytes : ℕ
most_bytes = MOST_BYTES

-- the rows of records under a header, from row n on: the first that is refused is answered
abbrev pub AreRowsOf : Kind → List (List ℕ) → ℕ → List (List (List ℕ)) → Result (List ImportRow) Refusal → Type 0
AreRowsOf kind header n [] (Ok rows) = rows ≡ []
AreRowsOf kind header n [] (Err refusal) = ⊥
AreRowsOf kind header n (fields ∷ records) (Ok rows) =
    (row : ImportRow) × (others : List ImportRow) × IsRowOf kind header fields (Ok row) × AreRowsOf kind header (n + 1) records (Ok others) × (rows ≡ row ∷ others)
AreRowsOf kind header n (fields ∷ records) (Err refusal) =
    ((fault : RowFault) × IsRowOf kind header fields (Err fault) × (refusal ≡ Row n fault))
    ⊎ ((row : ImportRow) × IsRowOf kind header fields (Ok row) × AreRowsOf kind header (n + 1) records (Err refusal))

-- a header comes first
abbrev pub IsTableOf : Kind → List (List (List ℕ)) → Result (List ImportRow) Refusal → Type 0
IsTableOf kind [] answer = answer ≡ Err (Row 0 (Field ColumnField))
IsTableOf kind (header ∷ records) answer = MatchBool (is_header kind header) (AreRowsOf kind header 1 records answer) (answer ≡ Err (Row 0 (Field ColumnField)))

-- what the bytes of a file ask for
abbrev pub IsFileOf : Kind → List ℕ → Result (List ImportRow) Refusal → Type 0
IsFileOf kind bytes answer =
    ((most_bytes < length bytes) × (answer ≡ Err (TooLarge Body)))
    ⊎ ((length bytes ≤ most_bytes) × (records : List (List (List ℕ))) × AreRecords default_config st.StartRecord (strip_bom bytes) records × IsTableOf kind records answer)

-- what a stop at the row with this number is answered
abbrev pub refusal_of : ℕ → Stop → Refusal
refusal_of n (Fault fault) = Row n fault
refusal_of n Stopped = Memory
