-- What is known of the rows of an import before any record is made, and what one row then does.
use Rattle.std.specs.Prelude.{◌≡◌, ℕ, Bool, List, [], ◌∷◌, Option, Some, None, Result, Ok, Err, map}
use Rattle.ipam_data.specs.declared.calls.Draft.{Draft}
use Rattle.ipam_data.specs.declared.imports.ImportRow.{ImportRow}
use Rattle.ipam_data.specs.declared.kinds.Kind.{Kind}
use Rattle.ipam_data.specs.declared.replies.Refusal.{Refusal}
use Rattle.ipam_data.specs.declared.replies.View.{View}
use Rattle.ipam_data.specs.ByKind.{by_kind}
use Rattle.ipam_data.specs.Checks.{first}
use Rattle.ipam_data.specs.Fields.{drafted}
use Rattle.ipam_data.specs.Imports.{draft_of, with_draft, create_checks}
use Rattle.ipam_data.specs.Plans.{KindRules}
use Rattle.ipam_data.specs.State.{State}
use Rattle.stored_tables.specs.Stored.{stored_row}
use Rattle.register_plans.specs.TextKeys.{key_of}
use Rattle.register_plans.specs.declared.imports.halt.Halt.{Halt}
use Rattle.register_plans.specs.declared.imports.ready.Ready.{Ready}
use Rattle.register_plans.specs.ImportHalts.{fault_of, IsHaltBy}

-- ---- keys

-- the texts under which the record of a draft is stored, which say nothing of its id
unfoldable pub texts_of : Draft → List (List ℕ)
texts_of draft = (stored_row (drafted 0 draft)).fields

-- the key of a draft
abbrev pub key_of_draft : Draft → List ℕ
key_of_draft draft = key_of (texts_of draft)

-- the key of a record
abbrev pub key_of_row : {T : Type 0} → KindRules T → T → List ℕ
key_of_row rules row = key_of (stored_row (rules.view row)).fields

-- those of the records of a kind
abbrev pub record_keys : State → Kind → List (List ℕ)
record_keys s kind = by_kind kind (λ T rules. map (key_of_row rules) (rules.row_list s).rows)

-- ---- before any record is made

-- the key of a draft, if its row is not refused by itself; of another row none is asked for
abbrev pub key_where : Option Refusal → Draft → List ℕ
key_where None draft = key_of_draft draft
key_where (Some refusal) draft = []

-- a row made ready: its draft, why it is refused by itself, and its key
abbrev pub ready_of : State → Kind → ImportRow → Ready
ready_of s kind row = record { draft = draft_of s row; fault = fault_of s kind row; key = key_where (fault_of s kind row) (draft_of s row) }

abbrev pub ready_rows : State → Kind → List ImportRow → List Ready
ready_rows s kind rows = map (ready_of s kind) rows

abbrev pub keys_of : List Ready → List (List ℕ)
keys_of rows = map (λ row. row.key) rows

-- ---- one row

-- why a row is refused, that was made ready and makes a record or does not
abbrev pub ready_checks : Bool → State → Ready → List (Option Refusal)
ready_checks makes s row = row.fault ∷ create_checks makes s row.draft

-- what one row does to the state and to the records that were made, if it makes a record or does not
abbrev pub IsTaken : Bool → Ready → State → List View → State → List View → Result (Unit {0}) Halt → Type 0
IsTaken makes row s made after more (Ok u) =
    (first (ready_checks makes s row) ≡ None)
    × ((with_draft makes (record { state = s; seen = []; made = made }) row.draft).state ≡ after)
    × ((with_draft makes (record { state = s; seen = []; made = made }) row.draft).made ≡ more)
IsTaken makes row s made after more (Err halt) = IsHaltBy (first (ready_checks makes s row)) halt
