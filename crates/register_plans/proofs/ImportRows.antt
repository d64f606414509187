-- The rows of an import that were made ready, one by one.
use Rattle.std.proofs.Common.{◌≡◌, ◌∙◌, ℕ, ◌+◌, ◌<◌, Bool, true, List, [], ◌∷◌, ◌++◌, length, get_or, Option, Some, None, Ok, ap, sym, subst, arith, refl}
use Rattle.std.specs.Prelude.{bytes_eq}
use Rattle.std.specs.List.{AllByRecursion, list_any}
use Rattle.ipam_data.specs.declared.imports.ImportRow.{ImportRow}
use Rattle.ipam_data.specs.declared.kinds.Kind.{Kind}
use Rattle.ipam_data.specs.declared.replies.Refusal.{Refusal}
use Rattle.ipam_data.specs.declared.replies.View.{View}
use Rattle.ipam_data.specs.Checks.{first}
use Rattle.ipam_data.specs.Fields.{kind_of_draft, told_of_draft}
use Rattle.ipam_data.specs.Imports.{HasRowBounds, create_checks}
use Rattle.ipam_data.specs.Lawful.{IsLawful}
use Rattle.ipam_data.specs.State.{State}
use Rattle.register_plans.specs.declared.imports.leftovers.Leftovers.{Leftovers}
use Rattle.register_plans.specs.RecordsLeft.{IsLeft}
use Rattle.register_plans.specs.declared.imports.ready.Ready.{Ready}
use Rattle.register_plans.specs.ReadyRows.{ready_rows, keys_of, record_keys, IsTaken}
use Rattle.register_plans.proofs.CountedKeys.{any_at}
use Rattle.register_plans.proofs.KeptDraftLaws.{kind_same}
use Rattle.register_plans.proofs.ImportLoops.{HasComeTo, IsAt, line_at, makes, come_more}
use Rattle.register_plans.proofs.ImportRecords.{IsFaultless, faultless, nothing_told}

module _ (old : State) (kind : Kind) (lines : List ImportRow) (rows : List Ready) (i : ℕ) (row : Ready) (e : rows ≡ ready_rows old kind lines) (low : i < length rows) (g : row ≡ get_or rows i row) where
  -- the row at an index, and its line
  pub row_at : AllByRecursion HasRowBounds lines → IsAt old kind lines i row
  row_at b =
      let same : length rows ≡ length (ready_rows old kind lines) = ap (λ (rs : List Ready). length rs) e in
      subst (λ (r : Ready). IsAt old kind lines i r) (sym (g ∙ ap (λ (rs : List Ready). get_or rs i row) e)) (line_at old kind lines i row b (omega arith))

  -- it has one of the keys of all rows
  pub row_any : list_any (bytes_eq row.key) (keys_of (ready_rows old kind lines)) ≡ true
  row_any =
      subst (λ (rs : List Ready). list_any (bytes_eq row.key) (keys_of rs) ≡ true) e
      (subst (λ (r : Ready). list_any (bytes_eq r.key) (keys_of rows) ≡ true) (sym g) (any_at rows i row low))

module _ (old : State) (kind : Kind) (lines : List ImportRow) (i : ℕ) (row : Ready) (at : IsAt old kind lines i row) where
  is_faultless : row.fault ≡ None → IsFaultless old kind at.line
  is_faultless f = faultless old kind at.line (ap (λ (r : Ready). r.fault) (sym at.is) ∙ f)

  -- where it is not refused by itself, nothing is told of its draft
  pub row_told : row.fault ≡ None → first (told_of_draft row.draft) ≡ None
  row_told f = ap (λ (r : Ready). first (told_of_draft r.draft)) at.is ∙ nothing_told old at.line (is_faultless f).rule

  -- and that is of the kind
  pub row_kind : row.fault ≡ None → kind_of_draft row.draft ≡ kind
  row_kind f = ap (λ (r : Ready). kind_of_draft r.draft) at.is ∙ kind_same old at.line ∙ (is_faultless f).is_of

no_fault : (fault : Option Refusal) (rest : List (Option Refusal)) → first (fault ∷ rest) ≡ None → fault ≡ None
no_fault None rest e = refl
no_fault (Some refusal) rest e = cc

module _ (old : State) (kind : Kind) (lines : List ImportRow) (i : ℕ) (now : State) (made : List View) (left : Leftovers)
    (l : IsLawful old) (h : HasComeTo old kind lines i now made left) (row : Ready) (at : IsAt old kind lines i row) where
  abbrev pub makes_it : Bool
  makes_it = makes old kind lines i now made left l h row at

  -- one more row that is not refused
  pub next : (after : State) (more : List View) (new : Leftovers) → IsTaken makes_it row now made after more (Ok tt)
      → IsLeft new (keys_of (ready_rows old kind lines)) (record_keys old kind) (h.spent ++ row.key ∷ []) → HasComeTo old kind lines (i + 1) after more new
  next after more new t left_so =
      come_more old kind lines i now made left l h row at after more new (no_fault row.fault (create_checks makes_it now row.draft) t.0) t left_so
