-- What the rows of an import come to, as its plan has it.
use Rattle.std.proofs.Common.{◌≡◌, ◌∙◌, ℕ, suc, ◌+◌, ◌-◌, ◌≤◌, ◌<◌, Bool, true, false, List, [], ◌∷◌, ◌++◌, length, Option, Some, None, refl, ap, ap₂, sym, arith, length-append, nat_le, ◌==◌, if◌then◌else◌}
use Rattle.std.proofs.lemmas.Bool.Decides.{nat_tests}
use Rattle.ipam_data.specs.declared.kinds.Kind.{Kind}
use Rattle.ipam_data.specs.declared.kinds.Kind.TheVariants.{Vrfs, Rirs, Roles, Aggregates, Prefixes, Ranges, Addresses}
use Rattle.ipam_data.specs.declared.replies.Refusal.{Refusal}
use Rattle.ipam_data.specs.declared.replies.Refusal.TheVariants.{Limit}
use Rattle.ipam_data.specs.declared.replies.Reply.TheVariants.{Imported}
use Rattle.ipam_data.specs.declared.replies.View.{View}
use Rattle.ipam_data.specs.declared.replies.Which.TheVariants.{Rows}
use Rattle.ipam_data.specs.declared.update.Update.{Update}
use Rattle.ipam_data.specs.Checks.{first, too_many, no_log}
use Rattle.ipam_data.specs.State.{State, verdict_of}
use Rattle.ipam_data.specs.Imports.{next_of}
use Rattle.ipam_data.specs.declared.imports.ImportRow.{ImportRow}
use Rattle.ipam_data.specs.Imports.{most_rows, draft_of, Progress, begun, makes_one, record_of, with_draft, after_row, after_rows, row_verdicts, items_of, import_plan}
use Rattle.register_tables.specs.Held.{Held, state_of, next_in}
use Rattle.register_tables.specs.Planned.{IsChange}
use Rattle.register_tables.proofs.Firsts.{head_refuses, head_passes}
use Rattle.register_plans.specs.declared.imports.halt.Halt.{Halt}
use Rattle.register_plans.specs.declared.imports.halt.Halt.TheVariants.{Refused, Memory}
use Rattle.register_plans.specs.declared.imports.tried.Made.{Made}
use Rattle.register_plans.specs.ImportHalts.{IsHaltBy}
use Rattle.register_plans.specs.ImportPlan.{AreMade, AreTried, items_for}

-- ---- counts

-- no more records are made than there are rows
made_few : (old : State) (kind : Kind) (so : Progress) (rows : List ImportRow) → length (after_rows old kind so rows).made ≤ length so.made + length rows
made_few old kind so [] = omega arith
made_few old kind so (row ∷ rows) =
    let ih = made_few old kind (after_row old kind so row) rows in
    let one = go (makes_one old kind so.seen (draft_of old row)) in omega arith
  where
    go : (t : Bool) → length (with_draft t so (draft_of old row)).made ≤ length so.made + 1
    go true = omega (arith, length-append so.made (record_of so.state (draft_of old row) ∷ []))
    go false = omega arith

pub few_made : (old : State) (kind : Kind) (rows : List ImportRow) (made : Made) → AreTried old kind rows made → length made.records.items ≤ length rows
few_made old kind rows made h = let few = made_few old kind (begun old) rows in let same = ap (λ (views : List View). length views) h.records in omega arith

more_items : (n : ℕ) → items_for (suc n) ≡ suc n
more_items n = let e : (suc n == 0) ≡ false = grind (arith, nat_tests) in ap (λ (b : Bool). if b then 1 else suc n) e

items_are : (rows : List ImportRow) → items_of rows ≡ items_for (length rows)
items_are [] = refl
items_are (row ∷ rows) = sym (more_items (length rows))

-- the next id of a kind
pub next_is : (held : Held) (kind : Kind) → next_of (state_of held) kind ≡ next_in held kind
next_is held Vrfs = refl
next_is held Rirs = refl
next_is held Roles = refl
next_is held Aggregates = refl
next_is held Prefixes = refl
next_is held Ranges = refl
next_is held Addresses = refl

-- ---- the checks

few_rows : (n : ℕ) → n ≤ 10000 → too_many Rows most_rows n ≡ None
few_rows n h = let e : nat_le n 10000 ≡ true = grind (arith, nat_tests) in rw e refl

-- too many rows are refused first
pub rows_refused : (s : State) (kind : Kind) (rows : List ImportRow) → 10000 < length rows → verdict_of (import_plan s kind rows) ≡ Some (Limit Rows 10000)
rows_refused s kind rows h =
    let e : nat_le (length rows) 10000 ≡ false = grind (arith, nat_tests) in rw e refl

module _ (s : State) (kind : Kind) (rows : List ImportRow) (few : length rows ≤ 10000) where
  -- of few enough rows the first that is refused decides
  row_refused : (refusal : Refusal) → first (row_verdicts s kind (begun s) 1 rows) ≡ Some refusal → verdict_of (import_plan s kind rows) ≡ Some refusal
  row_refused refusal e =
      ap (λ (o : Option Refusal). first (o ∷ row_verdicts s kind (begun s) 1 rows ++ no_log s.spent (items_of rows) ∷ [])) (few_rows (length rows) few)
      ∙ head_refuses (row_verdicts s kind (begun s) 1 rows) (no_log s.spent (items_of rows) ∷ []) refusal e

  pub halt_by_row : (halt : Halt) → IsHaltBy (first (row_verdicts s kind (begun s) 1 rows)) halt → IsHaltBy (verdict_of (import_plan s kind rows)) halt
  halt_by_row (Refused refusal) e = row_refused refusal e
  halt_by_row Memory e = tt

  -- or else the log
  row_passed : first (row_verdicts s kind (begun s) 1 rows) ≡ None → verdict_of (import_plan s kind rows) ≡ no_log s.spent (items_for (length rows))
  row_passed e =
      ap (λ (o : Option Refusal). first (o ∷ row_verdicts s kind (begun s) 1 rows ++ no_log s.spent (items_of rows) ∷ [])) (few_rows (length rows) few)
      ∙ head_passes (row_verdicts s kind (begun s) 1 rows) (no_log s.spent (items_of rows) ∷ []) e
      ∙ one (no_log s.spent (items_of rows))
      ∙ ap (no_log s.spent) (items_are rows)
    where
      one : (x : Option Refusal) → first (x ∷ []) ≡ x
      one None = refl
      one (Some x) = refl

  -- ---- the end

  module _ (made : Made) (h : AreTried s kind rows made) where
    pub log_refused : (refusal : Refusal) → no_log s.spent (items_for (length rows)) ≡ Some refusal → verdict_of (import_plan s kind rows) ≡ Some refusal
    log_refused refusal e = row_passed h.verdict ∙ e

    pub is_change : (update : Update) (created present : ℕ) → no_log s.spent (items_for (length rows)) ≡ None
        → update ≡ record { puts = made.records.items; cuts = []; next = (kind, made.next) ∷ []; spent = items_for (length rows) }
        → created ≡ length made.records.items → present ≡ length rows - length made.records.items → IsChange (import_plan s kind rows) update (Imported created present)
    is_change update created present free u c p =
        record {
          verdict = row_passed h.verdict ∙ free;
          does =
              ap (λ (views : List View). to views (next_of (after_rows s kind (begun s) rows).state kind) (items_of rows)) h.records
              ∙ ap (λ (n : ℕ). to made.records.items n (items_of rows)) h.next ∙ ap (λ (n : ℕ). to made.records.items made.next n) (items_are rows) ∙ sym u;
          says =
              ap (λ (views : List View). Imported (length views) (length rows - length views)) h.records
              ∙ ap₂ (λ (a b : ℕ). Imported a b) (sym c) (sym p);
          accepted = refl;
        }
      where
        to : List View → ℕ → ℕ → Update
        to views n items = record { puts = views; cuts = []; next = (kind, n) ∷ []; spent = items }

-- ---- rows that were made and taken back

pub tried : (old : State) (kind : Kind) (rows : List ImportRow) (held : Held) (records : List View) (made : Made) → AreMade old kind rows (state_of held) records
    → made.next ≡ next_in held kind → made.records.items ≡ records → AreTried old kind rows made
tried old kind rows held records made h n r = record {
  verdict = h.verdict;
  next = ap (λ (s : State). next_of s kind) h.state ∙ next_is held kind ∙ sym n;
  records = h.records ∙ sym r;
}
