-- How far the rows of an import have come, and what one more row does.
use Rattle.std.proofs.Common.{◌≡◌, ◌∙◌, ℕ, zero, suc, ◌+◌, ◌<◌, Bool, true, false, not, nat_lt, List, [], ◌∷◌, ◌++◌, length, map, drop, get_or, Option, Some, None, option_map, Ok, Err, refl, ap, sym, arith, count_by}
use Rattle.std.specs.Prelude.{bytes_eq}
use Rattle.std.specs.List.{AllByRecursion}
use Rattle.ipam_data.specs.declared.calls.Draft.{Draft}
use Rattle.ipam_data.specs.declared.kinds.Kind.{Kind}
use Rattle.ipam_data.specs.declared.replies.Refusal.{Refusal}
use Rattle.ipam_data.specs.declared.replies.View.{View}
use Rattle.ipam_data.specs.Checks.{first}
use Rattle.ipam_data.specs.Fields.{stored_draft}
use Rattle.ipam_data.specs.Lawful.{IsLawful}
use Rattle.ipam_data.specs.State.{State}
use Rattle.ipam_data.specs.declared.imports.ImportRow.{ImportRow}
use Rattle.ipam_data.specs.Imports.{draft_of, HasRowBounds, Progress, begun, makes_one, with_draft, after_row, after_rows, at_row, row_verdict, row_verdicts}
use Rattle.register_plans.specs.declared.imports.leftovers.Leftovers.{Leftovers}
use Rattle.register_plans.specs.RecordsLeft.{IsLeft}
use Rattle.register_plans.specs.declared.imports.halt.Halt.{Halt}
use Rattle.register_plans.specs.declared.imports.halt.Halt.TheVariants.{Refused, Memory}
use Rattle.register_plans.specs.declared.imports.ready.Ready.{Ready}
use Rattle.register_plans.specs.ImportHalts.{fault_of, IsHaltBy, halt_at}
use Rattle.register_plans.specs.ReadyRows.{key_of_draft, key_where, ready_of, ready_rows, keys_of, record_keys, ready_checks, IsTaken}
use Rattle.register_plans.specs.ImportPlan.{AreMade}
use Rattle.register_plans.proofs.CountedKeys.{count_first}
use Rattle.register_plans.specs.KeptDrafts.{IsKept}
use Rattle.register_plans.proofs.KeptDraftLaws.{row_kept, row_key, makes_keys}
use Rattle.register_plans.proofs.ImportRecords.{faultless, nothing_told}
use Rattle.register_plans.proofs.ImportSteps.{row_first}

-- an import that has come so far
abbrev pub progress : State → List Draft → List View → Progress
progress s seen made = record { state = s; seen = seen; made = made }

-- the rows that are left give from here on what all rows give from the beginning
pub record HasComeTo (old : State) (kind : Kind) (lines : List ImportRow) (i : ℕ) (now : State) (made : List View) (left : Leftovers) : Type 0 where
  pub seen : List Draft
  pub kept : AllByRecursion (IsKept kind) seen
  pub spent : List (List ℕ)
  pub counts : (q : List ℕ) → count_by (bytes_eq q) spent ≡ count_by (bytes_eq q) (map key_of_draft seen)
  pub is_left : IsLeft left (keys_of (ready_rows old kind lines)) (record_keys old kind) spent
  pub goes : after_rows old kind (begun old) lines ≡ after_rows old kind (progress now seen made) (drop i lines)
  pub verdicts : first (row_verdicts old kind (begun old) 1 lines) ≡ first (row_verdicts old kind (progress now seen made) (i + 1) (drop i lines))

-- before the first row
pub come_none : (old : State) (kind : Kind) (lines : List ImportRow) (left : Leftovers) → IsLeft left (keys_of (ready_rows old kind lines)) (record_keys old kind) [] → HasComeTo old kind lines 0 old [] left
come_none old kind lines left h = record { seen = []; kept = tt; spent = []; counts = λ q. refl; is_left = h; goes = refl; verdicts = refl }

-- the line at an index, and those that are left
pub record IsAt (old : State) (kind : Kind) (lines : List ImportRow) (i : ℕ) (row : Ready) : Type 0 where
  pub line : ImportRow
  pub bounds : HasRowBounds line
  pub is : row ≡ ready_of old kind line
  pub rest : drop i lines ≡ line ∷ drop (i + 1) lines

pub line_at : (old : State) (kind : Kind) (lines : List ImportRow) (i : ℕ) (d : Ready) → AllByRecursion HasRowBounds lines → i < length (ready_rows old kind lines)
    → IsAt old kind lines i (get_or (ready_rows old kind lines) i d)
line_at old kind [] i d b h = absurd (omega arith)
line_at old kind (line ∷ lines) zero d b h = record { line = line; bounds = b.0; is = refl; rest = refl }
line_at old kind (line ∷ lines) (suc i) d b h =
    let at = line_at old kind lines i d b.1 (omega arith) in
    let same : suc i + 1 ≡ suc (i + 1) = omega arith in
    record { line = at.line; bounds = at.bounds; is = at.is; rest = at.rest ∙ ap (λ (k : ℕ). at.line ∷ drop k (line ∷ lines)) (sym same) }

past_none : {A : Type 0} (x : Option A) (xs : List (Option A)) → x ≡ None → first (x ∷ xs) ≡ first xs
past_none None xs e = refl
past_none (Some y) xs e = cc

some_first : {A : Type 0} (x : Option A) (xs : List (Option A)) (y : A) → x ≡ Some y → first (x ∷ xs) ≡ Some y
some_first None xs y e = cc
some_first (Some z) xs y e = e

with_draft-seen : (makes : Bool) (s : State) (seen : List Draft) (made : List View) (row : ImportRow) (old after : State) (more : List View)
    → (with_draft makes (progress s [] made) (draft_of old row)).state ≡ after → (with_draft makes (progress s [] made) (draft_of old row)).made ≡ more
    → with_draft makes (progress s seen made) (draft_of old row) ≡ progress after (stored_draft (draft_of old row) ∷ seen) more
with_draft-seen true s seen made row old after more e f = rw (← e, ← f) refl
with_draft-seen false s seen made row old after more e f = rw (← e, ← f) refl

module _ (old : State) (kind : Kind) (lines : List ImportRow) (i : ℕ) (now : State) (made : List View) (left : Leftovers)
    (l : IsLawful old) (h : HasComeTo old kind lines i now made left) (row : Ready) (at : IsAt old kind lines i row) where
  -- whether a record is left for the row
  abbrev pub makes : Bool
  makes = not (nat_lt (count_by (bytes_eq row.key) h.spent) (count_by (bytes_eq row.key) (record_keys old kind)))

  -- where the row is not refused by itself, a record keeps its draft, under its key
  none : row.fault ≡ None → fault_of old kind at.line ≡ None
  none f = ap (λ (r : Ready). r.fault) (sym at.is) ∙ f

  kept : row.fault ≡ None → IsKept kind (stored_draft (draft_of old at.line))
  kept f = row_kept old l kind at.line at.bounds (none f)

  key : row.fault ≡ None → row.key ≡ key_of_draft (stored_draft (draft_of old at.line))
  key f =
      ap (λ (r : Ready). r.key) at.is ∙ ap (λ (o : Option Refusal). key_where o (draft_of old at.line)) (none f)
      ∙ row_key old at.line at.bounds (nothing_told old at.line (faultless old kind at.line (none f)).rule)

  -- and whether a record is left is whether it makes one
  makes_same : row.fault ≡ None → makes_one old kind h.seen (draft_of old at.line) ≡ makes
  makes_same f = makes_keys old l kind h.seen (draft_of old at.line) row.key h.spent (kept f) h.kept (key f) (h.counts row.key)

  -- the verdict of the row
  verdict : (makes_one old kind h.seen (draft_of old at.line) ≡ makes) → row_verdict old kind (progress now h.seen made) (i + 1) at.line ≡ option_map (at_row (i + 1)) (first (ready_checks makes now row))
  verdict m =
      row_first old kind (progress now h.seen made) (i + 1) at.line
      ∙ ap (λ (b : Bool). option_map (at_row (i + 1)) (first (ready_checks b now (ready_of old kind at.line)))) m
      ∙ ap (λ (r : Ready). option_map (at_row (i + 1)) (first (ready_checks makes now r))) (sym at.is)

  -- one more row that is not refused
  pub come_more : (after : State) (more : List View) (new : Leftovers) → row.fault ≡ None → IsTaken makes row now made after more (Ok tt)
      → IsLeft new (keys_of (ready_rows old kind lines)) (record_keys old kind) (h.spent ++ row.key ∷ []) → HasComeTo old kind lines (i + 1) after more new
  come_more after more new f t l =
      let m = makes_same f in
      let stored : Draft = stored_draft (draft_of old at.line) in
      let draft : row.draft ≡ draft_of old at.line = ap (λ (r : Ready). r.draft) at.is in
      let next : after_row old kind (progress now h.seen made) at.line ≡ progress after (stored ∷ h.seen) more =
      ap (λ (b : Bool). with_draft b (progress now h.seen made) (draft_of old at.line)) m
      ∙ with_draft-seen makes now h.seen made at.line old after more
      (ap (λ (d : _). (with_draft makes (progress now [] made) d).state) (sym draft) ∙ t.1)
      (ap (λ (d : _). (with_draft makes (progress now [] made) d).made) (sym draft) ∙ t.2) in
      record {
        seen = stored ∷ h.seen;
        kept = (kept f, h.kept);
        spent = h.spent ++ row.key ∷ [];
        counts = λ q. count_first q row.key h.spent (map key_of_draft h.seen) (h.counts q) ∙ ap (λ (k : List ℕ). count_by (bytes_eq q) (k ∷ map key_of_draft h.seen)) (key f);
        is_left = l;
        goes = h.goes ∙ ap (λ (ls : List ImportRow). after_rows old kind (progress now h.seen made) ls) at.rest ∙ ap (λ (so : Progress). after_rows old kind so (drop (i + 1) lines)) next;
        verdicts = h.verdicts ∙ ap (λ (ls : List ImportRow). first (row_verdicts old kind (progress now h.seen made) (i + 1) ls)) at.rest
            ∙ past_none (row_verdict old kind (progress now h.seen made) (i + 1) at.line) (row_verdicts old kind (after_row old kind (progress now h.seen made) at.line) (i + 1 + 1) (drop (i + 1) lines))
            (verdict m ∙ ap (option_map (at_row (i + 1))) t.0)
            ∙ ap (λ (so : Progress). first (row_verdicts old kind so (i + 1 + 1) (drop (i + 1) lines))) next;
      }

  -- the row is refused
  come_refused : (refusal : Refusal) → row_verdict old kind (progress now h.seen made) (i + 1) at.line ≡ Some (at_row (i + 1) refusal)
      → first (row_verdicts old kind (begun old) 1 lines) ≡ Some (at_row (i + 1) refusal)
  come_refused refusal v =
      h.verdicts ∙ ap (λ (ls : List ImportRow). first (row_verdicts old kind (progress now h.seen made) (i + 1) ls)) at.rest
      ∙ some_first (row_verdict old kind (progress now h.seen made) (i + 1) at.line) (row_verdicts old kind (after_row old kind (progress now h.seen made) at.line) (i + 1 + 1) (drop (i + 1) lines)) (at_row (i + 1) refusal) v

  -- by itself, whatever makes a record
  by_fault : (refusal : Refusal) (fault : Option Refusal) → row.fault ≡ fault → first (ready_checks makes now row) ≡ Some refusal
      → first (ready_checks (makes_one old kind h.seen (draft_of old at.line)) now row) ≡ Some refusal
  by_fault refusal None f e = ap (λ (b : Bool). first (ready_checks b now row)) (makes_same f) ∙ e
  by_fault refusal (Some other) f e = rw f (rw f at e)

  pub come_halt : (halt : Halt) (after : State) (more : List View) → IsTaken makes row now made after more (Err halt) → IsHaltBy (first (row_verdicts old kind (begun old) 1 lines)) (halt_at (i + 1) halt)
  come_halt (Refused refusal) after more t =
      come_refused refusal (
      row_first old kind (progress now h.seen made) (i + 1) at.line
      ∙ ap (λ (r : Ready). option_map (at_row (i + 1)) (first (ready_checks (makes_one old kind h.seen (draft_of old at.line)) now r))) (sym at.is)
      ∙ ap (option_map (at_row (i + 1))) (by_fault refusal row.fault refl t)
      )
  come_halt Memory after more t = tt

-- after the last row
pub come_end : (old : State) (kind : Kind) (lines : List ImportRow) (i : ℕ) (now : State) (made : List View) (left : Leftovers) → drop i lines ≡ [] → HasComeTo old kind lines i now made left
    → AreMade old kind lines now made
come_end old kind lines i now made left none h =
    let after = h.goes ∙ ap (λ (ls : List ImportRow). after_rows old kind (progress now h.seen made) ls) none in
    record {
      verdict = h.verdicts ∙ ap (λ (ls : List ImportRow). first (row_verdicts old kind (progress now h.seen made) (i + 1) ls)) none;
      state = ap (λ (so : Progress). so.state) after;
      records = ap (λ (so : Progress). so.made) after;
    }
