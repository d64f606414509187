-- One row of an import, as its plan has it.
use Rattle.std.proofs.Common.{◌≡◌, ℕ, Bool, true, false, List, [], ◌∷◌, ◌++◌, map, Option, Some, None, option_map, Ok, Err, refl, ap, sym}
use Rattle.ipam_data.specs.declared.imports.ImportRow.{ImportRow}
use Rattle.ipam_data.specs.declared.kinds.Kind.{Kind}
use Rattle.ipam_data.specs.declared.replies.Rule.{Rule}
use Rattle.ipam_data.specs.declared.replies.Refusal.{Refusal}
use Rattle.ipam_data.specs.declared.replies.View.{View}
use Rattle.ipam_data.specs.Checks.{first, breaks}
use Rattle.ipam_data.specs.Imports.{kind_rule, name_rules, value_rules, draft_of, Progress, record_of, with_record, makes_one, create_checks, at_row, row_verdict}
use Rattle.ipam_data.specs.State.{State}
use Rattle.register_plans.specs.declared.imports.halt.Halt.{Halt}
use Rattle.register_plans.specs.declared.imports.halt.Halt.TheVariants.{Refused, Memory}
use Rattle.register_plans.specs.declared.imports.ready.Ready.{Ready}
use Rattle.register_plans.specs.ImportHalts.{rule_of, IsHaltBy}
use Rattle.register_plans.specs.ReadyRows.{ready_of, ready_checks, IsTaken}

merged : (xs ys : List (Option Rule)) (rest : List (Option Refusal)) → first (map breaks xs ++ (map breaks ys ++ rest)) ≡ first (breaks (first (xs ++ ys)) ∷ rest)
merged [] [] rest = refl
merged [] (None ∷ ys) rest = merged [] ys rest
merged [] (Some y ∷ ys) rest = refl
merged (None ∷ xs) ys rest = merged xs ys rest
merged (Some x ∷ xs) ys rest = refl

-- a check before others
led : {A : Type 0} (x y : Option A) (checks rest : List (Option A)) → first checks ≡ first (y ∷ rest) → first (x ∷ checks) ≡ first (first (x ∷ y ∷ []) ∷ rest)
led (Some x) y checks rest e = refl
led None (Some y) checks rest e = e
led None None checks rest e = e

-- the verdict of a row by what it was made ready to
pub row_first : (old : State) (kind : Kind) (so : Progress) (n : ℕ) (row : ImportRow)
    → row_verdict old kind so n row ≡ option_map (at_row n) (first (ready_checks (makes_one old kind so.seen (draft_of old row)) so.state (ready_of old kind row)))
row_first old kind so n row =
    let creates = create_checks (makes_one old kind so.seen (draft_of old row)) so.state (draft_of old row) in
    ap (option_map (at_row n))
    (led (kind_rule kind row) (breaks (rule_of old row)) (map breaks (name_rules old row) ++ (map breaks (value_rules row) ++ creates)) creates (merged (name_rules old row) (value_rules row) creates))

-- a row that is refused by itself is refused so
pub taken_fault : (makes : Bool) (row : Ready) (s after : State) (made more : List View) (refusal : Refusal) → row.fault ≡ Some refusal → IsTaken makes row s made after more (Err (Refused refusal))
taken_fault makes row s after made more refusal e = rw e refl

-- a row that stands for a record changes nothing
pub taken_there : (makes : Bool) (row : Ready) (s after : State) (made more : List View) → makes ≡ false → row.fault ≡ None → after ≡ s → more ≡ made → IsTaken makes row s made after more (Ok tt)
taken_there true row s after made more m e a b = cc
taken_there false row s after made more m e a b = (rw e refl, sym a, sym b)

-- another one makes its record
pub taken_made : (makes : Bool) (row : Ready) (s after : State) (made more : List View) → makes ≡ true → row.fault ≡ None → first (create_checks true s row.draft) ≡ None
    → after ≡ with_record s row.draft → more ≡ made ++ record_of s row.draft ∷ [] → IsTaken makes row s made after more (Ok tt)
taken_made true row s after made more m e v a b = (rw e v, sym a, sym b)
taken_made false row s after made more m e v a b = cc

-- or is refused
pub taken_halt : (makes : Bool) (row : Ready) (s after : State) (made more : List View) (halt : Halt) → makes ≡ true → row.fault ≡ None → IsHaltBy (first (create_checks true s row.draft)) halt
    → IsTaken makes row s made after more (Err halt)
taken_halt true row s after made more (Refused refusal) m e h = rw e h
taken_halt true row s after made more Memory m e h = tt
taken_halt false row s after made more halt m e h = cc
