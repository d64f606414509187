-- The refusal of a row of an import by itself, and why an import stops.
use Rattle.std.specs.Prelude.{◌≡◌, ℕ, [], ◌∷◌, ◌++◌, Option, Some}
use Rattle.ipam_data.specs.declared.imports.ImportRow.{ImportRow}
use Rattle.ipam_data.specs.declared.kinds.Kind.{Kind}
use Rattle.ipam_data.specs.declared.replies.Rule.{Rule}
use Rattle.ipam_data.specs.declared.replies.Refusal.{Refusal}
use Rattle.ipam_data.specs.Checks.{first, breaks}
use Rattle.ipam_data.specs.Imports.{kind_rule, name_rules, value_rules, at_row}
use Rattle.ipam_data.specs.State.{State}
use Rattle.register_plans.specs.declared.imports.halt.Halt.{Halt}
use Rattle.register_plans.specs.declared.imports.halt.Halt.TheVariants.{Refused, Memory}

-- the first rule that a row breaks by its names or its values
abbrev pub rule_of : State → ImportRow → Option Rule
rule_of s row = first (name_rules s row ++ value_rules row)

-- why a row is refused by itself: it is of another kind, or breaks such a rule
abbrev pub fault_of : State → Kind → ImportRow → Option Refusal
fault_of s kind row = first (kind_rule kind row ∷ breaks (rule_of s row) ∷ [])

-- ---- why an import stops

-- it is refused so, or memory runs out
abbrev pub IsHaltBy : Option Refusal → Halt → Type 0
IsHaltBy verdict (Refused refusal) = verdict ≡ Some refusal
IsHaltBy verdict Memory = Unit {0}

-- a halt, as that of the row with this number
abbrev pub halt_at : ℕ → Halt → Halt
halt_at n (Refused refusal) = Refused (at_row n refusal)
halt_at n Memory = Memory
