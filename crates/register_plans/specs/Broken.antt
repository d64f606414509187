-- The first rule that a row breaks given the rows of a state: the rows that it names come first.
use Rattle.std.specs.Prelude.{Option, None, ◌++◌}
use Rattle.ipam_data.specs.declared.replies.Rule.{Rule}
use Rattle.ipam_data.specs.declared.replies.View.{View}
use Rattle.ipam_data.specs.RowList.{row_at}
use Rattle.ipam_data.specs.Checks.{first}
use Rattle.ipam_data.specs.State.{State}
use Rattle.ipam_data.specs.Plans.{KindRules, call_faults}
use Rattle.ipam_data.specs.ByKind.{by_view}

-- of a row that a call puts in the place of this one, or of none
abbrev pub first_broken : {T : Type 0} → KindRules T → State → Option T → T → Option Rule
first_broken rules s old row = first (rules.references s row ++ call_faults rules s old row)

-- of a row more that no call makes, as it is answered
abbrev pub broken_new : State → View → Option Rule
broken_new s view = by_view view (λ T rules row. first (rules.references s row ++ rules.faults s None row))

-- the row of the id that a row has
abbrev pub own_row : {T : Type 0} → KindRules T → State → T → Option T
own_row rules s row = row_at rules.id (rules.row_list s).rows (rules.id row)
