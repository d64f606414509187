use Rattle.std.proofs.Common.{ℕ, sym, ap, ◌∙◌}
use Rattle.ipam_data.specs.Fields.{drafted, told_of_draft}
use Rattle.ipam_data.specs.Steps.{next_for}
use Rattle.register_tables.specs.Held.{state_of}
use Rattle.register_plans.proofs.Drafted.{view_named, view_told, range_drafted}
use Rattle.register_plans.proofs.ranges.plan_draft.Goals as goal

pub returns-in-Some : goal.returns-in-Some
returns-in-Some c =
    let s = state_of c.args.row_tables.now in
    view_named s (told_of_draft c.args.draft.now) (drafted (next_for s c.args.draft.now) c.args.draft.now) c.in-Some.rule (sym c.missing_drafted.ensures ∙ c.in-Some.is)

pub returns-in-Some-told_drafted : goal.returns-in-Some-told_drafted
returns-in-Some-told_drafted c =
    let s = state_of c.args.row_tables.now in
    view_told s (told_of_draft c.args.draft.now) (drafted (next_for s c.args.draft.now) c.args.draft.now) c.in-Some-told_drafted.rule (sym c.missing_drafted.ensures ∙ c.in_default.is) (sym c.told_drafted.ensures ∙ c.in-Some-told_drafted.is)

pub returns : goal.returns
returns c =
    let next = ap (λ (n : ℕ). drafted n c.args.draft.now) (sym c.next.ensures) in
    range_drafted (state_of c.args.row_tables.now) c.args.draft.now c.in_ok-row.row c.plan_create.result c.requires (next ∙ c.in_ok-row.ensures) (sym c.told_drafted.ensures ∙ c.in_default-told_drafted.is) c.plan_create.ensures
