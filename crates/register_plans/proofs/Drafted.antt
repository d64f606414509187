-- What a draft comes to, by the row that it makes.
use Rattle.std.proofs.Common.{◌≡◌, ℕ, List, [], Option, Some, None, refl, sym, subst, arith, Result, Ok, Err, IfOk, ap, ◌∙◌}
use Rattle.std.specs.declared.alloc.AllocError.{AllocError}
use Rattle.ipam_data.specs.declared.kinds.Kind.{Kind}
use Rattle.ipam_data.specs.declared.kinds.Kind.TheVariants.{Vrfs, Rirs, Roles, Aggregates, Prefixes, Ranges, Addresses}
use Rattle.ipam_data.specs.declared.replies.View.{View}
use Rattle.ipam_data.specs.declared.replies.View.TheVariants.{Vrf as VrfView, Rir as RirView, Role as RoleView, Aggregate as AggregateView, Prefix as PrefixView, IpRange as RangeView, IpAddress as AddressView}
use Rattle.ipam_data.specs.declared.replies.Rule.{Rule}
use Rattle.ipam_data.specs.declared.replies.Refusal.TheVariants.{Rule as Breaks}
use Rattle.ipam_data.specs.declared.range.IpRange.{IpRange}
use Rattle.ipam_data.specs.declared.calls.Draft.{Draft}
use Rattle.ipam_data.specs.declared.calls.Edit.{Edit}
use Rattle.ipam_data.specs.Checks.{first}
use Rattle.ipam_data.specs.Rows.{range_id}
use Rattle.ipam_data.specs.RowList.{row_at}
use Rattle.ipam_data.specs.State.{State, Plan, verdict_of}
use Rattle.ipam_data.specs.Plans.{create, replace}
use Rattle.ipam_data.specs.ByKind.{by_view}
use Rattle.ipam_data.specs.Vrfs.{vrf_rules}
use Rattle.ipam_data.specs.Rirs.{rir_rules}
use Rattle.ipam_data.specs.Roles.{role_rules}
use Rattle.ipam_data.specs.Aggregates.{aggregate_rules}
use Rattle.ipam_data.specs.Prefixes.{prefix_rules}
use Rattle.ipam_data.specs.Ranges.{range_rules}
use Rattle.ipam_data.specs.Addresses.{address_rules}
use Rattle.ipam_data.specs.Fields.{drafted, told_of_draft, kind_of_draft, edited_range, told_of_change}
use Rattle.ipam_data.specs.Steps.{next_for, create_plan}
use Rattle.register_tables.specs.declared.planned.Planned.{Planned}
use Rattle.register_tables.specs.Planned.{IsPlanned}
use Rattle.register_plans.specs.Broken.{own_row}
use Rattle.ipam_data.proofs.DraftLaws.{range_stays}
use Rattle.register_plans.proofs.Verdicts.{create_named, create_told, all_create_untold, all_replace_untold}

-- a row that names one that is not there is refused for that
pub view_named : (s : State) (told : List (Option Rule)) (view : View) (rule : Rule) → by_view view (λ T rules row. first (rules.references s row)) ≡ Some rule
    → verdict_of (by_view view (λ T rules row. create rules s told row)) ≡ Some (Breaks rule)
view_named s told (VrfView row) rule e = create_named vrf_rules s told row rule e
view_named s told (RirView row) rule e = create_named rir_rules s told row rule e
view_named s told (RoleView row) rule e = create_named role_rules s told row rule e
view_named s told (AggregateView row) rule e = create_named aggregate_rules s told row rule e
view_named s told (PrefixView row depth children) rule e = create_named prefix_rules s told row rule e
view_named s told (RangeView row) rule e = create_named range_rules s told row rule e
view_named s told (AddressView row) rule e = create_named address_rules s told row rule e

-- and else for what is told of its draft
pub view_told : (s : State) (told : List (Option Rule)) (view : View) (rule : Rule) → by_view view (λ T rules row. first (rules.references s row)) ≡ None → first told ≡ Some rule
    → verdict_of (by_view view (λ T rules row. create rules s told row)) ≡ Some (Breaks rule)
view_told s told (VrfView row) rule e t = create_told vrf_rules s told row rule e t
view_told s told (RirView row) rule e t = create_told rir_rules s told row rule e t
view_told s told (RoleView row) rule e t = create_told role_rules s told row rule e t
view_told s told (AggregateView row) rule e t = create_told aggregate_rules s told row rule e t
view_told s told (PrefixView row depth children) rule e t = create_told prefix_rules s told row rule e t
view_told s told (RangeView row) rule e t = create_told range_rules s told row rule e t
view_told s told (AddressView row) rule e t = create_told address_rules s told row rule e t

-- the plan of a draft of which nothing is told is that of its row
pub made : (s : State) (draft : Draft) (view : View) (p : Result Planned AllocError) → drafted (next_for s draft) draft ≡ view → told_of_draft draft ≡ []
    → IfOk p (λ q. IsPlanned (by_view view (λ T rules row. create rules s [] row)) q) → IfOk p (λ q. IsPlanned (create_plan s draft) q)
made s draft view p e t h =
    subst (λ (v : View). IfOk p (λ q. IsPlanned (by_view v (λ T rules row. create rules s (told_of_draft draft) row)) q)) (sym e)
    (subst (λ (told : List (Option Rule)). IfOk p (λ q. IsPlanned (by_view view (λ T rules row. create rules s told row)) q)) (sym t) h)

-- the next id of ranges is that of a row of a range
next_range : (s : State) (view : View) → by_view view (λ T rules row. rules.kind) ≡ Ranges → by_view view (λ T rules row. (rules.row_list s).next) ≡ s.ranges.next
next_range s (VrfView row) e = cc
next_range s (RirView row) e = cc
next_range s (RoleView row) e = cc
next_range s (AggregateView row) e = cc
next_range s (PrefixView row depth children) e = cc
next_range s (RangeView row) e = refl
next_range s (AddressView row) e = cc

-- the plan of a draft of a range of which nothing is told is that of its row
pub range_drafted : (s : State) (draft : Draft) (row : IpRange) (p : Result Planned AllocError) → kind_of_draft draft ≡ Ranges → drafted s.ranges.next draft ≡ RangeView row → first (told_of_draft draft) ≡ None
    → IfOk p (λ q. IsPlanned (create range_rules s [] row) q) → IfOk p (λ q. IsPlanned (create_plan s draft) q)
range_drafted s draft row p k e t h =
    let here : drafted (next_for s draft) draft ≡ RangeView row = ap (λ (n : ℕ). drafted n draft) (next_range s (drafted 0 draft) k) ∙ e in
    subst (λ (view : View). IfOk p (λ q. IsPlanned (by_view view (λ T rules made. create rules s (told_of_draft draft) made)) q)) (sym here) (all_create_untold range_rules s (told_of_draft draft) row p t h)

-- the plan of a change of a range of which nothing is told is that of the row that it leaves
pub range_edited : (s : State) (old : IpRange) (edit : Edit) (row : IpRange) (p : Result Planned AllocError) → row_at range_id s.ranges.rows old.id ≡ Some old → row ≡ edited_range edit old
    → first (told_of_change edit old) ≡ None → IfOk p (λ q. (x : IpRange) → own_row range_rules s row ≡ Some x → IsPlanned (replace range_rules s x [] row) q)
    → IfOk p (λ q. IsPlanned (replace range_rules s old (told_of_change edit old) (edited_range edit old)) q)
range_edited s old edit row p r e t h =
    let own : own_row range_rules s row ≡ Some old = ap (λ (n : ℕ). row_at range_id s.ranges.rows n) (ap (λ (x : IpRange). x.id) e ∙ range_stays edit old) ∙ r in
    subst (λ (x : IpRange). IfOk p (λ q. IsPlanned (replace range_rules s old (told_of_change edit old) x) q)) e (all_replace_untold range_rules s old (told_of_change edit old) row p own t h)
