use Rattle.std.proofs.Common.{sym, subst, IfOk}
use Rattle.ipam_data.specs.declared.calls.Filter.{Filter}
use Rattle.ipam_data.specs.Vrfs.{vrf_rules}
use Rattle.ipam_data.specs.Rirs.{rir_rules}
use Rattle.ipam_data.specs.Roles.{role_rules}
use Rattle.ipam_data.specs.Aggregates.{aggregate_rules}
use Rattle.ipam_data.specs.Prefixes.{prefix_rules}
use Rattle.ipam_data.specs.Ranges.{range_rules}
use Rattle.ipam_data.specs.Addresses.{address_rules}
use Rattle.ipam_data.specs.Plans.{list}
use Rattle.ipam_data.specs.Steps.{list_plan}
use Rattle.register_tables.specs.Held.{state_of}
use Rattle.register_tables.specs.Planned.{IsPlanned}
use Rattle.register_plans.specs.Meets.{vrf_meets, rir_meets, role_meets, aggregate_meets, prefix_meets, range_meets, address_meets}
use Rattle.register_plans.proofs.dispatch.plan_page.Goals as goal

pub returns-in-Vrfs : goal.returns-in-Vrfs
returns-in-Vrfs c =
    let s = state_of c.args.row_tables.now in
    subst (λ (f : Filter). IfOk c.plan_list.result (λ p. IsPlanned (list_plan s f c.args.limit c.args.offset) p)) (sym c.in-Vrfs.is)
    (subst (λ (f : Filter). IfOk c.plan_list.result (λ p. IsPlanned (list vrf_rules s (vrf_meets f) c.args.limit c.args.offset) p)) c.in-Vrfs.is c.plan_list.ensures)

pub returns-in-Rirs : goal.returns-in-Rirs
returns-in-Rirs c =
    let s = state_of c.args.row_tables.now in
    subst (λ (f : Filter). IfOk c.plan_list-in-Rirs.result (λ p. IsPlanned (list_plan s f c.args.limit c.args.offset) p)) (sym c.in-Rirs.is)
    (subst (λ (f : Filter). IfOk c.plan_list-in-Rirs.result (λ p. IsPlanned (list rir_rules s (rir_meets f) c.args.limit c.args.offset) p)) c.in-Rirs.is c.plan_list-in-Rirs.ensures)

pub returns-in-Roles : goal.returns-in-Roles
returns-in-Roles c =
    let s = state_of c.args.row_tables.now in
    subst (λ (f : Filter). IfOk c.plan_list-in-Roles.result (λ p. IsPlanned (list_plan s f c.args.limit c.args.offset) p)) (sym c.in-Roles.is)
    (subst (λ (f : Filter). IfOk c.plan_list-in-Roles.result (λ p. IsPlanned (list role_rules s (role_meets f) c.args.limit c.args.offset) p)) c.in-Roles.is c.plan_list-in-Roles.ensures)

pub returns-in-Aggregates : goal.returns-in-Aggregates
returns-in-Aggregates c =
    let s = state_of c.args.row_tables.now in
    subst (λ (f : Filter). IfOk c.plan_list-in-Aggregates.result (λ p. IsPlanned (list_plan s f c.args.limit c.args.offset) p)) (sym c.in-Aggregates.is)
    (subst (λ (f : Filter). IfOk c.plan_list-in-Aggregates.result (λ p. IsPlanned (list aggregate_rules s (aggregate_meets f) c.args.limit c.args.offset) p)) c.in-Aggregates.is c.plan_list-in-Aggregates.ensures)

pub returns-in-Prefixes : goal.returns-in-Prefixes
returns-in-Prefixes c =
    let s = state_of c.args.row_tables.now in
    subst (λ (f : Filter). IfOk c.plan_list-in-Prefixes.result (λ p. IsPlanned (list_plan s f c.args.limit c.args.offset) p)) (sym c.in-Prefixes.is)
    (subst (λ (f : Filter). IfOk c.plan_list-in-Prefixes.result (λ p. IsPlanned (list prefix_rules s (prefix_meets f) c.args.limit c.args.offset) p)) c.in-Prefixes.is c.plan_list-in-Prefixes.ensures)

pub returns-in-Ranges : goal.returns-in-Ranges
returns-in-Ranges c =
    let s = state_of c.args.row_tables.now in
    subst (λ (f : Filter). IfOk c.plan_list-in-Ranges.result (λ p. IsPlanned (list_plan s f c.args.limit c.args.offset) p)) (sym c.in-Ranges.is)
    (subst (λ (f : Filter). IfOk c.plan_list-in-Ranges.result (λ p. IsPlanned (list range_rules s (range_meets f) c.args.limit c.args.offset) p)) c.in-Ranges.is c.plan_list-in-Ranges.ensures)

pub returns-in-Addresses : goal.returns-in-Addresses
returns-in-Addresses c =
    let s = state_of c.args.row_tables.now in
    subst (λ (f : Filter). IfOk c.plan_list-in-Addresses.result (λ p. IsPlanned (list_plan s f c.args.limit c.args.offset) p)) (sym c.in-Addresses.is)
    (subst (λ (f : Filter). IfOk c.plan_list-in-Addresses.result (λ p. IsPlanned (list address_rules s (address_meets f) c.args.limit c.args.offset) p)) c.in-Addresses.is c.plan_list-in-Addresses.ensures)
