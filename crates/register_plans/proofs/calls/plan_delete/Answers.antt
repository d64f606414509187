use Rattle.std.proofs.Common.{sym, ◌∙◌, ap, refl}
use Rattle.ipam_data.specs.State.{Plan, verdict_of}
use Rattle.register_plans.proofs.Verdicts.{deletes, out_used, out_logged, delete_planned}
use Rattle.register_tables.specs.Held.{state_of}
use Rattle.register_plans.proofs.calls.plan_delete.Goals as goal

pub returns-in-Some-user : goal.returns-in-Some-user
returns-in-Some-user g c =
    ap (λ (p : Plan). verdict_of p) (deletes g.T.Listed.rules (state_of c.args.row_tables.now) c.args.id c.in-Some.field-0.now (sym c.found.ensures ∙ rw c.in-Some.is refl))
    ∙ out_used g.T.Listed.rules (state_of c.args.row_tables.now) c.args.id c.in-Some-user.refusal (sym c.user.ensures ∙ c.in-Some-user.is)

pub returns-in-Some-no_log_for_one : goal.returns-in-Some-no_log_for_one
returns-in-Some-no_log_for_one g c =
    ap (λ (p : Plan). verdict_of p) (deletes g.T.Listed.rules (state_of c.args.row_tables.now) c.args.id c.in-Some.field-0.now (sym c.found.ensures ∙ rw c.in-Some.is refl))
    ∙ out_logged g.T.Listed.rules (state_of c.args.row_tables.now) c.args.id (sym c.user.ensures ∙ c.in-None-user.is) ∙ sym (rw c.spent.ensures at c.no_log_for_one.ensures) ∙ c.in-Some-no_log_for_one.is

pub returns : goal.returns
returns g c =
    delete_planned g.T.Listed.rules (state_of c.args.row_tables.now) c.args.id c.in-Some.field-0.now c.in_ok-again.again.items c.kind-2.result c.taken_out.result (sym c.found.ensures ∙ rw c.in-Some.is refl)
    (sym c.user.ensures ∙ c.in-None-user.is) (sym (rw c.spent.ensures at c.no_log_for_one.ensures) ∙ c.in-None-no_log_for_one.is) c.in_ok-again.ensures c.kind-2.ensures c.taken_out.ensures
