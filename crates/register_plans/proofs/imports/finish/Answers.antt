use Rattle.std.proofs.Common.{◌≡◌, ◌∙◌, ◌-◌, ℕ, List, length, [], ◌∷◌, refl, sym, ap, ap₂, arith}
use Rattle.ipam_data.specs.declared.replies.View.{View}
use Rattle.ipam_data.specs.declared.update.Update.{Update}
use Rattle.ipam_data.specs.Checks.{no_log}
use Rattle.register_tables.specs.Held.{state_of}
use Rattle.register_plans.proofs.ImportPlans.{few_made, log_refused, is_change}
use Rattle.register_plans.proofs.imports.finish.Goals as goal

pub returns-in-Some : goal.returns-in-Some
returns-in-Some c =
    log_refused (state_of c.args.row_tables.now) c.args.kind c.args.rows.now c.requires.few c.args.made c.requires.made c.in-Some.refusal
    (ap₂ (λ (spent items : ℕ). no_log spent items) (sym c.spent.ensures) (sym c.items_of-items.ensures) ∙ sym c.no_log_for.ensures ∙ c.in-Some.is)

pub overflow_cast-created : goal.overflow_cast-created
overflow_cast-created c =
    let few = few_made (state_of c.args.row_tables.now) c.args.kind c.args.rows.now c.args.made c.requires.made in
    let all = c.requires.few in
    let count : length c.as_slice-records.result.now ≡ length c.args.made.records.items = ap (λ (views : List View). length views) c.as_slice-records.ensures.value in
    omega arith

pub overflow_sub-result : goal.overflow_sub-result
overflow_sub-result c =
    let few = few_made (state_of c.args.row_tables.now) c.args.kind c.args.rows.now c.args.made c.requires.made in
    let count : length c.as_slice-records.result.now ≡ length c.args.made.records.items = ap (λ (views : List View). length views) c.as_slice-records.ensures.value in
    omega arith

pub returns : goal.returns
returns c =
    let count : length c.as_slice-records.result.now ≡ length c.args.made.records.items = ap (λ (views : List View). length views) c.as_slice-records.ensures.value in
    is_change (state_of c.args.row_tables.now) c.args.kind c.args.rows.now c.requires.few c.args.made c.requires.made c.in_ok-update.update (length c.as_slice-records.result.now) (length c.args.rows.now - length c.as_slice-records.result.now)
    (ap₂ (λ (spent items : ℕ). no_log spent items) (sym c.spent.ensures) (sym c.items_of-items.ensures) ∙ sym c.no_log_for.ensures ∙ c.in-None.is)
    (c.in_ok-update.ensures ∙ ap (λ (items : ℕ). let u : Update = record { puts = c.args.made.records.items; cuts = []; next = (c.args.kind, c.args.made.next) ∷ []; spent = items } in u) c.items_of-items.ensures)
    count (ap₂ (λ (a b : ℕ). a - b) refl count)
