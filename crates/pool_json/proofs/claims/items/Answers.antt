use Rattle.std.proofs.Common.{◌≡◌, ℕ, List, Result, Ok, Err, sym, ◌∙◌, ap, subst, map, rules}
use Rattle.ipam_data.specs.declared.replies.Refusal.{Refusal}
use Rattle.serde_json.specs.View.{view}
use Rattle.ipam_json.specs.Outcomes.{OrMemory}
use Rattle.ipam_json.specs.Claims.{items_in}
use Rattle.ipam_json.proofs.Claimed.{items_more, items_refused}
use Rattle.pool_json.specs.Bodies.{claim_item}
use Rattle.pool_json.proofs.claims.items.Goals as goal

pub loop-value-preserved : goal.loop-value-preserved
loop-value-preserved c =
    items_more (claim_item c.args.kind) view c.args.list.now c.loop-value.value-index c.value-item.result c.loop-value.items.items c.in_ok-item.item c.loop-value-test.true c.value-item.is
    c.loop-value.invariant c.in_ok-item.ensures
    ∙ ap (λ (items : List (List ℕ)). Ok items) (sym c.in-Ok.ensures.items)

pub returns-in_err-item : goal.returns-in_err-item
returns-in_err-item c =
    let same : c.from_residual.result ≡ Err c.in_err-item.field-0.0 = search rules in
    subst (λ (r : Result (List (List ℕ)) Refusal). OrMemory (λ r. items_in (claim_item c.args.kind) (map view c.args.list.now) ≡ r) r) (sym same)
    (items_refused (claim_item c.args.kind) view c.args.list.now c.loop-value.value-index c.value-item.result c.loop-value.items.items c.in_err-item.field-0.0 c.loop-value-test.true c.value-item.is
    c.loop-value.invariant c.in_err-item.ensures)
