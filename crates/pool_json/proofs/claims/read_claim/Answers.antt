use Rattle.std.proofs.Common.{◌≡◌, List, Some, sym, ◌∙◌, ap, map}
use Rattle.serde_json.specs.declared.value.Value.{Value}
use Rattle.serde_json.specs.Find.{as_array}
use Rattle.serde_json.specs.View.{view, items_of}
use Rattle.ipam_json.proofs.Claimed.{claimed_by_list, claimed_by_one}
use Rattle.pool_json.specs.Bodies.{claim_item}
use Rattle.pool_json.proofs.claims.read_claim.Goals as goal

pub returns-in-Some-clause-claim : goal.returns-in-Some-clause-claim
returns-in-Some-clause-claim c =
    let listed : as_array (view c.in_ok-value.value) ≡ Some (items_of (map view c.as_slice.result.now)) =
    sym c.in-Some.ensures ∙ ap (λ (values : List Value). Some (items_of (map view values))) (sym c.as_slice.ensures.value) in
    claimed_by_list (claim_item c.args.kind) c.args.body.now (view c.in_ok-value.value) (map view c.as_slice.result.now) c.claim_by_list.result c.in_ok-value.ensures.ok listed
    c.claim_by_list.ensures.claim

pub returns-clause-claim : goal.returns-clause-claim
returns-clause-claim c =
    claimed_by_one (claim_item c.args.kind) c.args.body.now (view c.in_ok-value.value) c.claim_by_one.result c.in_ok-value.ensures.ok (sym c.in-None.ensures)
    c.claim_by_one.ensures.claim
