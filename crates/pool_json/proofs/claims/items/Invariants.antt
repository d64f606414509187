use Rattle.std.proofs.Common.{◌≡◌, take, map, Ok}
use Rattle.serde_json.specs.View.{view}
use Rattle.ipam_json.specs.Claims.{items_in}
use Rattle.pool_json.specs.Bodies.{claim_item}
use Rattle.pool_json.proofs.claims.items.Given as goal

abbrev pub invariant-loop-value : goal.invariant-loop-value
invariant-loop-value l = items_in (claim_item l.kind) (map view (take l.value-index l.list)) ≡ Ok l.items.items
