use Rattle.std.proofs.Common.{◌≡◌, take, map, Ok}
use Rattle.serde_json.specs.View.{view}
use Rattle.pool_json.specs.Records.{chosen_in}
use Rattle.pool_json.proofs.records.chosen_in.Given as goal

abbrev pub invariant-loop-value : goal.invariant-loop-value
invariant-loop-value l = chosen_in l.kind (map view (take l.value-index l.list)) ≡ Ok l.items.items
