use Rattle.std.proofs.Common.{◌≡◌, take, map, Ok}
use Rattle.serde_json.specs.View.{view}
use Rattle.ipam_json.specs.Claims.{items_in}
use Rattle.ipam_json.specs.BlockItems.{block_item}
use Rattle.ipam_json.proofs.block_item.block_items.Given as goal

abbrev pub invariant-loop-value : goal.invariant-loop-value
invariant-loop-value l = items_in block_item (map view (take l.value-index l.list)) ≡ Ok l.items.items
