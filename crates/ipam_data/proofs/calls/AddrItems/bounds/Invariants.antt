use Rattle.std.proofs.Common.{take}
use Rattle.std.specs.List.{AllByRecursion}
use Rattle.ipam_data.specs.Claims.{HasAddrItemBounds}
use Rattle.ipam_data.proofs.calls.AddrItems.bounds.Given as goal

abbrev pub invariant-loop-item : goal.invariant-loop-item
invariant-loop-item l = AllByRecursion HasAddrItemBounds (take l.item-index l.items)
