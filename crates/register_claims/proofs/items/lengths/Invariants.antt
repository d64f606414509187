use Rattle.std.proofs.Common.{◌≡◌, take}
use Rattle.ipam_data.specs.Claims.{lengths_of}
use Rattle.register_claims.proofs.items.lengths.Given as goal

abbrev pub invariant-items : goal.invariant-items
invariant-items l = l.lengths.items ≡ lengths_of (take l.item-index l.items)
