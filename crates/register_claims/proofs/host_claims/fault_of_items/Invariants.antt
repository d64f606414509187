use Rattle.std.proofs.Common.{◌≡◌, take, None}
use Rattle.std.specs.List.{flat_map}
use Rattle.ipam_data.specs.Checks.{first}
use Rattle.ipam_data.specs.Claims.{told_of_address}
use Rattle.register_claims.proofs.host_claims.fault_of_items.Given as goal

abbrev pub invariant-items : goal.invariant-items
invariant-items l = first (flat_map (told_of_address l.family) (take l.item-index l.items)) ≡ None
