use Rattle.std.proofs.Common.{◌≡◌, map, take}
use Rattle.ipam_data.specs.declared.replies.View.TheVariants.{IpAddress as AddressView}
use Rattle.ipam_data.specs.Claims.{claimed_addresses}
use Rattle.register_claims.proofs.host_claims.claimed_rows.Given as goal

abbrev pub invariant-items : goal.invariant-items
invariant-items l = l.views.items ≡ map AddressView (claimed_addresses l.vrf l.len l.next (take l.index l.items) (take l.index l.found))
