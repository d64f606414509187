use Rattle.std.proofs.Common.{◌≡◌, map, take}
use Rattle.ipam_data.specs.Prefixes.{prefix_rules}
use Rattle.ipam_data.specs.Claims.{claimed_prefixes}
use Rattle.register_claims.proofs.items.claimed_views.Given as goal

abbrev pub invariant-items : goal.invariant-items
invariant-items l = l.views.items ≡ map prefix_rules.view (claimed_prefixes l.row l.next (take l.index l.items) l.blocks)
