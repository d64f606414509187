use Rattle.std.proofs.Common.{◌≡◌, true, false, is_some, rules}
use Rattle.ipam_data.specs.Claims.{told_of_address}
use Rattle.register_claims.proofs.HostClaims.{told_here, told_next}
use Rattle.register_claims.proofs.host_claims.fault_of_items.Goals as goal

pub returns-then-is_some : goal.returns-then-is_some
returns-then-is_some c =
    let k : is_some c.in_ok-fault.fault ≡ true = search rules in
    told_here (told_of_address c.args.family) c.args.items.now c.items.item-index c.item-item.result c.in_ok-fault.fault c.items-test.true c.item-item.is c.in_ok-fault.ensures k c.items.invariant

pub items-preserved : goal.items-preserved
items-preserved c =
    let k : is_some c.in_ok-fault.fault ≡ false = search rules in
    told_next (told_of_address c.args.family) c.args.items.now c.items.item-index c.item-item.result c.in_ok-fault.fault c.items-test.true c.item-item.is c.in_ok-fault.ensures k c.items.invariant
