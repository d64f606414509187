use Rattle.std.proofs.Common.{refl}
use Rattle.number_pools.proofs.laws.limits_are.Goals as goal

pub returns : goal.returns
returns c = record { last_asn = refl; last_vlan = refl; ranges = refl; members = refl; claimed = refl; spent = refl; last_id = refl; held = refl }
