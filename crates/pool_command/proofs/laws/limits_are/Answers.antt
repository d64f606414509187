use Rattle.std.proofs.Common.{refl}
use Rattle.pool_command.proofs.laws.limits_are.Goals as goal

pub returns : goal.returns
returns c = record {
  pools = record { last_asn = refl; last_vlan = refl; ranges = refl; members = refl; claimed = refl; spent = refl; last_id = refl; held = refl };
  words = record { workers = refl; connections = refl };
  serving = record { patience = refl };
}
