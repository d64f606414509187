-- The row of an AS number, with its name or without.
use Rattle.std.proofs.Common.{◌≡◌, ◌==◌, ℕ, Bool, true, false, length, refl, ap, if◌then◌else◌}
use Rattle.ipam_json.specs.Laws.{AreOrdered}
use Rattle.number_pools.specs.declared.rows.Member.{Member}
use Rattle.pool_json.specs.Rows.{asn_members, bare_asn, named_asn}

pub asns_in_order : (row : Member) → AreOrdered (asn_members row)
asns_in_order row = go (length row.name == 0)
  where
    go : (t : Bool) → AreOrdered (if t then bare_asn row else named_asn row)
    go true = refl
    go false = refl
