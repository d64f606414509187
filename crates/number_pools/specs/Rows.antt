-- The rows of pools, and the state that they make up.
use Rattle.std.specs.Prelude.{ℕ, []}
use Rattle.ipam_data.specs.RowList.{RowList}
use Rattle.number_pools.specs.declared.rows.TheConstants.{LAST_ASN, LAST_VLAN}
use Rattle.number_pools.specs.declared.rows.PoolKind.{PoolKind}
use Rattle.number_pools.specs.declared.rows.PoolKind.TheVariants.{Asn, Vlan}
use Rattle.number_pools.specs.declared.rows.NumberRange.{NumberRange}
use Rattle.number_pools.specs.declared.rows.Member.{Member}

-- the greatest number of a kind: of an autonomous system (RFC 6793), and of a VLAN (IEEE 802.1Q)
abbrev pub most_of : PoolKind → ℕ
most_of Asn = LAST_ASN
most_of Vlan = LAST_VLAN

abbrev pub range_id : NumberRange → ℕ
range_id r = r.id

abbrev pub member_id : Member → ℕ
member_id m = m.id

-- ranges and members in the order of their ids, each with the next id, and how many items of the log are spent
pub record Pools : Type 0 where
  pub ranges : RowList NumberRange
  pub members : RowList Member
  pub spent : ℕ

-- pools without rows
abbrev pub empty_pools : Pools
empty_pools = record { ranges = record { rows = []; next = 1 }; members = record { rows = []; next = 1 }; spent = 0 }
