-- The limits of pools, each with its number. The definitions of rows and calls cite them by the names of the code's constants; so a constant
-- that is another number is refused here.
use Rattle.std.specs.Prelude.{◌≡◌, ◌≤◌, length}
use Rattle.ipam_data.specs.declared.kinds.TheConstants.{LAST_ID}
use Rattle.ipam_data.specs.Checks.{most_spent}
use Rattle.number_pools.specs.declared.rows.TheConstants.{LAST_ASN, LAST_VLAN, MOST_HELD}
use Rattle.number_pools.specs.declared.calls.TheConstants.{MOST_RANGES, MOST_MEMBERS, MOST_CLAIMED}
use Rattle.number_pools.specs.Rows.{Pools}

-- the greatest number of an autonomous system (RFC 6793), and the greatest id of a VLAN that a network may use (IEEE 802.1Q); ranges, and
-- members of them, over both kinds; items of a claim; items of the log; the greatest id of a row; and how many ranges, and how many members,
-- can be held in memory
pub record HasPoolLimits : Type 0 where
  pub last_asn : LAST_ASN ≡ 4294967295
  pub last_vlan : LAST_VLAN ≡ 4094
  pub ranges : MOST_RANGES ≡ 1000
  pub members : MOST_MEMBERS ≡ 100000
  pub claimed : MOST_CLAIMED ≡ 1000
  pub spent : most_spent ≡ 1000000
  pub last_id : LAST_ID ≡ 4294967294
  pub held : MOST_HELD ≡ 1073741823

-- there are no more ranges, and no more members, than can be held
pub record AreFew (s : Pools) : Type 0 where
  pub ranges : length s.ranges.rows ≤ MOST_HELD
  pub members : length s.members.rows ≤ MOST_HELD
