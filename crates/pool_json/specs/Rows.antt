-- Rows of pools in JSON: an object has its members in the byte order of their names.
use Rattle.std.specs.Prelude.{◌==◌, List, [], ◌∷◌, codes, length, if◌then◌else◌}
use Rattle.serde_json.specs.Data.{Data, object, string}
use Rattle.ipam_json.specs.Values.{Named, members, number_data, id_named}
use Rattle.number_pools.specs.declared.rows.PoolKind.{PoolKind}
use Rattle.number_pools.specs.declared.rows.PoolKind.TheVariants.{Asn, Vlan}
use Rattle.number_pools.specs.declared.rows.NumberRange.{NumberRange}
use Rattle.number_pools.specs.declared.rows.Member.{Member}

-- a range, or a group of VLANs
abbrev pub range_members : NumberRange → List Named
range_members row =
    (codes "end", number_data row.last)
    ∷ id_named row.id
    ∷ (codes "name", string row.name)
    ∷ (codes "start", number_data row.first) ∷ []

-- the number of an autonomous system, and the range that it is of
abbrev pub bare_asn : Member → List Named
bare_asn row =
    (codes "asn", number_data row.number)
    ∷ id_named row.id
    ∷ (codes "range", number_data row.range) ∷ []

-- the same with its name
abbrev pub named_asn : Member → List Named
named_asn row =
    (codes "asn", number_data row.number)
    ∷ id_named row.id
    ∷ (codes "name", string row.name)
    ∷ (codes "range", number_data row.range) ∷ []

-- the name is written only if there is one
abbrev pub asn_members : Member → List Named
asn_members row = if length row.name == 0 then bare_asn row else named_asn row

-- a VLAN by its number, and the group that it is of
abbrev pub vlan_members : Member → List Named
vlan_members row =
    (codes "group", number_data row.range)
    ∷ id_named row.id
    ∷ (codes "name", string row.name)
    ∷ (codes "vid", number_data row.number) ∷ []

abbrev pub range_data : NumberRange → Data
range_data row = object (members (range_members row))

abbrev pub asn_data : Member → Data
asn_data row = object (members (asn_members row))

abbrev pub vlan_data : Member → Data
vlan_data row = object (members (vlan_members row))

-- a member of a range of a kind
abbrev pub member_data : PoolKind → Member → Data
member_data Asn row = asn_data row
member_data Vlan row = vlan_data row
