-- The rows of a kind that meet a filter. A filter of another kind is met by none; no list is asked for with one.
use Rattle.std.specs.Prelude.{Bool, false}
use Rattle.ipam_data.specs.declared.vrf.Vrf.{Vrf}
use Rattle.ipam_data.specs.declared.rir.Rir.{Rir}
use Rattle.ipam_data.specs.declared.role.Role.{Role}
use Rattle.ipam_data.specs.declared.aggregate.Aggregate.{Aggregate}
use Rattle.ipam_data.specs.declared.prefix.Prefix.{Prefix}
use Rattle.ipam_data.specs.declared.range.IpRange.{IpRange}
use Rattle.ipam_data.specs.declared.address.IpAddress.{IpAddress}
use Rattle.ipam_data.specs.declared.calls.Filter.{Filter}
use Rattle.ipam_data.specs.declared.calls.Filter.TheVariants.{Vrfs as SomeVrfs, Rirs as SomeRirs, Roles as SomeRoles, Aggregates as SomeAggregates, Prefixes as SomePrefixes, Ranges as SomeRanges, Addresses as SomeAddresses}
use Rattle.ipam_data.specs.Vrfs.{meets_vrf}
use Rattle.ipam_data.specs.Rirs.{meets_rir}
use Rattle.ipam_data.specs.Roles.{meets_role}
use Rattle.ipam_data.specs.Aggregates.{meets_aggregate}
use Rattle.ipam_data.specs.Prefixes.{meets_prefix}
use Rattle.ipam_data.specs.Ranges.{meets_range}
use Rattle.ipam_data.specs.Addresses.{meets_address}

abbrev pub vrf_meets : Filter → Vrf → Bool
vrf_meets (SomeVrfs name rd) row = meets_vrf name rd row
vrf_meets other row = false

abbrev pub rir_meets : Filter → Rir → Bool
rir_meets (SomeRirs name slug) row = meets_rir name slug row
rir_meets other row = false

abbrev pub role_meets : Filter → Role → Bool
role_meets (SomeRoles name slug) row = meets_role name slug row
role_meets other row = false

abbrev pub aggregate_meets : Filter → Aggregate → Bool
aggregate_meets (SomeAggregates family rir_id) row = meets_aggregate family rir_id row
aggregate_meets other row = false

abbrev pub prefix_meets : Filter → Prefix → Bool
prefix_meets (SomePrefixes family vrf_id status role_id prefix within within_include contains) row =
    meets_prefix family vrf_id status role_id prefix within within_include contains row
prefix_meets other row = false

abbrev pub range_meets : Filter → IpRange → Bool
range_meets (SomeRanges family vrf_id status role_id contains) row = meets_range family vrf_id status role_id contains row
range_meets other row = false

abbrev pub address_meets : Filter → IpAddress → Bool
address_meets (SomeAddresses family vrf_id status role parent dns_name) row = meets_address family vrf_id status role parent dns_name row
address_meets other row = false
