-- Exports: the records of a kind as the rows of an import, with the names of the VRFs, roles and RIRs that they have.
use Rattle.std.specs.Prelude.{ℕ, List, [], Option, Some, None, option_map, map}
use Rattle.ipam_data.specs.declared.kinds.Kind.{Kind}
use Rattle.ipam_data.specs.declared.kinds.Kind.TheVariants.{Vrfs, Rirs, Roles, Aggregates, Prefixes, Ranges, Addresses}
use Rattle.ipam_data.specs.declared.vrf.Vrf.{Vrf}
use Rattle.ipam_data.specs.declared.rir.Rir.{Rir}
use Rattle.ipam_data.specs.declared.role.Role.{Role}
use Rattle.ipam_data.specs.declared.aggregate.Aggregate.{Aggregate}
use Rattle.ipam_data.specs.declared.prefix.Prefix.{Prefix}
use Rattle.ipam_data.specs.declared.range.IpRange.{IpRange}
use Rattle.ipam_data.specs.declared.address.IpAddress.{IpAddress}
use Rattle.ipam_data.specs.Rows.{vrf_id, rir_id, role_id}
use Rattle.ipam_data.specs.RowList.{row_at}
use Rattle.ipam_data.specs.Fields.{start_of, end_of}
use Rattle.ipam_data.specs.State.{State}
use Rattle.ipam_data.specs.declared.imports.ImportRow.{ImportRow}
use Rattle.ipam_data.specs.declared.imports.ImportRow.TheVariants.{Vrf as VrfRow, Rir as RirRow, Role as RoleRow, Aggregate as AggregateRow, Prefix as PrefixRow, IpRange as RangeRow, IpAddress as AddressRow}

-- ---- names

abbrev pub vrf_name : List Vrf → Option ℕ → Option (List ℕ)
vrf_name rows None = None
vrf_name rows (Some n) = option_map (λ row. row.name) (row_at vrf_id rows n)

abbrev pub role_name : List Role → Option ℕ → Option (List ℕ)
role_name rows None = None
role_name rows (Some n) = option_map (λ row. row.name) (row_at role_id rows n)

abbrev pub name_or_none : Option Rir → List ℕ
name_or_none None = []
name_or_none (Some row) = row.name

-- in a lawful state each RIR that is named exists
abbrev pub rir_name : List Rir → ℕ → List ℕ
rir_name rows n = name_or_none (row_at rir_id rows n)

-- ---- the row of a record

abbrev pub vrf_line : State → Vrf → ImportRow
vrf_line s row = VrfRow row.name row.rd row.enforce_unique row.description

abbrev pub rir_line : State → Rir → ImportRow
rir_line s row = RirRow row.name row.slug row.is_private row.description

abbrev pub role_line : State → Role → ImportRow
role_line s row = RoleRow row.name row.slug row.weight row.description

abbrev pub aggregate_line : State → Aggregate → ImportRow
aggregate_line s row = AggregateRow row.block (rir_name s.rirs.rows row.rir) row.description

abbrev pub prefix_line : State → Prefix → ImportRow
prefix_line s row = PrefixRow row.block (vrf_name s.vrfs.rows row.vrf) row.status (role_name s.roles.rows row.role) row.is_pool row.mark_utilized row.description

abbrev pub range_line : State → IpRange → ImportRow
range_line s row =
    RangeRow (start_of row) (end_of row) (vrf_name s.vrfs.rows row.vrf) row.status (role_name s.roles.rows row.role) row.mark_utilized row.mark_populated row.description

abbrev pub address_line : State → IpAddress → ImportRow
address_line s row = AddressRow row.host (vrf_name s.vrfs.rows row.vrf) row.status row.role row.dns_name row.description

-- ---- all records of a kind, in the order of their ids

abbrev pub exported : State → Kind → List ImportRow
exported s Vrfs = map (vrf_line s) s.vrfs.rows
exported s Rirs = map (rir_line s) s.rirs.rows
exported s Roles = map (role_line s) s.roles.rows
exported s Aggregates = map (aggregate_line s) s.aggregates.rows
exported s Prefixes = map (prefix_line s) s.prefixes.rows
exported s Ranges = map (range_line s) s.ranges.rows
exported s Addresses = map (address_line s) s.addresses.rows
