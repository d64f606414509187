-- Stored tables: the texts of each row, the tables that represent a state, and what a change does to tables.
use Rattle.std.specs.Prelude.{ℕ, ◌+◌, ◌*◌, Bool, true, false, List, [], ◌∷◌, ◌++◌, Option, Some, None, fold, map, codes, decimal, ◌≡◌}
use Rattle.std.specs.List.{flat_map}
use Rattle.inet_num.specs.Net.{Address}
use Rattle.inet_num.specs.Text.{block_text_of, canonical_text_of}
use Rattle.ipam_data.specs.declared.vrf.Vrf.{Vrf}
use Rattle.ipam_data.specs.declared.rir.Rir.{Rir}
use Rattle.ipam_data.specs.declared.role.Role.{Role}
use Rattle.ipam_data.specs.declared.aggregate.Aggregate.{Aggregate}
use Rattle.ipam_data.specs.declared.prefix.Prefix.{Prefix}
use Rattle.ipam_data.specs.declared.prefix.PrefixStatus.{PrefixStatus}
use Rattle.ipam_data.specs.declared.prefix.PrefixStatus.TheVariants.{Container, Active as ActivePrefix, Reserved as ReservedPrefix, Deprecated as DeprecatedPrefix}
use Rattle.ipam_data.specs.declared.range.IpRange.{IpRange}
use Rattle.ipam_data.specs.declared.range.RangeStatus.{RangeStatus}
use Rattle.ipam_data.specs.declared.range.RangeStatus.TheVariants.{Active as ActiveRange, Reserved as ReservedRange, Deprecated as DeprecatedRange}
use Rattle.ipam_data.specs.declared.address.IpAddress.{IpAddress}
use Rattle.ipam_data.specs.declared.address.AddressStatus.{AddressStatus}
use Rattle.ipam_data.specs.declared.address.AddressStatus.TheVariants.{Active as ActiveAddress, Reserved as ReservedAddress, Deprecated as DeprecatedAddress, Dhcp, Slaac}
use Rattle.ipam_data.specs.declared.address.AddressRole.{AddressRole}
use Rattle.ipam_data.specs.declared.address.AddressRole.TheVariants.{Loopback, Secondary, Anycast, Vip, Vrrp, Hsrp, Glbp, Carp}
use Rattle.ipam_data.specs.declared.kinds.Kind.{Kind}
use Rattle.ipam_data.specs.declared.kinds.Kind.TheVariants.{Vrfs, Rirs, Roles, Aggregates, Prefixes, Ranges, Addresses}
use Rattle.stored_tables.specs.declared.tables.Row.{Row}
use Rattle.stored_tables.specs.declared.tables.Tables.{Tables}
use Rattle.stored_tables.specs.declared.tables.TheConstants.{VERSION}
use Rattle.stored_tables.specs.declared.tables.Change.{Change}
use Rattle.ipam_data.specs.declared.update.Update.{Update}
use Rattle.ipam_data.specs.declared.replies.View.{View}
use Rattle.ipam_data.specs.declared.replies.View.TheVariants.{Vrf as VrfView, Rir as RirView, Role as RoleView, Aggregate as AggregateView, Prefix as PrefixView, IpRange as RangeView, IpAddress as AddressView}
use Rattle.ipam_data.specs.RowList.{without, placed}
use Rattle.ipam_data.specs.State.{State}
use Rattle.ipam_data.specs.ByKind.{by_kind}
pub use Rattle.ipam_data.specs.Rows.{kind_number}
pub use Rattle.ipam_data.specs.Imports.{next_of}
use Rattle.ipam_data.specs.Updates.{updated, CanUpdate}
use Rattle.ipam_data.specs.Lawful.{IsLawful}

-- ---- the columns of a kind

-- the names under which a file keeps the texts of a row past its id, in the order of the texts
abbrev pub stored_columns : Kind → List (List ℕ)
stored_columns Vrfs = codes "name" ∷ codes "rd" ∷ codes "enforce_unique" ∷ codes "description" ∷ []
stored_columns Rirs = codes "name" ∷ codes "slug" ∷ codes "is_private" ∷ codes "description" ∷ []
stored_columns Roles = codes "name" ∷ codes "slug" ∷ codes "weight" ∷ codes "description" ∷ []
stored_columns Aggregates = codes "prefix" ∷ codes "rir" ∷ codes "description" ∷ []
stored_columns Prefixes = codes "prefix" ∷ codes "vrf" ∷ codes "status" ∷ codes "role" ∷ codes "is_pool" ∷ codes "mark_utilized" ∷ codes "description" ∷ []
stored_columns Ranges = codes "start_address" ∷ codes "end_address" ∷ codes "vrf" ∷ codes "status" ∷ codes "role" ∷ codes "mark_utilized" ∷ codes "mark_populated" ∷ codes "description" ∷ []
stored_columns Addresses = codes "address" ∷ codes "vrf" ∷ codes "status" ∷ codes "role" ∷ codes "dns_name" ∷ codes "description" ∷ []

-- ---- the texts of a column

abbrev pub flag_text : Bool → List ℕ
flag_text true = codes "true"
flag_text false = codes "false"

-- the empty text for what is absent
abbrev pub optional_text : Option (List ℕ) → List ℕ
optional_text None = []
optional_text (Some text) = text

-- an id that may be absent
abbrev pub reference_text : Option ℕ → List ℕ
reference_text None = []
reference_text (Some n) = decimal n

-- an address with its mask
abbrev pub host_text : Address → ℕ → List ℕ
host_text addr len = canonical_text_of addr.family addr.value ++ 47 ∷ decimal len

abbrev pub prefix_status_text : PrefixStatus → List ℕ
prefix_status_text Container = codes "container"
prefix_status_text ActivePrefix = codes "active"
prefix_status_text ReservedPrefix = codes "reserved"
prefix_status_text DeprecatedPrefix = codes "deprecated"

abbrev pub range_status_text : RangeStatus → List ℕ
range_status_text ActiveRange = codes "active"
range_status_text ReservedRange = codes "reserved"
range_status_text DeprecatedRange = codes "deprecated"

abbrev pub address_status_text : AddressStatus → List ℕ
address_status_text ActiveAddress = codes "active"
address_status_text ReservedAddress = codes "reserved"
address_status_text DeprecatedAddress = codes "deprecated"
address_status_text Dhcp = codes "dhcp"
address_status_text Slaac = codes "slaac"

abbrev pub address_role_text : Option AddressRole → List ℕ
address_role_text None = []
address_role_text (Some Loopback) = codes "loopback"
address_role_text (Some Secondary) = codes "secondary"
address_role_text (Some Anycast) = codes "anycast"
address_role_text (Some Vip) = codes "vip"
address_role_text (Some Vrrp) = codes "vrrp"
address_role_text (Some Hsrp) = codes "hsrp"
address_role_text (Some Glbp) = codes "glbp"
address_role_text (Some Carp) = codes "carp"

-- ---- the texts of a row

-- name, rd, enforce_unique, description
unfoldable pub vrf_texts : Vrf → List (List ℕ)
vrf_texts row = row.name ∷ optional_text row.rd ∷ flag_text row.enforce_unique ∷ row.description ∷ []

-- name, slug, is_private, description
unfoldable pub rir_texts : Rir → List (List ℕ)
rir_texts row = row.name ∷ row.slug ∷ flag_text row.is_private ∷ row.description ∷ []

-- name, slug, weight, description
unfoldable pub role_texts : Role → List (List ℕ)
role_texts row = row.name ∷ row.slug ∷ decimal row.weight ∷ row.description ∷ []

-- prefix, rir, description
unfoldable pub aggregate_texts : Aggregate → List (List ℕ)
aggregate_texts row = block_text_of row.block ∷ decimal row.rir ∷ row.description ∷ []

-- prefix, vrf, status, role, is_pool, mark_utilized, description
unfoldable pub prefix_texts : Prefix → List (List ℕ)
prefix_texts row =
    block_text_of row.block ∷ reference_text row.vrf ∷ prefix_status_text row.status ∷ reference_text row.role
    ∷ flag_text row.is_pool ∷ flag_text row.mark_utilized ∷ row.description ∷ []

-- start_address, end_address, vrf, status, role, mark_utilized, mark_populated, description
unfoldable pub range_texts : IpRange → List (List ℕ)
range_texts row =
    host_text row.ends.start row.ends.len ∷ host_text row.ends.end row.ends.len ∷ reference_text row.vrf ∷ range_status_text row.status
    ∷ reference_text row.role ∷ flag_text row.mark_utilized ∷ flag_text row.mark_populated ∷ row.description ∷ []

-- address, vrf, status, role, dns_name, description
unfoldable pub address_texts : IpAddress → List (List ℕ)
address_texts row =
    host_text row.host.addr row.host.len ∷ reference_text row.vrf ∷ address_status_text row.status ∷ address_role_text row.role
    ∷ row.dns_name ∷ row.description ∷ []

-- ---- stored rows

abbrev pub stored_vrf : Vrf → Row
stored_vrf row = record { kind = Vrfs; id = row.id; fields = vrf_texts row }

abbrev pub stored_rir : Rir → Row
stored_rir row = record { kind = Rirs; id = row.id; fields = rir_texts row }

abbrev pub stored_role : Role → Row
stored_role row = record { kind = Roles; id = row.id; fields = role_texts row }

abbrev pub stored_aggregate : Aggregate → Row
stored_aggregate row = record { kind = Aggregates; id = row.id; fields = aggregate_texts row }

abbrev pub stored_prefix : Prefix → Row
stored_prefix row = record { kind = Prefixes; id = row.id; fields = prefix_texts row }

abbrev pub stored_range : IpRange → Row
stored_range row = record { kind = Ranges; id = row.id; fields = range_texts row }

abbrev pub stored_address : IpAddress → Row
stored_address row = record { kind = Addresses; id = row.id; fields = address_texts row }

-- the stored row of a row as it is answered; its figures are not stored
abbrev pub stored_row : View → Row
stored_row (VrfView row) = stored_vrf row
stored_row (RirView row) = stored_rir row
stored_row (RoleView row) = stored_role row
stored_row (AggregateView row) = stored_aggregate row
stored_row (PrefixView row depth children) = stored_prefix row
stored_row (RangeView row) = stored_range row
stored_row (AddressView row) = stored_address row

-- ---- the tables of a state

-- the kinds in their order
abbrev pub kinds : List Kind
kinds = Vrfs ∷ Rirs ∷ Roles ∷ Aggregates ∷ Prefixes ∷ Ranges ∷ Addresses ∷ []

-- the stored rows of a kind
abbrev pub stored_rows : State → Kind → List Row
stored_rows s kind = by_kind kind (λ T rules. map (λ row. stored_row (rules.view row)) (rules.row_list s).rows)

-- each kind with its next id
abbrev pub next_ids : (Kind → ℕ) → List Kind → List (Kind × ℕ)
next_ids next [] = []
next_ids next (kind ∷ rest) = (kind, next kind) ∷ next_ids next rest

-- the version of the tables that a register reads and writes
abbrev pub stored_version : ℕ
stored_version = VERSION

-- the tables that represent a state: their version, the next ids, and the rows in the order of their kinds and ids
abbrev pub tables_of : State → Tables
tables_of s = record {
  version = stored_version;
  next = next_ids (next_of s) kinds;
  rows = flat_map (stored_rows s) kinds;
}

-- ---- changes of tables

-- rows are by kind and then by id
abbrev pub place_of : Kind → ℕ → ℕ
place_of kind n = kind_number kind * 4294967296 + n

abbrev pub row_place : Row → ℕ
row_place row = place_of row.kind row.id

abbrev pub next_place : Kind × ℕ → ℕ
next_place next = kind_number next.0

-- without the row of a kind and id
abbrev pub without_stored : List Row → Kind × ℕ → List Row
without_stored rows cut = without row_place rows (place_of cut.0 cut.1)

-- the tables after a change: its rows are added or replace those of their kinds and ids, its cuts go, and its next ids are set
abbrev pub changed : Change → Tables → Tables
changed change tables = record {
  version = tables.version;
  next = fold (placed next_place) tables.next change.next;
  rows = fold without_stored (fold (placed row_place) tables.rows change.puts) change.cuts;
}

-- the change that an update makes; log items are not stored
abbrev pub change_of : Update → Change
change_of u = record { puts = map stored_row u.puts; cuts = u.cuts; next = u.next }

-- if tables are known, they are those of the state
abbrev pub Tells : Option Tables → State → Type 0
Tells None s = Unit {0}
Tells (Some tables) s = tables ≡ tables_of s

-- the tables after the change of an update are those of the updated state
abbrev pub ChangesAreTold : Type 0
ChangesAreTold = (s : State) (u : Update) → IsLawful s → CanUpdate s u → changed (change_of u) (tables_of s) ≡ tables_of (updated s u)
