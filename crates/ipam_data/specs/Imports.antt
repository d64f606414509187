-- Imports: which rows make a record, why a row is refused, and what an import leaves. A row makes a record if, among the rows up
-- to it, more have its fields than records had before the import. Fields are compared as a record keeps them.
use Rattle.std.specs.Prelude.{ℕ, ◌+◌, ◌-◌, ◌==◌, nat_lt, nat_le, Bool, true, false, List, [], ◌∷◌, ◌++◌, Option, Some, None, option_map, map, count_by, length, bytes_eq, if◌then◌else◌}
use Rattle.inet_num.specs.Net.{IsBlock}
use Rattle.ipam_data.specs.declared.kinds.Kind.{Kind}
use Rattle.ipam_data.specs.declared.kinds.Kind.TheVariants.{Vrfs, Rirs, Roles, Aggregates, Prefixes, Ranges, Addresses}
use Rattle.ipam_data.specs.declared.address.AddressStatus.{AddressStatus}
use Rattle.ipam_data.specs.declared.vrf.Vrf.{Vrf}
use Rattle.ipam_data.specs.declared.rir.Rir.{Rir}
use Rattle.ipam_data.specs.declared.role.Role.{Role}
use Rattle.ipam_data.specs.declared.calls.Draft.{Draft}
use Rattle.ipam_data.specs.declared.calls.Draft.TheVariants.{Vrf as VrfDraft, Rir as RirDraft, Role as RoleDraft, Aggregate as AggregateDraft, Prefix as PrefixDraft, IpRange as RangeDraft, IpAddress as AddressDraft}
use Rattle.ipam_data.specs.declared.imports.ImportRow.{ImportRow}
use Rattle.ipam_data.specs.declared.imports.ImportRow.TheVariants.{Vrf as VrfRow, Rir as RirRow, Role as RoleRow, Aggregate as AggregateRow, Prefix as PrefixRow, IpRange as RangeRow, IpAddress as AddressRow}
use Rattle.ipam_data.specs.declared.replies.Rule.{Rule}
use Rattle.ipam_data.specs.declared.replies.Rule.TheVariants.{ZeroMask, RangeOrder, RangeSize, SlaacFamily, DnsName, NoSuchName, Ambiguous}
use Rattle.ipam_data.specs.declared.replies.RowFault.TheVariants as fault
use Rattle.ipam_data.specs.declared.replies.Which.TheVariants.{Rows}
use Rattle.ipam_data.specs.declared.replies.Refusal.{Refusal}
use Rattle.ipam_data.specs.declared.replies.Refusal.TheVariants.{Field, Rule as Breaks, Limit, Row}
use Rattle.ipam_data.specs.declared.replies.FieldName.TheVariants as member
use Rattle.ipam_data.specs.declared.replies.Reply.TheVariants.{Imported}
use Rattle.ipam_data.specs.declared.replies.View.{View}
use Rattle.ipam_data.specs.Texts.{IsDescription, IsDnsText}
use Rattle.ipam_data.specs.HostNames.{is_dns_name}
use Rattle.ipam_data.specs.Hosts.{Masked, IsMasked}
use Rattle.ipam_data.specs.Rows.{rir_id, role_id, same_kind}
use Rattle.ipam_data.specs.RowList.{least}
use Rattle.ipam_data.specs.Checks.{first, breaks, too_many, no_log}
use Rattle.ipam_data.specs.State.{State, Plan}
use Rattle.ipam_data.specs.Plans.{add_row, creation}
use Rattle.ipam_data.specs.Vrfs.{ids_named}
use Rattle.ipam_data.specs.Ranges.{range_family, range_mask, most_of_range}
use Rattle.ipam_data.specs.Addresses.{is_slaac_of_v4}
use Rattle.ipam_data.specs.ByKind.{by_kind, by_view}
use Rattle.ipam_data.specs.Fields.{drafted, next_for, told_of_draft, recorded, stored_draft, same_draft, HasDraftBounds}
use Rattle.ipam_data.specs.declared.imports.TheConstants.{MOST_ROWS}

-- how many rows an import may have
abbrev pub most_rows : ℕ
most_rows = MOST_ROWS

-- ---- records

-- the drafts of the records of a kind
abbrev pub records_of : State → Kind → List Draft
records_of s kind = by_kind kind (λ T rules. map (λ row. recorded (rules.view row)) (rules.row_list s).rows)

-- how many of these are the draft
unfoldable pub times : Draft → List Draft → ℕ
times draft drafts = count_by (same_draft draft) drafts

-- the next id of a kind
abbrev pub next_of : State → Kind → ℕ
next_of s kind = by_kind kind (λ T rules. (rules.row_list s).next)

-- ---- names

abbrev pub kind_of_row : ImportRow → Kind
kind_of_row (VrfRow name rd enforce_unique description) = Vrfs
kind_of_row (RirRow name slug is_private description) = Rirs
kind_of_row (RoleRow name slug weight description) = Roles
kind_of_row (AggregateRow block rir description) = Aggregates
kind_of_row (PrefixRow block vrf status role is_pool mark_utilized description) = Prefixes
kind_of_row (RangeRow start end vrf status role mark_utilized mark_populated description) = Ranges
kind_of_row (AddressRow host vrf status role dns_name description) = Addresses

-- the least id of a VRF with the name, the id of the role and that of the RIR with it
abbrev pub vrf_named : List Vrf → Option (List ℕ) → Option ℕ
vrf_named rows None = None
vrf_named rows (Some name) = (ids_named rows name).0

abbrev pub role_named : List Role → List ℕ → Option ℕ
role_named rows name = least role_id (λ row. bytes_eq row.name name) rows

abbrev pub role_named_too : List Role → Option (List ℕ) → Option ℕ
role_named_too rows None = None
role_named_too rows (Some name) = role_named rows name

abbrev pub rir_named : List Rir → List ℕ → Option ℕ
rir_named rows name = least rir_id (λ row. bytes_eq row.name name) rows

-- the rule that the ids of the VRFs with one name break: there has to be one, and no second
abbrev pub one_of : Option ℕ × Option ℕ → Option Rule
one_of (None, second) = Some (NoSuchName Vrfs)
one_of (Some one, None) = None
one_of (Some one, Some second) = Some (Ambiguous one second)

abbrev pub vrf_rule : List Vrf → Option (List ℕ) → Option Rule
vrf_rule rows None = None
vrf_rule rows (Some name) = one_of (ids_named rows name)

-- there has to be a row of the kind with the name
abbrev pub named_rule : Kind → Option ℕ → Option Rule
named_rule kind None = Some (NoSuchName kind)
named_rule kind (Some n) = None

abbrev pub role_rule : List Role → Option (List ℕ) → Option Rule
role_rule rows None = None
role_rule rows (Some name) = named_rule Roles (role_named rows name)

-- the rules that the names of a row break
abbrev pub name_rules : State → ImportRow → List (Option Rule)
name_rules s (VrfRow name rd enforce_unique description) = []
name_rules s (RirRow name slug is_private description) = []
name_rules s (RoleRow name slug weight description) = []
name_rules s (AggregateRow block rir description) = named_rule Rirs (rir_named s.rirs.rows rir) ∷ []
name_rules s (PrefixRow block vrf status role is_pool mark_utilized description) = vrf_rule s.vrfs.rows vrf ∷ role_rule s.roles.rows role ∷ []
name_rules s (RangeRow start end vrf status role mark_utilized mark_populated description) = vrf_rule s.vrfs.rows vrf ∷ role_rule s.roles.rows role ∷ []
name_rules s (AddressRow host vrf status role dns_name description) = vrf_rule s.vrfs.rows vrf ∷ []

-- the id, or 0, which no row has
abbrev pub id_or_none : Option ℕ → ℕ
id_or_none None = 0
id_or_none (Some n) = n

-- the draft that a row represents: its names are those of records of the state
abbrev pub draft_of : State → ImportRow → Draft
draft_of s (VrfRow name rd enforce_unique description) = VrfDraft name rd enforce_unique description
draft_of s (RirRow name slug is_private description) = RirDraft name slug is_private description
draft_of s (RoleRow name slug weight description) = RoleDraft name slug weight description
draft_of s (AggregateRow block rir description) = AggregateDraft block (id_or_none (rir_named s.rirs.rows rir)) description
draft_of s (PrefixRow block vrf status role is_pool mark_utilized description) =
    PrefixDraft block (vrf_named s.vrfs.rows vrf) status (role_named_too s.roles.rows role) is_pool mark_utilized description
draft_of s (RangeRow start end vrf status role mark_utilized mark_populated description) =
    RangeDraft start end (vrf_named s.vrfs.rows vrf) status (role_named_too s.roles.rows role) mark_utilized mark_populated description
draft_of s (AddressRow host vrf status role dns_name description) = AddressDraft host (vrf_named s.vrfs.rows vrf) status role dns_name description

abbrev pub zero_mask : ℕ → Option Rule
zero_mask len = if len == 0 then Some ZeroMask else None

-- the rules that the ends of a range break by themselves
abbrev pub ends_rules : Masked → Masked → List (Option Rule)
ends_rules start end =
    range_family start.addr end.addr ∷ range_mask start end ∷ zero_mask start.len
    ∷ (if nat_lt start.addr.value end.addr.value then None else Some RangeOrder)
    ∷ (if nat_le (end.addr.value + 1 - start.addr.value) most_of_range then None else Some RangeSize) ∷ []

-- those that an address breaks by itself
abbrev pub host_rules : Masked → AddressStatus → List ℕ → List (Option Rule)
host_rules host status dns_name =
    zero_mask host.len ∷ (if is_slaac_of_v4 status host.addr.family then Some SlaacFamily else None)
    ∷ (if is_dns_name dns_name then None else Some DnsName) ∷ []

-- the rules that a row breaks by itself
abbrev pub value_rules : ImportRow → List (Option Rule)
value_rules (VrfRow name rd enforce_unique description) = []
value_rules (RirRow name slug is_private description) = []
value_rules (RoleRow name slug weight description) = []
value_rules (AggregateRow block rir description) = zero_mask block.len ∷ []
value_rules (PrefixRow block vrf status role is_pool mark_utilized description) = zero_mask block.len ∷ []
value_rules (RangeRow start end vrf status role mark_utilized mark_populated description) = ends_rules start end
value_rules (AddressRow host vrf status role dns_name description) = host_rules host status dns_name

-- ---- the import

-- how far an import has got: the state with the records that it made, the drafts of its rows so far as records keep them, the last one
-- first, and the records that it made
pub record Progress : Type 0 where
  pub state : State
  pub seen : List Draft
  pub made : List View

abbrev pub begun : State → Progress
begun s = record { state = s; seen = []; made = [] }

-- the draft makes a record: with it more rows have its fields than records had before the import
unfoldable pub makes_one : State → Kind → List Draft → Draft → Bool
makes_one old kind seen d = nat_lt (times (stored_draft d) (records_of old kind)) (times (stored_draft d) (stored_draft d ∷ seen))

-- the record of a draft, and the state with it
abbrev pub record_of : State → Draft → View
record_of s d = drafted (next_for s d) d

abbrev pub with_record : State → Draft → State
with_record s d = by_view (record_of s d) (λ T rules row. add_row rules s row)

-- the import with one more row, which makes a record or does not
abbrev pub with_draft : Bool → Progress → Draft → Progress
with_draft true so d = record { state = with_record so.state d; seen = stored_draft d ∷ so.seen; made = so.made ++ record_of so.state d ∷ [] }
with_draft false so d = record { state = so.state; seen = stored_draft d ∷ so.seen; made = so.made }

abbrev pub after_row : State → Kind → Progress → ImportRow → Progress
after_row old kind so row = with_draft (makes_one old kind so.seen (draft_of old row)) so (draft_of old row)

abbrev pub after_rows : State → Kind → Progress → List ImportRow → Progress
after_rows old kind so [] = so
after_rows old kind so (row ∷ rows) = after_rows old kind (after_row old kind so row) rows

-- a refusal, as that of the row with this number
abbrev pub at_row : ℕ → Refusal → Refusal
at_row n (Field name) = Row n (fault.Field name)
at_row n (Breaks rule) = Row n (fault.Rule rule)
at_row n (Limit which most) = Row n (fault.Limit which most)
at_row n other = other

-- the checks of a creation but for the log, for a row that makes a record
abbrev pub create_checks : Bool → State → Draft → List (Option Refusal)
create_checks true s d = by_view (record_of s d) (λ T rules row. creation rules s (told_of_draft d) row)
create_checks false s d = []

-- a row of another kind is refused
abbrev pub kind_rule : Kind → ImportRow → Option Refusal
kind_rule kind row = if same_kind (kind_of_row row) kind then None else Some (Field member.Row)

-- why a row is refused: its kind, its names, then its values, then what a creation given the records so far checks
abbrev pub row_checks : State → Kind → Progress → ImportRow → List (Option Refusal)
row_checks old kind so row =
    kind_rule kind row ∷ map breaks (name_rules old row) ++ (map breaks (value_rules row)
    ++ create_checks (makes_one old kind so.seen (draft_of old row)) so.state (draft_of old row))

abbrev pub row_verdict : State → Kind → Progress → ℕ → ImportRow → Option Refusal
row_verdict old kind so n row = option_map (at_row n) (first (row_checks old kind so row))

-- the verdict of each row besides what the rows before it made
abbrev pub row_verdicts : State → Kind → Progress → ℕ → List ImportRow → List (Option Refusal)
row_verdicts old kind so n [] = []
row_verdicts old kind so n (row ∷ rows) = row_verdict old kind so n row ∷ row_verdicts old kind (after_row old kind so row) (n + 1) rows

-- the log items of an import: one for each row, but at least one
abbrev pub items_of : List ImportRow → ℕ
items_of [] = 1
items_of (row ∷ rows) = length (row ∷ rows)

-- an import of rows of a kind: all of them, or none if one is refused
abbrev pub import_plan : State → Kind → List ImportRow → Plan
import_plan s kind rows =
    let done = after_rows s kind (begun s) rows in record {
      checks = too_many Rows most_rows (length rows) ∷ row_verdicts s kind (begun s) 1 rows ++ no_log s.spent (items_of rows) ∷ [];
      update = record { puts = done.made; cuts = []; next = (kind, next_of done.state kind) ∷ []; spent = items_of rows };
      reply = Imported (length done.made) (length rows - length done.made);
    }

-- what a row keeps by its types
abbrev pub HasRowBounds : ImportRow → Type 0
HasRowBounds (VrfRow name rd enforce_unique description) = HasDraftBounds (VrfDraft name rd enforce_unique description)
HasRowBounds (RirRow name slug is_private description) = HasDraftBounds (RirDraft name slug is_private description)
HasRowBounds (RoleRow name slug weight description) = HasDraftBounds (RoleDraft name slug weight description)
HasRowBounds (AggregateRow block rir description) = IsBlock block × IsDescription description
HasRowBounds (PrefixRow block vrf status role is_pool mark_utilized description) = IsBlock block × IsDescription description
HasRowBounds (RangeRow start end vrf status role mark_utilized mark_populated description) = IsMasked start × IsMasked end × IsDescription description
HasRowBounds (AddressRow host vrf status role dns_name description) = IsMasked host × IsDnsText dns_name × IsDescription description
