-- What is said of rows field by field: the row that a draft makes, the draft of a record and when two drafts are the same, the row that an
-- edit leaves of an old one, what drafts and edits keep by their types, and the printed names of fields. The definitions name the fields of drafts and edits nowhere else.
use Rattle.std.specs.Prelude.{◌≡◌, ◌↔◌, ℕ, ◌==◌, ◌&&◌, Bool, List, [], Option, Some, None, true, false, bytes_eq, codes}
use Rattle.std.specs.Bool.{beq}
use Rattle.std.specs.Option.{option_eq}
use Rattle.std.specs.Str.{str_to_ascii_lowercase}
use Rattle.inet_num.specs.Net.{Cidr, IsBlock}
use Rattle.inet_num.specs.Blocks.{same_address, same_block}
use Rattle.ipam_data.specs.declared.vrf.Vrf.{Vrf}
use Rattle.ipam_data.specs.declared.rir.Rir.{Rir}
use Rattle.ipam_data.specs.declared.role.Role.{Role}
use Rattle.ipam_data.specs.declared.aggregate.Aggregate.{Aggregate}
use Rattle.ipam_data.specs.declared.prefix.Prefix.{Prefix}
use Rattle.ipam_data.specs.declared.prefix.PrefixStatus.TheVariants.{Active as ActivePrefix}
use Rattle.ipam_data.specs.declared.range.IpRange.{IpRange}
use Rattle.ipam_data.specs.declared.range.RangeStatus.TheVariants.{Active as ActiveRange}
use Rattle.ipam_data.specs.declared.address.IpAddress.{IpAddress}
use Rattle.ipam_data.specs.declared.address.AddressStatus.TheVariants.{Active as ActiveAddress}
use Rattle.ipam_data.specs.declared.address.AddressRole.{AddressRole}
use Rattle.ipam_data.specs.declared.kinds.Kind.{Kind}
use Rattle.ipam_data.specs.declared.kinds.Kind.TheVariants.{Vrfs, Rirs, Roles, Aggregates, Prefixes, Ranges, Addresses}
use Rattle.ipam_data.specs.declared.calls.Draft.{Draft}
use Rattle.ipam_data.specs.declared.calls.Draft.TheVariants.{Vrf as VrfDraft, Rir as RirDraft, Role as RoleDraft, Aggregate as AggregateDraft, Prefix as PrefixDraft, IpRange as RangeDraft, IpAddress as AddressDraft}
use Rattle.ipam_data.specs.declared.calls.Edit.{Edit}
use Rattle.ipam_data.specs.declared.calls.Edit.TheVariants.{Vrf as VrfEdit, Rir as RirEdit, Role as RoleEdit, Aggregate as AggregateEdit, Prefix as PrefixEdit, IpRange as RangeEdit, IpAddress as AddressEdit}
use Rattle.ipam_data.specs.declared.replies.FieldName.{FieldName}
use Rattle.ipam_data.specs.declared.replies.FieldName.TheVariants as member
use Rattle.ipam_data.specs.declared.replies.Rule.{Rule}
use Rattle.ipam_data.specs.declared.replies.View.{View}
use Rattle.ipam_data.specs.declared.replies.View.TheVariants.{Vrf as VrfView, Rir as RirView, Role as RoleView, Aggregate as AggregateView, Prefix as PrefixView, IpRange as RangeView, IpAddress as AddressView}
use Rattle.ipam_data.specs.Texts.{IsName, IsSlug, IsDistinguisher, IsDescription, IsWeight, IsDnsText}
use Rattle.ipam_data.specs.Hosts.{Masked, IsMasked}
use Rattle.ipam_data.specs.Rows.{prefix_status_number, range_status_number, address_status_number, address_role_number}
use Rattle.ipam_data.specs.Tables.{same_name}
use Rattle.ipam_data.specs.State.{State}
use Rattle.ipam_data.specs.Plans.{edited}
use Rattle.ipam_data.specs.ByKind.{by_view}
use Rattle.ipam_data.specs.Ranges.{range_told, ends_of}

-- ---- drafts

-- the row that a draft makes under an id, without figures; the name of a host is put in lower case
abbrev pub drafted : ℕ → Draft → View
drafted n (VrfDraft name rd enforce_unique description) = VrfView (record {
  id = n;
  name = name;
  rd = rd;
  enforce_unique = enforce_unique;
  description = description;
})
drafted n (RirDraft name slug is_private description) = RirView (record {
  id = n;
  name = name;
  slug = slug;
  is_private = is_private;
  description = description;
})
drafted n (RoleDraft name slug weight description) = RoleView (record {
  id = n;
  name = name;
  slug = slug;
  weight = weight;
  description = description;
})
drafted n (AggregateDraft block rir description) = AggregateView (record {
  id = n;
  block = block;
  rir = rir;
  description = description;
})
drafted n (PrefixDraft block vrf status role is_pool mark_utilized description) = PrefixView (record {
  id = n;
  block = block;
  vrf = vrf;
  status = status;
  role = role;
  is_pool = is_pool;
  mark_utilized = mark_utilized;
  description = description;
}) 0 0
drafted n (RangeDraft start end vrf status role mark_utilized mark_populated description) = RangeView (record {
  id = n;
  ends = ends_of start end;
  vrf = vrf;
  status = status;
  role = role;
  mark_utilized = mark_utilized;
  mark_populated = mark_populated;
  description = description;
})
drafted n (AddressDraft host vrf status role dns_name description) = AddressView (record {
  id = n;
  host = host;
  vrf = vrf;
  status = status;
  role = role;
  dns_name = str_to_ascii_lowercase dns_name;
  description = description;
})

-- the kind of the row that a draft makes
abbrev pub kind_of_draft : Draft → Kind
kind_of_draft draft = by_view (drafted 0 draft) (λ T rules row. rules.kind)

-- the next id of that kind
abbrev pub next_for : State → Draft → ℕ
next_for s draft = by_view (drafted 0 draft) (λ T rules row. (rules.row_list s).next)

-- what is said of a draft, besides its row
abbrev pub told_of_draft : Draft → List (Option Rule)
told_of_draft (RangeDraft start end vrf status role mark_utilized mark_populated description) = range_told start end
told_of_draft draft = []

-- ---- drafts of records

-- the ends of a range, each with its mask
abbrev pub start_of : IpRange → Masked
start_of row = record { addr = row.ends.start; len = row.ends.len }

abbrev pub end_of : IpRange → Masked
end_of row = record { addr = row.ends.end; len = row.ends.len }

-- the draft of a record: its fields without its id
abbrev pub recorded : View → Draft
recorded (VrfView row) = VrfDraft row.name row.rd row.enforce_unique row.description
recorded (RirView row) = RirDraft row.name row.slug row.is_private row.description
recorded (RoleView row) = RoleDraft row.name row.slug row.weight row.description
recorded (AggregateView row) = AggregateDraft row.block row.rir row.description
recorded (PrefixView row depth children) = PrefixDraft row.block row.vrf row.status row.role row.is_pool row.mark_utilized row.description
recorded (RangeView row) = RangeDraft (start_of row) (end_of row) row.vrf row.status row.role row.mark_utilized row.mark_populated row.description
recorded (AddressView row) = AddressDraft row.host row.vrf row.status row.role row.dns_name row.description

-- a draft as its record keeps it
unfoldable pub stored_draft : Draft → Draft
stored_draft draft = recorded (drafted 0 draft)

-- the two are one address with one mask
abbrev pub same_host : Masked → Masked → Bool
same_host a b = same_address a.addr b.addr && a.len == b.len

abbrev pub same_address_role : AddressRole → AddressRole → Bool
same_address_role a b = address_role_number a == address_role_number b

-- the two drafts are of one kind and the same in each field
unfoldable pub same_draft : Draft → Draft → Bool
same_draft (VrfDraft name rd enforce_unique description) (VrfDraft name2 rd2 enforce_unique2 description2) =
    bytes_eq name name2 && option_eq bytes_eq rd rd2 && beq enforce_unique enforce_unique2 && bytes_eq description description2
same_draft (RirDraft name slug is_private description) (RirDraft name2 slug2 is_private2 description2) =
    bytes_eq name name2 && bytes_eq slug slug2 && beq is_private is_private2 && bytes_eq description description2
same_draft (RoleDraft name slug weight description) (RoleDraft name2 slug2 weight2 description2) =
    bytes_eq name name2 && bytes_eq slug slug2 && weight == weight2 && bytes_eq description description2
same_draft (AggregateDraft block rir description) (AggregateDraft block2 rir2 description2) =
    same_block block block2 && rir == rir2 && bytes_eq description description2
same_draft (PrefixDraft block vrf status role is_pool mark_utilized description) (PrefixDraft block2 vrf2 status2 role2 is_pool2 mark_utilized2 description2) =
    same_block block block2 && same_name vrf vrf2 && prefix_status_number status == prefix_status_number status2 && same_name role role2
    && beq is_pool is_pool2 && beq mark_utilized mark_utilized2 && bytes_eq description description2
same_draft (RangeDraft start end vrf status role mark_utilized mark_populated description) (RangeDraft start2 end2 vrf2 status2 role2 mark_utilized2 mark_populated2 description2) =
    same_host start start2 && same_host end end2 && same_name vrf vrf2 && range_status_number status == range_status_number status2
    && same_name role role2 && beq mark_utilized mark_utilized2 && beq mark_populated mark_populated2 && bytes_eq description description2
same_draft (AddressDraft host vrf status role dns_name description) (AddressDraft host2 vrf2 status2 role2 dns_name2 description2) =
    same_host host host2 && same_name vrf vrf2 && address_status_number status == address_status_number status2
    && option_eq same_address_role role role2 && bytes_eq dns_name dns_name2 && bytes_eq description description2
same_draft draft other = false

-- so they are one draft
abbrev pub SameDraftsAreOne : Type 0
SameDraftsAreOne = (a b : Draft) → (same_draft a b ≡ true) ↔ (a ≡ b)

-- ---- edits

-- the kind of the row that an edit is of
abbrev pub kind_of_edit : Edit → Kind
kind_of_edit (VrfEdit name rd enforce_unique description) = Vrfs
kind_of_edit (RirEdit name slug is_private description) = Rirs
kind_of_edit (RoleEdit name slug weight description) = Roles
kind_of_edit (AggregateEdit block rir description) = Aggregates
kind_of_edit (PrefixEdit block vrf status role is_pool mark_utilized description) = Prefixes
kind_of_edit (RangeEdit start end vrf status role mark_utilized mark_populated description) = Ranges
kind_of_edit (AddressEdit host vrf status role dns_name description) = Addresses

-- the row that an edit leaves of an old one: a field that is not given stays, and so does the row if the edit is of another kind
abbrev pub edited_vrf : Edit → Vrf → Vrf
edited_vrf (VrfEdit name rd enforce_unique description) old = record {
  id = old.id;
  name = edited name old.name;
  rd = edited rd old.rd;
  enforce_unique = edited enforce_unique old.enforce_unique;
  description = edited description old.description;
}
edited_vrf edit old = old

abbrev pub edited_rir : Edit → Rir → Rir
edited_rir (RirEdit name slug is_private description) old = record {
  id = old.id;
  name = edited name old.name;
  slug = edited slug old.slug;
  is_private = edited is_private old.is_private;
  description = edited description old.description;
}
edited_rir edit old = old

abbrev pub edited_role : Edit → Role → Role
edited_role (RoleEdit name slug weight description) old = record {
  id = old.id;
  name = edited name old.name;
  slug = edited slug old.slug;
  weight = edited weight old.weight;
  description = edited description old.description;
}
edited_role edit old = old

abbrev pub edited_aggregate : Edit → Aggregate → Aggregate
edited_aggregate (AggregateEdit block rir description) old = record {
  id = old.id;
  block = edited block old.block;
  rir = edited rir old.rir;
  description = edited description old.description;
}
edited_aggregate edit old = old

abbrev pub edited_prefix : Edit → Prefix → Prefix
edited_prefix (PrefixEdit block vrf status role is_pool mark_utilized description) old = record {
  id = old.id;
  block = edited block old.block;
  vrf = edited vrf old.vrf;
  status = edited status old.status;
  role = edited role old.role;
  is_pool = edited is_pool old.is_pool;
  mark_utilized = edited mark_utilized old.mark_utilized;
  description = edited description old.description;
}
edited_prefix edit old = old

-- what is said of the ends of a range of which some are changed; one that is not given keeps the row's mask
abbrev pub told_of_change : Edit → IpRange → List (Option Rule)
told_of_change (RangeEdit start end vrf status role mark_utilized mark_populated description) old = range_told (edited start (start_of old)) (edited end (end_of old))
told_of_change edit old = []

abbrev pub edited_range : Edit → IpRange → IpRange
edited_range (RangeEdit start end vrf status role mark_utilized mark_populated description) old = record {
  id = old.id;
  ends = ends_of (edited start (start_of old)) (edited end (end_of old));
  vrf = edited vrf old.vrf;
  status = edited status old.status;
  role = edited role old.role;
  mark_utilized = edited mark_utilized old.mark_utilized;
  mark_populated = edited mark_populated old.mark_populated;
  description = edited description old.description;
}
edited_range edit old = old

-- the name of a host is put in lower case
abbrev pub edited_address : Edit → IpAddress → IpAddress
edited_address (AddressEdit host vrf status role dns_name description) old = record {
  id = old.id;
  host = edited host old.host;
  vrf = edited vrf old.vrf;
  status = edited status old.status;
  role = edited role old.role;
  dns_name = str_to_ascii_lowercase (edited dns_name old.dns_name);
  description = edited description old.description;
}
edited_address edit old = old

-- ---- what drafts and edits keep by their types: blocks are ones, masks fit, texts are in their bounds

-- a distinguisher, if there is one
abbrev pub IsDistinguisherToo : Option (List ℕ) → Type 0
IsDistinguisherToo rd = (text : List ℕ) → rd ≡ Some text → IsDistinguisher text

abbrev pub HasDraftBounds : Draft → Type 0
HasDraftBounds (VrfDraft name rd enforce_unique description) = IsName name × IsDistinguisherToo rd × IsDescription description
HasDraftBounds (RirDraft name slug is_private description) = IsName name × IsSlug slug × IsDescription description
HasDraftBounds (RoleDraft name slug weight description) = IsName name × IsSlug slug × IsWeight weight × IsDescription description
HasDraftBounds (AggregateDraft block rir description) = IsBlock block × IsDescription description
HasDraftBounds (PrefixDraft block vrf status role is_pool mark_utilized description) = IsBlock block × IsDescription description
HasDraftBounds (RangeDraft start end vrf status role mark_utilized mark_populated description) = IsMasked start × IsMasked end × IsDescription description
HasDraftBounds (AddressDraft host vrf status role dns_name description) = IsMasked host × IsDnsText dns_name × IsDescription description

-- a field that is given is so
abbrev pub Given : {A : Type 0} → (A → Type 0) → Option A → Type 0
Given {A} Is field = (a : A) → field ≡ Some a → Is a

abbrev pub HasEditBounds : Edit → Type 0
HasEditBounds (VrfEdit name rd enforce_unique description) = Given IsName name × Given IsDistinguisherToo rd × Given IsDescription description
HasEditBounds (RirEdit name slug is_private description) = Given IsName name × Given IsSlug slug × Given IsDescription description
HasEditBounds (RoleEdit name slug weight description) = Given IsName name × Given IsSlug slug × Given IsWeight weight × Given IsDescription description
HasEditBounds (AggregateEdit block rir description) = Given IsBlock block × Given IsDescription description
HasEditBounds (PrefixEdit block vrf status role is_pool mark_utilized description) = Given IsBlock block × Given IsDescription description
HasEditBounds (RangeEdit start end vrf status role mark_utilized mark_populated description) = Given IsMasked start × Given IsMasked end × Given IsDescription description
HasEditBounds (AddressEdit host vrf status role dns_name description) = Given IsMasked host × Given IsDnsText dns_name × Given IsDescription description

-- ---- drafts in short, as worked examples take them: what is not asked for is as in a body that does not name it

abbrev pub plain_prefix : Cidr → Option ℕ → Option ℕ → Draft
plain_prefix block vrf role = PrefixDraft block vrf ActivePrefix role false false []

abbrev pub plain_range : Masked → Masked → Option ℕ → Draft
plain_range start end vrf = RangeDraft start end vrf ActiveRange None false false []

abbrev pub plain_address : Masked → Option ℕ → Option AddressRole → Draft
plain_address host vrf role = AddressDraft host vrf ActiveAddress role [] []

-- an edit that moves a prefix to the table of a VRF
abbrev pub prefix_into : ℕ → Edit
prefix_into vrf = PrefixEdit None (Some (Some vrf)) None None None None None

-- an edit that gives a range another end
abbrev pub range_to : Masked → Edit
range_to end = RangeEdit None (Some end) None None None None None None

-- an edit that marks a range as populated, or takes the mark off it
abbrev pub range_marked : Bool → Edit
range_marked mark = RangeEdit None None None None None None (Some mark) None

-- an edit that gives an address another host
abbrev pub address_to : Masked → Edit
address_to host = AddressEdit (Some host) None None None None None

-- ---- printed names

-- a member or a parameter by its printed name
abbrev pub field_text : FieldName → List ℕ
field_text member.Address = codes "address"
field_text member.Body = codes "body"
field_text member.Column = codes "column"
field_text member.Contains = codes "contains"
field_text member.Description = codes "description"
field_text member.DnsName = codes "dns_name"
field_text member.EndAddress = codes "end_address"
field_text member.EnforceUnique = codes "enforce_unique"
field_text member.Family = codes "family"
field_text member.IsPool = codes "is_pool"
field_text member.IsPrivate = codes "is_private"
field_text member.Limit = codes "limit"
field_text member.MarkPopulated = codes "mark_populated"
field_text member.MarkUtilized = codes "mark_utilized"
field_text member.Name = codes "name"
field_text member.Offset = codes "offset"
field_text member.Parent = codes "parent"
field_text member.Prefix = codes "prefix"
field_text member.PrefixLength = codes "prefix_length"
field_text member.Rd = codes "rd"
field_text member.Rir = codes "rir"
field_text member.RirId = codes "rir_id"
field_text member.Role = codes "role"
field_text member.RoleId = codes "role_id"
field_text member.Row = codes "row"
field_text member.Slug = codes "slug"
field_text member.StartAddress = codes "start_address"
field_text member.Status = codes "status"
field_text member.Vrf = codes "vrf"
field_text member.VrfId = codes "vrf_id"
field_text member.Weight = codes "weight"
field_text member.Within = codes "within"
field_text member.WithinInclude = codes "within_include"
