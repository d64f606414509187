-- Addresses in JSON: the bodies of a Create and of a Change, and the row.
use Rattle.std.specs.Prelude.{List, [], ◌∷◌, Option, Some, None, Result, Ok}
use Rattle.ipam_data.specs.Hosts.{Masked}
use Rattle.ipam_data.specs.declared.address.IpAddress.{IpAddress}
use Rattle.ipam_data.specs.declared.address.AddressRole.{AddressRole}
use Rattle.ipam_data.specs.declared.calls.Draft.{Draft}
use Rattle.ipam_data.specs.declared.calls.Draft.TheVariants.{IpAddress as AddressDraft}
use Rattle.ipam_data.specs.declared.calls.Edit.{Edit}
use Rattle.ipam_data.specs.declared.calls.Edit.TheVariants.{IpAddress as AddressEdit}
use Rattle.ipam_data.specs.declared.replies.FieldName.TheVariants.{Address as AddressField, Description, DnsName, Role as RoleField, Status, Vrf as VrfField}
use Rattle.ipam_data.specs.declared.replies.Refusal.{Refusal}
use Rattle.ipam_data.specs.Answers.{field_text}
use Rattle.serde_json.specs.Data.{Data, null, object}
use Rattle.ipam_json.specs.Outcomes.{then, read_member, read_given}
use Rattle.ipam_json.specs.Members.{description_of, dns_name_of, id_of, address_status_of, address_role_of}
use Rattle.ipam_words.specs.Words.{address_status_label, address_status_value, address_role_label, address_role_value}
use Rattle.ipam_json.specs.Values.{members, choice_data, host_text, Named, id_named, text_named, reference_named, family_named}

-- the body of an address, whose member `address` comes first and gives this host or refusal
abbrev pub address_draft : Result Masked Refusal → Data → Result Draft Refusal
address_draft host d =
    then host λ host.
    then (read_member VrfField id_of d) λ vrf.
    then (read_member Status address_status_of d) λ status.
    then (read_member RoleField address_role_of d) λ role.
    then (read_member DnsName dns_name_of d) λ dns_name.
    then (read_member Description description_of d) λ description.
    Ok (AddressDraft host vrf status role dns_name description)

-- that of an edit, in the same order: what is absent stays
abbrev pub address_edit : Result (Option Masked) Refusal → Data → Result Edit Refusal
address_edit host d =
    then host λ host.
    then (read_given VrfField id_of d) λ vrf.
    then (read_given Status address_status_of d) λ status.
    then (read_given RoleField address_role_of d) λ role.
    then (read_given DnsName dns_name_of d) λ dns_name.
    then (read_given Description description_of d) λ description.
    Ok (AddressEdit host vrf status role dns_name description)

-- the role of an address, or null if it has none
abbrev pub address_role_data : Option AddressRole → Data
address_role_data None = null
address_role_data (Some role) = choice_data (address_role_label role) (address_role_value role)

abbrev pub address_members : IpAddress → List Named
address_members row =
    text_named AddressField (host_text row.host.addr row.host.len)
    ∷ text_named Description row.description
    ∷ text_named DnsName row.dns_name
    ∷ family_named row.host.addr.family
    ∷ id_named row.id
    ∷ (field_text RoleField, address_role_data row.role)
    ∷ (field_text Status, choice_data (address_status_label row.status) (address_status_value row.status))
    ∷ reference_named VrfField row.vrf ∷ []

abbrev pub address_data : IpAddress → Data
address_data row = object (members (address_members row))
