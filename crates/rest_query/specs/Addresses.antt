-- The filter of a list of addresses: its parameters in this order, and the first that is malformed is answered by its name. The
-- name of a host is put in lower case before it is compared.
use Rattle.std.specs.Prelude.{◌≡◌, ℕ, List, Option, option_map, Result, Ok}
use Rattle.std.specs.Str.{str_to_ascii_lowercase}
use Rattle.ipam_data.specs.declared.calls.Filter.{Filter}
use Rattle.ipam_data.specs.declared.calls.Filter.TheVariants.{Addresses as SomeAddresses}
use Rattle.ipam_data.specs.declared.replies.FieldName.TheVariants.{DnsName, Family, Parent, Role as RoleField, Status, VrfId}
use Rattle.ipam_data.specs.declared.replies.Refusal.{Refusal}
use Rattle.ipam_words.specs.Words.{address_status_named, address_role_named}
use Rattle.ipam_json.specs.Outcomes.{then, field}
use Rattle.rest_query.specs.declared.asked.AddressTests.{AddressTests}
use Rattle.rest_query.specs.Query.{value_in, with_value}
use Rattle.rest_query.specs.Readings.{family_named, test_of, IsIdTest, IsBlockTest}

-- the parameters that may be malformed are read so
pub record AreAddressTests (query : List ℕ) (tests : AddressTests) : Type 0 where
  pub family : tests.family ≡ test_of family_named (value_in query Family)
  pub vrf_id : IsIdTest (value_in query VrfId) tests.vrf_id
  pub status : tests.status ≡ test_of address_status_named (value_in query Status)
  pub role : tests.role ≡ test_of address_role_named (value_in query RoleField)
  pub parent : IsBlockTest (value_in query Parent) tests.parent

abbrev pub address_filter : AddressTests → Option (List ℕ) → Result Filter Refusal
address_filter tests dns_name =
    then (field Family tests.family) λ family.
    then (field VrfId tests.vrf_id) λ vrf_id.
    then (field Status tests.status) λ status.
    then (field RoleField tests.role) λ role.
    then (field Parent tests.parent) λ parent.
    Ok (SomeAddresses family vrf_id status role parent dns_name)

-- a text that may be given, in lower case
abbrev pub lower : Option (List ℕ) → Option (List ℕ)
lower text = option_map str_to_ascii_lowercase text

-- a form with the filters that are given
abbrev pub with_address_filters : List ℕ → List ℕ → List ℕ
with_address_filters query form =
    with_value query DnsName (with_value query Parent (with_value query RoleField (with_value query Status (with_value query VrfId (with_value query Family form)))))
