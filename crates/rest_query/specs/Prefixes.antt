-- The filter of a list of prefixes: its parameters in this order, and the first that is malformed is answered by its name.
use Rattle.std.specs.Prelude.{◌≡◌, ℕ, List, Result, Ok}
use Rattle.ipam_data.specs.declared.calls.Filter.{Filter}
use Rattle.ipam_data.specs.declared.calls.Filter.TheVariants.{Prefixes as SomePrefixes}
use Rattle.ipam_data.specs.declared.replies.FieldName.TheVariants.{Contains, Family, Prefix as PrefixField, RoleId, Status, VrfId, Within, WithinInclude}
use Rattle.ipam_data.specs.declared.replies.Refusal.{Refusal}
use Rattle.ipam_words.specs.Words.{prefix_status_named}
use Rattle.ipam_json.specs.Outcomes.{then, field}
use Rattle.rest_query.specs.declared.asked.PrefixTests.{PrefixTests}
use Rattle.rest_query.specs.Query.{value_in, with_value}
use Rattle.rest_query.specs.Readings.{family_named, test_of, IsIdTest, IsBlockTest, IsAreaTest}

-- the parameters are read so
pub record ArePrefixTests (query : List ℕ) (tests : PrefixTests) : Type 0 where
  pub family : tests.family ≡ test_of family_named (value_in query Family)
  pub vrf_id : IsIdTest (value_in query VrfId) tests.vrf_id
  pub status : tests.status ≡ test_of prefix_status_named (value_in query Status)
  pub role_id : IsIdTest (value_in query RoleId) tests.role_id
  pub prefix : IsBlockTest (value_in query PrefixField) tests.prefix
  pub within : IsBlockTest (value_in query Within) tests.within
  pub within_include : IsBlockTest (value_in query WithinInclude) tests.within_include
  pub contains : IsAreaTest (value_in query Contains) tests.contains

abbrev pub prefix_filter : PrefixTests → Result Filter Refusal
prefix_filter tests =
    then (field Family tests.family) λ family.
    then (field VrfId tests.vrf_id) λ vrf_id.
    then (field Status tests.status) λ status.
    then (field RoleId tests.role_id) λ role_id.
    then (field PrefixField tests.prefix) λ prefix.
    then (field Within tests.within) λ within.
    then (field WithinInclude tests.within_include) λ within_include.
    then (field Contains tests.contains) λ contains.
    Ok (SomePrefixes family vrf_id status role_id prefix within within_include contains)

-- a form with the filters that are given
abbrev pub with_prefix_filters : List ℕ → List ℕ → List ℕ
with_prefix_filters query form =
    with_value query Contains (with_value query WithinInclude (with_value query Within (with_value query PrefixField
    (with_value query RoleId (with_value query Status (with_value query VrfId (with_value query Family form)))))))
