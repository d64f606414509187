-- The filter of a list of ranges: its parameters in this order, and the first that is malformed is answered by its name.
use Rattle.std.specs.Prelude.{◌≡◌, ℕ, List, Result, Ok}
use Rattle.ipam_data.specs.declared.calls.Filter.{Filter}
use Rattle.ipam_data.specs.declared.calls.Filter.TheVariants.{Ranges as SomeRanges}
use Rattle.ipam_data.specs.declared.replies.FieldName.TheVariants.{Contains, Family, RoleId, Status, VrfId}
use Rattle.ipam_data.specs.declared.replies.Refusal.{Refusal}
use Rattle.ipam_words.specs.Words.{range_status_named}
use Rattle.ipam_json.specs.Outcomes.{then, field}
use Rattle.rest_query.specs.declared.asked.RangeTests.{RangeTests}
use Rattle.rest_query.specs.Query.{value_in, with_value}
use Rattle.rest_query.specs.Readings.{family_named, test_of, IsIdTest, IsAreaTest}

-- the parameters are read so
pub record AreRangeTests (query : List ℕ) (tests : RangeTests) : Type 0 where
  pub family : tests.family ≡ test_of family_named (value_in query Family)
  pub vrf_id : IsIdTest (value_in query VrfId) tests.vrf_id
  pub status : tests.status ≡ test_of range_status_named (value_in query Status)
  pub role_id : IsIdTest (value_in query RoleId) tests.role_id
  pub contains : IsAreaTest (value_in query Contains) tests.contains

abbrev pub range_filter : RangeTests → Result Filter Refusal
range_filter tests =
    then (field Family tests.family) λ family.
    then (field VrfId tests.vrf_id) λ vrf_id.
    then (field Status tests.status) λ status.
    then (field RoleId tests.role_id) λ role_id.
    then (field Contains tests.contains) λ contains.
    Ok (SomeRanges family vrf_id status role_id contains)

-- a form with the filters that are given
abbrev pub with_range_filters : List ℕ → List ℕ → List ℕ
with_range_filters query form =
    with_value query Contains (with_value query RoleId (with_value query Status (with_value query VrfId (with_value query Family form))))
