-- The filter of a list of aggregates: its parameters in this order, and the first that is malformed is answered by its name.
use Rattle.std.specs.Prelude.{◌≡◌, ℕ, List, Result, Ok}
use Rattle.ipam_data.specs.declared.calls.Filter.{Filter}
use Rattle.ipam_data.specs.declared.calls.Filter.TheVariants.{Aggregates as SomeAggregates}
use Rattle.ipam_data.specs.declared.replies.FieldName.TheVariants.{Family, RirId}
use Rattle.ipam_data.specs.declared.replies.Refusal.{Refusal}
use Rattle.ipam_json.specs.Outcomes.{then, field}
use Rattle.rest_query.specs.declared.asked.AggregateTests.{AggregateTests}
use Rattle.rest_query.specs.Query.{value_in, with_value}
use Rattle.rest_query.specs.Readings.{family_named, test_of, IsRowTest}

-- the parameters are read so
pub record AreAggregateTests (query : List ℕ) (tests : AggregateTests) : Type 0 where
  pub family : tests.family ≡ test_of family_named (value_in query Family)
  pub rir_id : IsRowTest (value_in query RirId) tests.rir_id

abbrev pub aggregate_filter : AggregateTests → Result Filter Refusal
aggregate_filter tests =
    then (field Family tests.family) λ family.
    then (field RirId tests.rir_id) λ rir_id.
    Ok (SomeAggregates family rir_id)

-- a form with the filters that are given
abbrev pub with_aggregate_filters : List ℕ → List ℕ → List ℕ
with_aggregate_filters query form = with_value query RirId (with_value query Family form)
