-- What the query of a list asks for: a filter, a limit and an offset, and the queries of the links to other pages.
use Rattle.std.specs.Prelude.{◌≡◌, ℕ, List, [], decimal, Option, Result, Ok}
use Rattle.form_urlencoded.specs.Form.{append_pair}
use Rattle.ipam_data.specs.declared.kinds.Kind.{Kind}
use Rattle.ipam_data.specs.declared.kinds.Kind.TheVariants.{Vrfs, Rirs, Roles, Aggregates, Prefixes, Ranges, Addresses}
use Rattle.ipam_data.specs.declared.calls.Filter.{Filter}
use Rattle.ipam_data.specs.declared.calls.Filter.TheVariants.{Vrfs as SomeVrfs, Rirs as SomeRirs, Roles as SomeRoles, Aggregates as SomeAggregates, Prefixes as SomePrefixes, Ranges as SomeRanges, Addresses as SomeAddresses}
use Rattle.ipam_data.specs.declared.replies.FieldName.TheVariants.{DnsName, Limit, Offset}
use Rattle.ipam_data.specs.declared.replies.Refusal.{Refusal}
use Rattle.ipam_data.specs.Answers.{field_text}
use Rattle.ipam_json.specs.Outcomes.{then, field}
use Rattle.rest_query.specs.declared.asked.AggregateTests.{AggregateTests}
use Rattle.rest_query.specs.declared.asked.PrefixTests.{PrefixTests}
use Rattle.rest_query.specs.declared.asked.RangeTests.{RangeTests}
use Rattle.rest_query.specs.declared.asked.AddressTests.{AddressTests}
use Rattle.rest_query.specs.declared.asked.Available.{Available}
use Rattle.rest_query.specs.declared.asked.Listing.{Listing}
use Rattle.rest_query.specs.Query.{value_in}
use Rattle.rest_query.specs.Readings.{available_limit, default_limit, IsLimit, IsOffset}
use Rattle.rest_query.specs.Vrfs.{vrf_filter, with_vrf_filters}
use Rattle.rest_query.specs.Rirs.{rir_filter, with_rir_filters}
use Rattle.rest_query.specs.Roles.{role_filter, with_role_filters}
use Rattle.rest_query.specs.Aggregates.{AreAggregateTests, aggregate_filter, with_aggregate_filters}
use Rattle.rest_query.specs.Prefixes.{ArePrefixTests, prefix_filter, with_prefix_filters}
use Rattle.rest_query.specs.Ranges.{AreRangeTests, range_filter, with_range_filters}
use Rattle.rest_query.specs.Addresses.{AreAddressTests, address_filter, lower, with_address_filters}

-- the filter of a kind
abbrev pub IsFilterOf : Kind → List ℕ → Result Filter Refusal → Type 0
IsFilterOf Vrfs query filter = filter ≡ Ok (vrf_filter query)
IsFilterOf Rirs query filter = filter ≡ Ok (rir_filter query)
IsFilterOf Roles query filter = filter ≡ Ok (role_filter query)
IsFilterOf Aggregates query filter = (tests : AggregateTests) × AreAggregateTests query tests × (filter ≡ aggregate_filter tests)
IsFilterOf Prefixes query filter = (tests : PrefixTests) × ArePrefixTests query tests × (filter ≡ prefix_filter tests)
IsFilterOf Ranges query filter = (tests : RangeTests) × AreRangeTests query tests × (filter ≡ range_filter tests)
IsFilterOf Addresses query filter =
    (tests : AddressTests) × AreAddressTests query tests × (filter ≡ address_filter tests (lower (value_in query DnsName)))

-- filter, limit and offset, in this order
abbrev pub listing_of : Result Filter Refusal → Option ℕ → Option ℕ → Result Listing Refusal
listing_of filter limit offset =
    then filter λ filter.
    then (field Limit limit) λ limit.
    then (field Offset offset) λ offset.
    Ok (record { filter = filter; limit = limit; offset = offset })

-- what the query of a list asks for
pub record IsListing (kind : Kind) (query : List ℕ) (answer : Result Listing Refusal) : Type 0 where
  pub filter : Result Filter Refusal
  pub limit : Option ℕ
  pub offset : Option ℕ
  pub filtered : IsFilterOf kind query filter
  pub limited : IsLimit default_limit (value_in query Limit) limit
  pub moved : IsOffset (value_in query Offset) offset
  pub is : answer ≡ listing_of filter limit offset

-- what the query of a list of available things asks for: a limit alone
abbrev pub IsLimitAsked : Available → List ℕ → Result ℕ Refusal → Type 0
IsLimitAsked available query answer =
    (limit : Option ℕ) × IsLimit (available_limit available) (value_in query Limit) limit × (answer ≡ field Limit limit)

-- how many rows come before the page that the query of a list asks for
abbrev pub IsOffsetAsked : List ℕ → Result ℕ Refusal → Type 0
IsOffsetAsked query answer = (offset : Option ℕ) × IsOffset (value_in query Offset) offset × (answer ≡ field Offset offset)

-- a form with the filters of a kind that are given, as they were given
abbrev pub with_filters : Kind → List ℕ → List ℕ → List ℕ
with_filters Vrfs query form = with_vrf_filters query form
with_filters Rirs query form = with_rir_filters query form
with_filters Roles query form = with_role_filters query form
with_filters Aggregates query form = with_aggregate_filters query form
with_filters Prefixes query form = with_prefix_filters query form
with_filters Ranges query form = with_range_filters query form
with_filters Addresses query form = with_address_filters query form

-- the query of a link to a page: the filters, then limit and offset
abbrev pub link_query : Kind → List ℕ → ℕ → ℕ → List ℕ
link_query kind query limit offset =
    append_pair (append_pair (with_filters kind query []) (field_text Limit) (decimal limit)) (field_text Offset) (decimal offset)

-- the kind of a filter
abbrev pub kind_of : Filter → Kind
kind_of (SomeVrfs name rd) = Vrfs
kind_of (SomeRirs name slug) = Rirs
kind_of (SomeRoles name slug) = Roles
kind_of (SomeAggregates family rir_id) = Aggregates
kind_of (SomePrefixes family vrf_id status role_id prefix within within_include contains) = Prefixes
kind_of (SomeRanges family vrf_id status role_id contains) = Ranges
kind_of (SomeAddresses family vrf_id status role parent dns_name) = Addresses
