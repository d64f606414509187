-- The filter of a list of VRFs: the texts are compared as they are.
use Rattle.std.specs.Prelude.{ℕ, List}
use Rattle.ipam_data.specs.declared.calls.Filter.{Filter}
use Rattle.ipam_data.specs.declared.calls.Filter.TheVariants.{Vrfs as SomeVrfs}
use Rattle.ipam_data.specs.declared.replies.FieldName.TheVariants.{Name, Rd}
use Rattle.rest_query.specs.Query.{value_in, with_value}

abbrev pub vrf_filter : List ℕ → Filter
vrf_filter query = SomeVrfs (value_in query Name) (value_in query Rd)

-- a form with the filters that are given
abbrev pub with_vrf_filters : List ℕ → List ℕ → List ℕ
with_vrf_filters query form = with_value query Rd (with_value query Name form)
