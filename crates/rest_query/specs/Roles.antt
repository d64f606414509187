-- The filter of a list of roles: the texts are compared as they are.
use Rattle.std.specs.Prelude.{ℕ, List}
use Rattle.ipam_data.specs.declared.calls.Filter.{Filter}
use Rattle.ipam_data.specs.declared.calls.Filter.TheVariants.{Roles as SomeRoles}
use Rattle.ipam_data.specs.declared.replies.FieldName.TheVariants.{Name, Slug}
use Rattle.rest_query.specs.Query.{value_in, with_value}

abbrev pub role_filter : List ℕ → Filter
role_filter query = SomeRoles (value_in query Name) (value_in query Slug)

-- a form with the filters that are given
abbrev pub with_role_filters : List ℕ → List ℕ → List ℕ
with_role_filters query form = with_value query Slug (with_value query Name form)
