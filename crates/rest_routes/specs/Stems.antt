-- How the routes are in a table of forms of paths: a stem is a route without its id.
use Rattle.std.specs.Prelude.{◌≡◌, ◌≢◌, ℕ, List, [], ◌∷◌, ◌++◌, codes, decimal, map, Option, Some, None, IsPermutation}
use Rattle.route_table.specs.Paths.{Form, Whole, Around}
use Rattle.ipam_data.specs.declared.kinds.Kind.{Kind}
use Rattle.ipam_data.specs.declared.kinds.Kind.TheVariants.{Vrfs, Rirs, Roles, Aggregates, Prefixes, Ranges, Addresses}
use Rattle.rest_routes.specs.declared.route.Route.{Route}
use Rattle.rest_routes.specs.declared.route.Route.TheVariants.{Many, Single, Within}
use Rattle.rest_routes.specs.declared.route.RowPart.{RowPart}
use Rattle.rest_routes.specs.declared.route.RowPart.TheVariants.{PrefixBlocks, PrefixAddresses, RangeAddresses, PrefixUtilization, RangeUtilization, AggregateUtilization}
use Rattle.rest_routes.specs.declared.table.Stem.{Stem}
use Rattle.rest_routes.specs.declared.table.Stem.TheVariants.{Rows, Row, PartOf}
use Rattle.rest_routes.specs.Routes.{rows_path, part_kind, part_end, IsId}

abbrev pub stem_of : Route → Stem
stem_of (Many kind) = Rows kind
stem_of (Single kind id) = Row kind
stem_of (Within part id) = PartOf part

-- the text of the route's id
abbrev pub id_text : Route → Option (List ℕ)
id_text (Many kind) = None
id_text (Single kind id) = Some (decimal id)
id_text (Within part id) = Some (decimal id)

-- the route that this makes of the id that the text is, if it is one
abbrev pub HasIdIn : (ℕ → Route) → List ℕ → Option Route → Type 0
HasIdIn route text None = (id : ℕ) → IsId id → text ≢ decimal id
HasIdIn route text (Some found) = (id : ℕ) × IsId id × (text ≡ decimal id) × (found ≡ route id)

-- the route of a stem, with the id that this text is
abbrev pub IsRouteAt : Stem → Option (List ℕ) → Option Route → Type 0
IsRouteAt (Rows kind) None result = result ≡ Some (Many kind)
IsRouteAt (Rows kind) (Some text) result = result ≡ None
IsRouteAt (Row kind) None result = result ≡ None
IsRouteAt (Row kind) (Some text) result = HasIdIn (Single kind) text result
IsRouteAt (PartOf part) None result = result ≡ None
IsRouteAt (PartOf part) (Some text) result = HasIdIn (Within part) text result

-- the form of the paths of a stem
abbrev pub form_of : Stem → Form
form_of (Rows kind) = Whole (rows_path kind)
form_of (Row kind) = Around (rows_path kind) (codes "/")
form_of (PartOf part) = Around (rows_path (part_kind part)) (part_end part)

-- the stems of all kinds, and of all parts of rows
abbrev pub all_kinds : List Kind
all_kinds = Vrfs ∷ Rirs ∷ Roles ∷ Aggregates ∷ Prefixes ∷ Ranges ∷ Addresses ∷ []

abbrev pub rows_stems : List Kind → List Stem
rows_stems [] = []
rows_stems (kind ∷ rest) = Rows kind ∷ Row kind ∷ rows_stems rest

abbrev pub all_parts : List RowPart
all_parts = PrefixBlocks ∷ PrefixAddresses ∷ RangeAddresses ∷ PrefixUtilization ∷ RangeUtilization ∷ AggregateUtilization ∷ []

abbrev pub stems : List Stem
stems = rows_stems all_kinds ++ map PartOf all_parts

-- the table has these stems, each under its form
abbrev pub item_of : Stem → Form × Stem
item_of stem = (form_of stem, stem)

pub record Lists (table : List (Form × Stem)) (list : List Stem) : Type 0 where
  pub items : IsPermutation (map item_of list) table
