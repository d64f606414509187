-- How the routes are in a table of forms of paths: a stem is a route without its id.
use Rattle.std.specs.Prelude.{◌≡◌, ◌≢◌, ℕ, List, [], ◌∷◌, ◌++◌, codes, decimal, map, Option, Some, None, IsPermutation}
use Rattle.route_table.specs.Paths.{Form, Whole, Around}
use Rattle.number_pools.specs.declared.rows.PoolKind.{PoolKind}
use Rattle.number_pools.specs.declared.rows.PoolKind.TheVariants.{Asn, Vlan}
use Rattle.pool_rest.specs.declared.route.Route.{Route}
use Rattle.pool_rest.specs.declared.route.Route.TheVariants.{Many, Single, Within}
use Rattle.pool_rest.specs.declared.route.Base.TheVariants.{Ranges, Members}
use Rattle.pool_rest.specs.declared.route.RangePart.TheVariants.{Free, Given}
use Rattle.pool_rest.specs.declared.table.Stem.{Stem}
use Rattle.pool_rest.specs.declared.table.Stem.TheVariants.{Rows, Row, PartOf}
use Rattle.pool_rest.specs.Routes.{base_path, part_end, IsId}

abbrev pub stem_of : Route → Stem
stem_of (Many base) = Rows base
stem_of (Single base id) = Row base
stem_of (Within part kind id) = PartOf part kind

-- the text of the route's id
abbrev pub id_text : Route → Option (List ℕ)
id_text (Many base) = None
id_text (Single base id) = Some (decimal id)
id_text (Within part kind id) = Some (decimal id)

-- the route that this makes of the id that the text is, if it is one
abbrev pub HasIdIn : (ℕ → Route) → List ℕ → Option Route → Type 0
HasIdIn route text None = (id : ℕ) → IsId id → text ≢ decimal id
HasIdIn route text (Some found) = (id : ℕ) × IsId id × (text ≡ decimal id) × (found ≡ route id)

-- the route of a stem, with the id that this text is
abbrev pub IsRouteAt : Stem → Option (List ℕ) → Option Route → Type 0
IsRouteAt (Rows base) None result = result ≡ Some (Many base)
IsRouteAt (Rows base) (Some text) result = result ≡ None
IsRouteAt (Row base) None result = result ≡ None
IsRouteAt (Row base) (Some text) result = HasIdIn (Single base) text result
IsRouteAt (PartOf part kind) None result = result ≡ None
IsRouteAt (PartOf part kind) (Some text) result = HasIdIn (Within part kind) text result

-- the form of the paths of a stem
abbrev pub form_of : Stem → Form
form_of (Rows base) = Whole (base_path base)
form_of (Row base) = Around (base_path base) (codes "/")
form_of (PartOf part kind) = Around (base_path (Ranges kind)) (part_end part kind)

-- the stems of a kind
abbrev pub stems_of : PoolKind → List Stem
stems_of kind = Rows (Ranges kind) ∷ Rows (Members kind) ∷ Row (Ranges kind) ∷ Row (Members kind) ∷ PartOf Free kind ∷ PartOf Given kind ∷ []

abbrev pub stems : List Stem
stems = stems_of Asn ++ stems_of Vlan

-- the table has these stems, each under its form
abbrev pub item_of : Stem → Form × Stem
item_of stem = (form_of stem, stem)

pub record Lists (table : List (Form × Stem)) (list : List Stem) : Type 0 where
  pub items : IsPermutation (map item_of list) table
