-- Routes: which targets name something, and by which methods. A route is given by its whole path, compared byte by byte with the
-- path of the target (RFC 3986 3.3): nothing is decoded, and a missing slash or a leading zero makes another path.
use Rattle.std.specs.Prelude.{◌≡◌, ℕ, ◌^◌, ◌<◌, ◌≤◌, List, ◌++◌, codes, decimal, bytes_eq, Option, Some, None, if◌then◌else◌}
use Rattle.ipam_data.specs.declared.kinds.Kind.{Kind}
use Rattle.ipam_data.specs.declared.kinds.Kind.TheVariants.{Aggregates, Prefixes, Ranges}
use Rattle.ipam_data.specs.Answers.{kind_text}
use Rattle.rest_routes.specs.declared.route.Route.{Route}
use Rattle.rest_routes.specs.declared.route.Route.TheVariants.{Many, Single, Within}
use Rattle.rest_routes.specs.declared.route.RowPart.{RowPart}
use Rattle.rest_routes.specs.declared.route.RowPart.TheVariants.{PrefixBlocks, PrefixAddresses, RangeAddresses, PrefixUtilization, RangeUtilization, AggregateUtilization}
use Rattle.rest_routes.specs.declared.route.Method.{Method}
use Rattle.rest_routes.specs.declared.route.Method.TheVariants.{Get, Post, Patch, Delete}

-- the path of the rows of a kind
abbrev pub rows_path : Kind → List ℕ
rows_path kind = codes "/api/ipam/" ++ (kind_text kind ++ codes "/")

-- a part of a row: the kind of the row, and the part's name in a path
abbrev pub part_kind : RowPart → Kind
part_kind PrefixBlocks = Prefixes
part_kind PrefixAddresses = Prefixes
part_kind RangeAddresses = Ranges
part_kind PrefixUtilization = Prefixes
part_kind RangeUtilization = Ranges
part_kind AggregateUtilization = Aggregates

abbrev pub part_text : RowPart → List ℕ
part_text PrefixBlocks = codes "available-prefixes"
part_text PrefixAddresses = codes "available-ips"
part_text RangeAddresses = codes "available-ips"
part_text PrefixUtilization = codes "utilization"
part_text RangeUtilization = codes "utilization"
part_text AggregateUtilization = codes "utilization"

-- what follows the id in the path of a part
abbrev pub part_end : RowPart → List ℕ
part_end part = codes "/" ++ (part_text part ++ codes "/")

-- the path of a route
abbrev pub path_of : Route → List ℕ
path_of (Many kind) = rows_path kind
path_of (Single kind id) = rows_path kind ++ (decimal id ++ codes "/")
path_of (Within part id) = rows_path (part_kind part) ++ (decimal id ++ part_end part)

-- an id is a number from 1 to 4294967295
abbrev pub IsId : ℕ → Type 0
IsId id = (1 ≤ id) × (id < 2 ^ 32)

-- each kind has its rows, each id of a kind its row, and each of these parts its path
abbrev pub IsRoute : Route → Type 0
IsRoute (Many kind) = Unit {0}
IsRoute (Single kind id) = IsId id
IsRoute (Within part id) = IsId id

-- the target is the path of this route
pub record IsPathOf (target : List ℕ) (route : Route) : Type 0 where
  pub served : IsRoute route
  pub path : target ≡ path_of route

-- the target is the path of the route, if any
abbrev pub HasRoute : List ℕ → Option Route → Type 0
HasRoute target (Some route) = IsPathOf target route
HasRoute target None = (route : Route) → ¬ IsPathOf target route

-- a method by its name, in upper case (RFC 9110 9.1)
abbrev pub method_named : List ℕ → Option Method
method_named name =
    if bytes_eq name (codes "GET") then Some Get
    else (if bytes_eq name (codes "POST") then Some Post
    else (if bytes_eq name (codes "PATCH") then Some Patch
    else (if bytes_eq name (codes "DELETE") then Some Delete else None)))

-- the methods of a part of a row, as they are printed: what is available is listed and claimed, a figure is read
abbrev pub part_methods : RowPart → List ℕ
part_methods PrefixBlocks = codes "GET, POST"
part_methods PrefixAddresses = codes "GET, POST"
part_methods RangeAddresses = codes "GET, POST"
part_methods PrefixUtilization = codes "GET"
part_methods RangeUtilization = codes "GET"
part_methods AggregateUtilization = codes "GET"

-- those of a route
abbrev pub methods_text : Route → List ℕ
methods_text (Many kind) = codes "GET, POST"
methods_text (Single kind id) = codes "GET, PATCH, DELETE"
methods_text (Within part id) = part_methods part
