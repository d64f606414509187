-- Routes: which targets name something, and by which methods. A route is given by its whole path, compared byte by byte with the
-- path of the target (RFC 3986 3.3): nothing is decoded, and a missing slash or a leading zero makes another path.
use Rattle.std.specs.Prelude.{◌≡◌, ℕ, ◌^◌, ◌<◌, ◌≤◌, List, ◌++◌, codes, decimal, bytes_eq, Option, Some, None, if◌then◌else◌}
use Rattle.number_pools.specs.declared.rows.PoolKind.{PoolKind}
use Rattle.number_pools.specs.declared.rows.PoolKind.TheVariants.{Asn, Vlan}
use Rattle.pool_json.specs.Pages.{members_text}
use Rattle.pool_rest.specs.declared.route.Route.{Route}
use Rattle.pool_rest.specs.declared.route.Route.TheVariants.{Many, Single, Within}
use Rattle.pool_rest.specs.declared.route.Base.{Base}
use Rattle.pool_rest.specs.declared.route.Base.TheVariants.{Ranges, Members}
use Rattle.pool_rest.specs.declared.route.RangePart.{RangePart}
use Rattle.pool_rest.specs.declared.route.RangePart.TheVariants.{Free, Given}
use Rattle.pool_rest.specs.declared.route.Method.{Method}
use Rattle.pool_rest.specs.declared.route.Method.TheVariants.{Get, Post, Patch, Delete}

-- ranges of numbers of autonomous systems, groups of VLANs, and the members of both, by their names in a path
abbrev pub base_text : Base → List ℕ
base_text (Ranges Asn) = codes "asn-ranges"
base_text (Ranges Vlan) = codes "vlan-groups"
base_text (Members kind) = members_text kind

abbrev pub base_path : Base → List ℕ
base_path base = codes "/api/ipam/" ++ (base_text base ++ codes "/")

-- the free numbers of a range and its members, by their names in a path
abbrev pub part_text : RangePart → PoolKind → List ℕ
part_text Free Asn = codes "available-asns"
part_text Free Vlan = codes "available-vlans"
part_text Given kind = members_text kind

-- what follows the id in the path of a part
abbrev pub part_end : RangePart → PoolKind → List ℕ
part_end part kind = codes "/" ++ (part_text part kind ++ codes "/")

-- the path of a route
abbrev pub path_of : Route → List ℕ
path_of (Many base) = base_path base
path_of (Single base id) = base_path base ++ (decimal id ++ codes "/")
path_of (Within part kind id) = base_path (Ranges kind) ++ (decimal id ++ part_end part kind)

-- an id is a number from 1 to 4294967295
abbrev pub IsId : ℕ → Type 0
IsId id = (1 ≤ id) × (id < 2 ^ 32)

abbrev pub IsRoute : Route → Type 0
IsRoute (Many base) = Unit {0}
IsRoute (Single base id) = IsId id
IsRoute (Within part kind id) = IsId id

-- the target is the path of this route
pub record IsPathOf (target : List ℕ) (route : Route) : Type 0 where
  pub served : IsRoute route
  pub path : target ≡ path_of route

-- the target is the path of the route, if any
abbrev pub HasRoute : List ℕ → Option Route → Type 0
HasRoute target (Some route) = IsPathOf target route
HasRoute target None = (route : Route) → ¬ IsPathOf target route

-- a method by its name, in upper case (RFC 9110 9.1)
abbrev pub method_named : List ℕ → Option Method
method_named name =
    if bytes_eq name (codes "GET") then Some Get
    else (if bytes_eq name (codes "POST") then Some Post
    else (if bytes_eq name (codes "PATCH") then Some Patch
    else (if bytes_eq name (codes "DELETE") then Some Delete else None)))

-- the methods of a route, as they are printed: ranges are listed and made, and members are listed; a range and a member are read, edited and cut;
-- what is free of a range is listed and claimed, and what is given out of it is listed and recorded
abbrev pub base_methods : Base → List ℕ
base_methods (Ranges kind) = codes "GET, POST"
base_methods (Members kind) = codes "GET"

abbrev pub part_methods : RangePart → List ℕ
part_methods Free = codes "GET, POST"
part_methods Given = codes "GET, POST"

abbrev pub methods_text : Route → List ℕ
methods_text (Many base) = base_methods base
methods_text (Single base id) = codes "GET, PATCH, DELETE"
methods_text (Within part kind id) = part_methods part
