-- Which stems are listed.
use Rattle.std.proofs.Common.{◌≡◌, ℕ, zero, suc, ◌<◌, List, [], ◌∷◌, length, map, get_or, ap, arith, refl}
use Rattle.std.specs.List.{Contains}
use Rattle.std.proofs.lemmas.List.Elements.{Contains-append_left, Contains-append_right}
use Rattle.ipam_data.specs.declared.kinds.Kind.{Kind}
use Rattle.ipam_data.specs.declared.kinds.Kind.TheVariants.{Vrfs, Rirs, Roles, Aggregates, Prefixes, Ranges, Addresses}
use Rattle.rest_routes.specs.declared.route.Route.{Route}
use Rattle.rest_routes.specs.declared.route.Route.TheVariants.{Many, Single, Within}
use Rattle.rest_routes.specs.declared.route.RowPart.{RowPart}
use Rattle.rest_routes.specs.declared.route.RowPart.TheVariants.{PrefixBlocks, PrefixAddresses, RangeAddresses, PrefixUtilization, RangeUtilization, AggregateUtilization}
use Rattle.rest_routes.specs.declared.table.Stem.{Stem}
use Rattle.rest_routes.specs.declared.table.Stem.TheVariants.{Rows, Row, PartOf}
use Rattle.rest_routes.specs.Routes.{part_kind}
use Rattle.rest_routes.specs.Stems.{stem_of, all_kinds, all_parts, rows_stems, stems}

abbrev pub kind_of : Stem → Kind
kind_of (Rows kind) = kind
kind_of (Row kind) = kind
kind_of (PartOf part) = part_kind part

later : {X : Type 0} (a b : X) (xs : List X) (x : X) → Contains xs x → Contains (a ∷ b ∷ xs) x
later a b xs x c = (suc (suc c.0), omega (arith, c.1), c.2)

rows_in : (ks : List Kind) (kind : Kind) (n : ℕ) → n < length ks → get_or ks n kind ≡ kind → Contains (rows_stems ks) (Rows kind) × Contains (rows_stems ks) (Row kind)
rows_in [] kind n l e = absurd (omega arith)
rows_in (k ∷ ks) kind zero l e = ((0, omega arith, ap Rows e), (1, omega arith, ap Row e))
rows_in (k ∷ ks) kind (suc n) l e =
    let ih = rows_in ks kind n (omega arith) e in
    (later (Rows k) (Row k) (rows_stems ks) (Rows kind) ih.0, later (Rows k) (Row k) (rows_stems ks) (Row kind) ih.1)

-- each kind is in the list
every : (kind : Kind) → Contains all_kinds kind
every Vrfs = (0, omega arith, refl)
every Rirs = (1, omega arith, refl)
every Roles = (2, omega arith, refl)
every Aggregates = (3, omega arith, refl)
every Prefixes = (4, omega arith, refl)
every Ranges = (5, omega arith, refl)
every Addresses = (6, omega arith, refl)

part_in : (ps : List RowPart) (part : RowPart) (n : ℕ) → n < length ps → get_or ps n part ≡ part → Contains (map PartOf ps) (PartOf part)
part_in [] part n l e = absurd (omega arith)
part_in (p ∷ ps) part zero l e = (0, omega arith, ap PartOf e)
part_in (p ∷ ps) part (suc n) l e =
    let ih = part_in ps part n (omega arith) e in
    (suc ih.0, omega (arith, ih.1), ih.2)

-- and each part
every_part : (part : RowPart) → Contains all_parts part
every_part PrefixBlocks = (0, omega arith, refl)
every_part PrefixAddresses = (1, omega arith, refl)
every_part RangeAddresses = (2, omega arith, refl)
every_part PrefixUtilization = (3, omega arith, refl)
every_part RangeUtilization = (4, omega arith, refl)
every_part AggregateUtilization = (5, omega arith, refl)

of_rows : (stem : Stem) → Contains (rows_stems all_kinds) stem → Contains stems stem
of_rows stem c = Contains-append_left (rows_stems all_kinds) (map PartOf all_parts) stem c

-- the stem of each route is listed
pub listed : (route : Route) → Contains stems (stem_of route)
listed (Many kind) = let c = every kind in of_rows (Rows kind) (rows_in all_kinds kind c.0 c.1 c.2).0
listed (Single kind id) = let c = every kind in of_rows (Row kind) (rows_in all_kinds kind c.0 c.1 c.2).1
listed (Within part id) =
    let c = every_part part in
    Contains-append_right (rows_stems all_kinds) (map PartOf all_parts) (PartOf part) (part_in all_parts part c.0 c.1 c.2)
