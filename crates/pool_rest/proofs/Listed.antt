-- Which stems are listed.
use Rattle.std.proofs.Common.{arith, refl}
use Rattle.std.specs.List.{Contains}
use Rattle.number_pools.specs.declared.rows.PoolKind.TheVariants.{Asn, Vlan}
use Rattle.pool_rest.specs.declared.route.Route.{Route}
use Rattle.pool_rest.specs.declared.route.Route.TheVariants.{Many, Single, Within}
use Rattle.pool_rest.specs.declared.route.Base.{Base}
use Rattle.pool_rest.specs.declared.route.Base.TheVariants.{Ranges, Members}
use Rattle.pool_rest.specs.declared.route.RangePart.TheVariants.{Free, Given}
use Rattle.pool_rest.specs.declared.table.Stem.{Stem}
use Rattle.pool_rest.specs.declared.table.Stem.TheVariants.{Rows, Row, PartOf}
use Rattle.pool_rest.specs.Stems.{stem_of, stems}

-- what an id is the id of in the paths of a stem
abbrev pub base_of : Stem → Base
base_of (Rows base) = base
base_of (Row base) = base
base_of (PartOf part kind) = Ranges kind

-- the stem of each route is listed
pub listed : (route : Route) → Contains stems (stem_of route)
listed (Many (Ranges Asn)) = (0, omega arith, refl)
listed (Many (Members Asn)) = (1, omega arith, refl)
listed (Single (Ranges Asn) id) = (2, omega arith, refl)
listed (Single (Members Asn) id) = (3, omega arith, refl)
listed (Within Free Asn id) = (4, omega arith, refl)
listed (Within Given Asn id) = (5, omega arith, refl)
listed (Many (Ranges Vlan)) = (6, omega arith, refl)
listed (Many (Members Vlan)) = (7, omega arith, refl)
listed (Single (Ranges Vlan) id) = (8, omega arith, refl)
listed (Single (Members Vlan) id) = (9, omega arith, refl)
listed (Within Free Vlan id) = (10, omega arith, refl)
listed (Within Given Vlan id) = (11, omega arith, refl)
