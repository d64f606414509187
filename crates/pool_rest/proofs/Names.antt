-- The names of ranges, members and parts: they differ, and have no slash.
use Rattle.std.proofs.Common.{◌≡◌, ℕ, List, codes, bytes_eq, Option, Some, None, cond, false, refl, sym, ap, ◌∙◌, ◌==◌}
use Rattle.std.specs.List.{list_any}
use Rattle.route_table.specs.Paths.{IsLiteral}
use Rattle.number_pools.specs.declared.rows.PoolKind.{PoolKind}
use Rattle.number_pools.specs.declared.rows.PoolKind.TheVariants.{Asn, Vlan}
use Rattle.pool_rest.specs.declared.route.Base.{Base}
use Rattle.pool_rest.specs.declared.route.Base.TheVariants.{Ranges, Members}
use Rattle.pool_rest.specs.declared.route.RangePart.{RangePart}
use Rattle.pool_rest.specs.declared.route.RangePart.TheVariants.{Free, Given}
use Rattle.pool_rest.specs.declared.table.Stem.{Stem}
use Rattle.pool_rest.specs.declared.table.Stem.TheVariants.{PartOf}
use Rattle.pool_rest.specs.Routes.{base_text, part_text}

base_named : List ℕ → Option Base
base_named text =
    cond (bytes_eq text (codes "asn-ranges")) (Some (Ranges Asn))
    (cond (bytes_eq text (codes "vlan-groups")) (Some (Ranges Vlan))
    (cond (bytes_eq text (codes "asns")) (Some (Members Asn))
    (cond (bytes_eq text (codes "vlans")) (Some (Members Vlan)) None)))

base_is : (base : Base) → base_named (base_text base) ≡ Some base
unfolding base_named
base_is (Ranges Asn) = refl
base_is (Ranges Vlan) = refl
base_is (Members Asn) = refl
base_is (Members Vlan) = refl

or_base : Option Base → Base → Base
or_base None k = k
or_base (Some k) j = k

pub one_base : (j k : Base) → base_text j ≡ base_text k → j ≡ k
unfolding or_base
one_base j k e = ap (λ (z : Option Base). or_base z j) (sym (base_is j) ∙ ap base_named e ∙ base_is k)

part_named : List ℕ → Option Stem
part_named text =
    cond (bytes_eq text (codes "available-asns")) (Some (PartOf Free Asn))
    (cond (bytes_eq text (codes "available-vlans")) (Some (PartOf Free Vlan))
    (cond (bytes_eq text (codes "asns")) (Some (PartOf Given Asn))
    (cond (bytes_eq text (codes "vlans")) (Some (PartOf Given Vlan)) None)))

part_is : (part : RangePart) (kind : PoolKind) → part_named (part_text part kind) ≡ Some (PartOf part kind)
unfolding part_named
part_is Free Asn = refl
part_is Free Vlan = refl
part_is Given Asn = refl
part_is Given Vlan = refl

or_stem : Option Stem → Stem → Stem
or_stem None p = p
or_stem (Some p) q = p

-- a part's name says its kind too
pub one_part : (p q : RangePart) (j k : PoolKind) → part_text p j ≡ part_text q k → PartOf p j ≡ PartOf q k
unfolding or_stem
one_part p q j k e = ap (λ (z : Option Stem). or_stem z (PartOf p j)) (sym (part_is p j) ∙ ap part_named e ∙ part_is q k)

pub base_no_slash : (base : Base) → list_any (λ x. x == 47) (base_text base) ≡ false
base_no_slash (Ranges Asn) = refl
base_no_slash (Ranges Vlan) = refl
base_no_slash (Members Asn) = refl
base_no_slash (Members Vlan) = refl

pub part_no_slash : (part : RangePart) (kind : PoolKind) → list_any (λ x. x == 47) (part_text part kind) ≡ false
part_no_slash Free Asn = refl
part_no_slash Free Vlan = refl
part_no_slash Given Asn = refl
part_no_slash Given Vlan = refl

pub base_literal : (base : Base) → IsLiteral (base_text base)
base_literal (Ranges Asn) = refl
base_literal (Ranges Vlan) = refl
base_literal (Members Asn) = refl
base_literal (Members Vlan) = refl

pub part_literal : (part : RangePart) (kind : PoolKind) → IsLiteral (part_text part kind)
part_literal Free Asn = refl
part_literal Free Vlan = refl
part_literal Given Asn = refl
part_literal Given Vlan = refl
