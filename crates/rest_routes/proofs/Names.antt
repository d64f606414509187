-- The names of kinds and of parts of rows: they differ, and have no slash.
use Rattle.std.proofs.Common.{◌≡◌, ℕ, List, codes, bytes_eq, Option, Some, None, cond, false, refl, sym, ap, ◌∙◌, ◌==◌}
use Rattle.std.specs.List.{list_any}
use Rattle.route_table.specs.Paths.{IsLiteral}
use Rattle.ipam_data.specs.declared.kinds.Kind.{Kind}
use Rattle.ipam_data.specs.declared.kinds.Kind.TheVariants.{Vrfs, Rirs, Roles, Aggregates, Prefixes, Ranges, Addresses}
use Rattle.ipam_data.specs.Answers.{kind_text}
use Rattle.rest_routes.specs.declared.route.RowPart.{RowPart}
use Rattle.rest_routes.specs.declared.route.RowPart.TheVariants.{PrefixBlocks, PrefixAddresses, RangeAddresses, PrefixUtilization, RangeUtilization, AggregateUtilization}
use Rattle.rest_routes.specs.Routes.{part_kind, part_text}

kind_named : List ℕ → Option Kind
kind_named text =
    cond (bytes_eq text (codes "vrfs")) (Some Vrfs)
    (cond (bytes_eq text (codes "rirs")) (Some Rirs)
    (cond (bytes_eq text (codes "roles")) (Some Roles)
    (cond (bytes_eq text (codes "aggregates")) (Some Aggregates)
    (cond (bytes_eq text (codes "prefixes")) (Some Prefixes)
    (cond (bytes_eq text (codes "ip-ranges")) (Some Ranges)
    (cond (bytes_eq text (codes "ip-addresses")) (Some Addresses) None))))))

kind_is : (kind : Kind) → kind_named (kind_text kind) ≡ Some kind
unfolding kind_named
kind_is Vrfs = refl
kind_is Rirs = refl
kind_is Roles = refl
kind_is Aggregates = refl
kind_is Prefixes = refl
kind_is Ranges = refl
kind_is Addresses = refl

or_kind : Option Kind → Kind → Kind
or_kind None k = k
or_kind (Some k) j = k

pub one_kind : (j k : Kind) → kind_text j ≡ kind_text k → j ≡ k
unfolding or_kind
one_kind j k e = ap (λ (z : Option Kind). or_kind z j) (sym (kind_is j) ∙ ap kind_named e ∙ kind_is k)

prefix_part : List ℕ → Option RowPart
prefix_part text =
    cond (bytes_eq text (codes "available-prefixes")) (Some PrefixBlocks)
    (cond (bytes_eq text (codes "available-ips")) (Some PrefixAddresses)
    (cond (bytes_eq text (codes "utilization")) (Some PrefixUtilization) None))

range_part : List ℕ → Option RowPart
range_part text =
    cond (bytes_eq text (codes "available-ips")) (Some RangeAddresses)
    (cond (bytes_eq text (codes "utilization")) (Some RangeUtilization) None)

part_named : Kind → List ℕ → Option RowPart
part_named Vrfs text = None
part_named Rirs text = None
part_named Roles text = None
part_named Aggregates text = cond (bytes_eq text (codes "utilization")) (Some AggregateUtilization) None
part_named Prefixes text = prefix_part text
part_named Ranges text = range_part text
part_named Addresses text = None

part_is : (part : RowPart) → part_named (part_kind part) (part_text part) ≡ Some part
unfolding part_named prefix_part range_part
part_is PrefixBlocks = refl
part_is PrefixAddresses = refl
part_is RangeAddresses = refl
part_is PrefixUtilization = refl
part_is RangeUtilization = refl
part_is AggregateUtilization = refl

or_part : Option RowPart → RowPart → RowPart
or_part None p = p
or_part (Some p) q = p

pub one_part : (p q : RowPart) → part_kind p ≡ part_kind q → part_text p ≡ part_text q → p ≡ q
unfolding or_part
one_part p q k e =
    let same : Some p ≡ Some q =
    sym (part_is p) ∙ ap (λ (z : Kind). part_named z (part_text p)) k ∙ ap (part_named (part_kind q)) e ∙ part_is q in
    ap (λ (z : Option RowPart). or_part z p) same

pub kind_no_slash : (kind : Kind) → list_any (λ x. x == 47) (kind_text kind) ≡ false
kind_no_slash Vrfs = refl
kind_no_slash Rirs = refl
kind_no_slash Roles = refl
kind_no_slash Aggregates = refl
kind_no_slash Prefixes = refl
kind_no_slash Ranges = refl
kind_no_slash Addresses = refl

pub part_no_slash : (part : RowPart) → list_any (λ x. x == 47) (part_text part) ≡ false
part_no_slash PrefixBlocks = refl
part_no_slash PrefixAddresses = refl
part_no_slash RangeAddresses = refl
part_no_slash PrefixUtilization = refl
part_no_slash RangeUtilization = refl
part_no_slash AggregateUtilization = refl

pub kind_literal : (kind : Kind) → IsLiteral (kind_text kind)
kind_literal Vrfs = refl
kind_literal Rirs = refl
kind_literal Roles = refl
kind_literal Aggregates = refl
kind_literal Prefixes = refl
kind_literal Ranges = refl
kind_literal Addresses = refl

pub part_literal : (part : RowPart) → IsLiteral (part_text part)
part_literal PrefixBlocks = refl
part_literal PrefixAddresses = refl
part_literal RangeAddresses = refl
part_literal PrefixUtilization = refl
part_literal RangeUtilization = refl
part_literal AggregateUtilization = refl
