use Rattle.std.proofs.Common.{◌≡◌, ◌∙◌, ◌+◌, ℕ, ap, arith, subst, drop, get_or, take, Bool, Option, None, []}
use Rattle.number_pools.specs.declared.rows.NumberRange.{NumberRange}
use Rattle.number_pools.specs.Rows.{range_id}
use Rattle.pool_opening.specs.Faults.{breaks_range, greater, least_broken, lesser_if}
use Rattle.pool_opening.proofs.Looking.{broken_more, top_next}
use Rattle.pool_opening.proofs.passes.bad_range.Goals as goal

pub row-preserved : goal.row-preserved
row-preserved c =
    let rows = c.args.ranges.now in
    let k = c.row.at in
    let x = c.index-ranges-at.result in
    let least : c.lesser_if-found.result ≡ lesser_if (breaks_range (take k rows) (get_or rows k x)) (range_id (get_or rows k x)) c.row.found =
    subst (λ (y : NumberRange). c.lesser_if-found.result ≡ lesser_if (breaks_range (take k rows) y) y.id c.row.found) c.index-ranges-at.is
    (c.lesser_if-found.ensures ∙ ap (λ (t : Bool). lesser_if t x.id c.row.found) c.breaks_range.ensures) in (
      ap (λ (o : Option ℕ). least_broken range_id breaks_range (take (k + 1) rows) o (drop (k + 1) rows)) least
          ∙ broken_more range_id breaks_range rows k x c.row.found (least_broken range_id breaks_range [] None rows) c.row-test.true c.row.invariant.0,
      top_next range_id rows k x c.row.top c.greater-top.result c.row-test.true c.row.invariant.1 (c.greater-top.ensures ∙ ap (λ (y : NumberRange). greater c.row.top y.id) c.index-ranges-at.is),
      omega arith,
    )
