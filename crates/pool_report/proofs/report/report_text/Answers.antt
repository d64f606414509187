use Rattle.std.proofs.Common.{◌++◌, ◌∙◌, ℕ, List, ap}
use Rattle.pool_report.proofs.Lines.{in_order, line_more}
use Rattle.pool_report.proofs.report.report_text.Goals as goal

pub line_of-requires : goal.line_of-requires
line_of-requires c = record { order = in_order _ _ c.line.range-index c.range-item.result c.ranges-range-items.ensures c.line-test.true c.range-item.is c.requires.bounds }

pub line-preserved : goal.line-preserved
line-preserved c =
    line_more c.args.rows.now.pools _ _ c.line.range-index c.range-item.result c.line.text.items _ _ c.ranges-range-items.ensures c.line-test.true c.range-item.is c.line.invariant
    c.in_ok-own.ensures (c.in_ok-extend_from_slice.ensures.items ∙ ap (λ (t : List ℕ). c.line.text.items ++ t) c.deref.ensures.value)
