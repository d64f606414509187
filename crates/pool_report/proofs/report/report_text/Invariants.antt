use Rattle.std.proofs.Common.{take}
use Rattle.pool_report.specs.Report.{AreLines}
use Rattle.pool_report.proofs.report.report_text.Given as goal

abbrev pub invariant-line : goal.invariant-line
invariant-line l = AreLines l.rows.pools (take l.range-index l.rows.pools.ranges.rows) l.text.items
