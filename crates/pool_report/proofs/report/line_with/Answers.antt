use Rattle.std.proofs.Common.{arith}
use Rattle.span_set.proofs.Counted.{sum_within}
use Rattle.pool_report.proofs.report.line_with.Goals as goal

pub overflow_sub-taken-2 : goal.overflow_sub-taken-2
overflow_sub-taken-2 c =
    omega (arith, c.count_between-free.ensures, sum_within c.from-first.result c.from-last.result 0 c.args.runs.now c.requires.apart)
