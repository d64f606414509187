use Rattle.std.proofs.Common.{◌≡◌, take}
use Rattle.std.specs.List.{sum_by}
use Rattle.span_set.specs.Runs.{shared}
use Rattle.span_set.proofs.runs.count_between.Given as goal

abbrev pub invariant-met : goal.invariant-met
invariant-met l = l.total ≡ sum_by (shared l.first l.last) (take l.run-index l.run-items)
