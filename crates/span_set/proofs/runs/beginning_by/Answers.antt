use Rattle.std.proofs.Common.{◌≡◌, ◌+◌, ◌-◌, ◌<◌, ◌≤◌, arith, rules, true, false}
use Rattle.std.proofs.lemmas.Bool.Decides.{nat_tests}
use Rattle.std.proofs.lemmas.List.Sorted.{IsPartitionPoint-from_clause}
use Rattle.span_set.proofs.Rising.{begins_by, begins_in_order, in_front, from_there}
use Rattle.span_set.proofs.runs.beginning_by.Goals as goal

pub returns-clause-below : goal.returns-clause-below
returns-clause-below c =
    let point = IsPartitionPoint-from_clause (begins_by c.args.gap c.args.last) _ _ c.partition_point.ensures.partitioned (begins_in_order c.args.gap c.args.last c.args.runs.now c.requires) (λ a r q k. search rules) in
    in_front (λ run. begins_by c.args.gap c.args.last run ≡ true) (λ run. run.first ≤ c.args.last + c.args.gap)
    (λ run h. let less : run.first - c.args.gap ≤ c.args.last = grind (arith, nat_tests) in omega arith) c.args.runs.now c.partition_point.result point.0

pub returns-clause-others : goal.returns-clause-others
returns-clause-others c =
    let point = IsPartitionPoint-from_clause (begins_by c.args.gap c.args.last) _ _ c.partition_point.ensures.partitioned (begins_in_order c.args.gap c.args.last c.args.runs.now c.requires) (λ a r q k. search rules) in
    from_there (λ run. begins_by c.args.gap c.args.last run ≡ false) (λ run. c.args.last + c.args.gap < run.first)
    (λ run h. let ge : c.args.last < run.first - c.args.gap = grind (arith, nat_tests) in omega arith) c.args.runs.now c.partition_point.result point.1
