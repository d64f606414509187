use Rattle.std.proofs.Common.{◌≡◌, ◌+◌, ◌<◌, ◌≤◌, arith, rules, true, false}
use Rattle.std.proofs.lemmas.Bool.Decides.{nat_tests}
use Rattle.std.proofs.lemmas.List.Sorted.{IsPartitionPoint-from_clause}
use Rattle.span_set.proofs.Rising.{ends_before, ends_in_order, in_front, from_there}
use Rattle.span_set.proofs.runs.ending_before.Goals as goal

pub returns-clause-below : goal.returns-clause-below
returns-clause-below c =
    let before = c.saturating_sub-before.result in
    let point = IsPartitionPoint-from_clause (ends_before before) _ _ c.partition_point.ensures.partitioned (ends_in_order before c.args.runs.now c.requires) (λ a r q k. search rules) in
    in_front (λ run. ends_before before run ≡ true) (λ run. run.last + c.args.gap < c.args.first)
    (λ run h. let less : run.last < before = grind (arith, nat_tests) in omega arith) c.args.runs.now c.partition_point.result point.0

pub returns-clause-others : goal.returns-clause-others
returns-clause-others c =
    let before = c.saturating_sub-before.result in
    let point = IsPartitionPoint-from_clause (ends_before before) _ _ c.partition_point.ensures.partitioned (ends_in_order before c.args.runs.now c.requires) (λ a r q k. search rules) in
    from_there (λ run. ends_before before run ≡ false) (λ run. c.args.first ≤ run.last + c.args.gap)
    (λ run h. let ge : before ≤ run.last = grind (arith, nat_tests) in omega arith) c.args.runs.now c.partition_point.result point.1
