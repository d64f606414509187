use Rattle.std.proofs.Common.{◌≡◌, ◌<◌, ◌≤◌, arith, rules, true, false}
use Rattle.std.proofs.lemmas.Bool.Decides.{nat_tests}
use Rattle.std.proofs.lemmas.List.Sorted.{IsPartitionPoint-from_clause}
use Rattle.block_list.proofs.Rising.{begins_by, begins_in_order, in_front, from_there}
use Rattle.block_list.proofs.search.beginning_by.Goals as goal

pub returns-clause-below : goal.returns-clause-below
returns-clause-below c =
    let point = IsPartitionPoint-from_clause (begins_by c.args.last) _ _ c.partition_point.ensures.partitioned (begins_in_order c.args.last c.args.blocks.now c.requires) (λ a r q k. search rules) in
    in_front (λ b. begins_by c.args.last b ≡ true) (λ b. b.first ≤ c.args.last) (λ b h. grind (arith, nat_tests)) c.args.blocks.now c.partition_point.result point.0

pub returns-clause-others : goal.returns-clause-others
returns-clause-others c =
    let point = IsPartitionPoint-from_clause (begins_by c.args.last) _ _ c.partition_point.ensures.partitioned (begins_in_order c.args.last c.args.blocks.now c.requires) (λ a r q k. search rules) in
    from_there (λ b. begins_by c.args.last b ≡ false) (λ b. c.args.last < b.first) (λ b h. grind (arith, nat_tests)) c.args.blocks.now c.partition_point.result point.1
