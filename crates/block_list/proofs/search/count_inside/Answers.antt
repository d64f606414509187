use Rattle.std.proofs.Common.{sym, subst, arith}
use Rattle.block_list.specs.Listing.{Rises}
use Rattle.block_list.proofs.Rising.{rises_drop}
use Rattle.block_list.proofs.Inner.{count_read}
use Rattle.block_list.proofs.search.count_inside.Goals as goal

pub beginning_by-inside-requires : goal.beginning_by-inside-requires
beginning_by-inside-requires c = subst (Rises 0) (sym c.split_at.ensures.back) (rises_drop c.args.blocks.now c.beginning_in-from.result.1 c.requires.rises)

pub overflow_add-result : goal.overflow_add-result
overflow_add-result c =
    let read = count_read c.args.within.now c.args.strict c.args.blocks.now c.split_at.result.1.now c.beginning_in-from.result.0 c.beginning_in-from.result.1 c.beginning_by-inside.result c.ends_of-first.result.0 c.ends_of-first.result.1
    c.bounds.ensures c.ends_of-first.ensures.first c.ends_of-first.ensures.last c.requires.lawful c.beginning_in-from.ensures.order c.beginning_in-from.ensures.bound c.split_at.ensures.back c.beginning_in-from.ensures.before
    c.beginning_in-from.ensures.behind c.beginning_by-inside.ensures.bound c.beginning_by-inside.ensures.below c.beginning_by-inside.ensures.others in
    let sum = read.0 in
    let few = read.1 in
    let is = c.count_counting.ensures in
    omega arith

pub returns-clause-counting : goal.returns-clause-counting
returns-clause-counting c =
    let read = count_read c.args.within.now c.args.strict c.args.blocks.now c.split_at.result.1.now c.beginning_in-from.result.0 c.beginning_in-from.result.1 c.beginning_by-inside.result c.ends_of-first.result.0 c.ends_of-first.result.1
    c.bounds.ensures c.ends_of-first.ensures.first c.ends_of-first.ensures.last c.requires.lawful c.beginning_in-from.ensures.order c.beginning_in-from.ensures.bound c.split_at.ensures.back c.beginning_in-from.ensures.before
    c.beginning_in-from.ensures.behind c.beginning_by-inside.ensures.bound c.beginning_by-inside.ensures.below c.beginning_by-inside.ensures.others in
    let sum = read.0 in
    let few = read.1 in
    let is = c.count_counting.ensures in
    omega arith

pub returns-clause-bound : goal.returns-clause-bound
returns-clause-bound c =
    let read = count_read c.args.within.now c.args.strict c.args.blocks.now c.split_at.result.1.now c.beginning_in-from.result.0 c.beginning_in-from.result.1 c.beginning_by-inside.result c.ends_of-first.result.0 c.ends_of-first.result.1
    c.bounds.ensures c.ends_of-first.ensures.first c.ends_of-first.ensures.last c.requires.lawful c.beginning_in-from.ensures.order c.beginning_in-from.ensures.bound c.split_at.ensures.back c.beginning_in-from.ensures.before
    c.beginning_in-from.ensures.behind c.beginning_by-inside.ensures.bound c.beginning_by-inside.ensures.below c.beginning_by-inside.ensures.others in
    let sum = read.0 in
    let few = read.1 in
    let is = c.count_counting.ensures in
    omega arith
