use Rattle.std.proofs.Common.{ℕ, ◌+◌, ◌-◌, ◌∙◌, max, sym, ap, arith, take}
use Rattle.inet_num.specs.Net.{Address}
use Rattle.inet_num.proofs.Numbers.{size_fits}
use Rattle.block_list.proofs.Covering.{covered_none, counted_ends, walk_same, walk_more, covered_named}
use Rattle.block_list.proofs.cover.count_covered.Goals as goal
use Rattle.block_list.proofs.cover.count_covered.Goals.{then-counts_for, else-counts_for}

pub walk-init : goal.walk-init
walk-init c = covered_none c.args.within.now c.args.strict

pub overflow_add-last : goal.overflow_add-last
overflow_add-last c =
    let ends = counted_ends c.args.within.now c.args.strict c.block-item.result (sym c.counts_for.ensures ∙ c.if-counts_for.true) in
    let base_is = c.value-base.ensures.value ∙ ap (λ (a : Address). a.value) c.first.ensures in
    let last_is = c.ends_of-first.ensures.last in
    let low = ends.0 in
    let high = ends.1 in
    let small = size_fits c.args.within.now.family c.args.within.now.len c.requires.long in
    omega arith

pub walk-preserved : goal.walk-preserved
walk-preserved c =
    let base_is = c.value-base.ensures.value ∙ ap (λ (a : Address). a.value) c.first.ensures in
    elim c.if-counts_for.branch [
      | then-counts_for w ↦
          covered_named c.args.within.now c.args.strict (take (c.walk.block-index + 1) c.args.blocks.now) _ _ _ _ (w.end-is ∙ w.max-behind.ensures)
          (w.total-is ∙ ap (λ (n : ℕ). c.walk.total + (n - w.max.result)) w.max-behind.ensures ∙ ap (λ (n : ℕ). c.walk.total + (max c.walk.end (w.ends_of-first.result.1 - c.value-base.result + 1) - n)) w.max.ensures)
          (walk_more c.args.within.now c.args.blocks.now c.args.strict c.counts_for.result c.block-item.result c.walk.block-index c.walk.end c.walk.total w.ends_of-first.result.0 w.ends_of-first.result.1 c.value-base.result c.requires.rises
          c.walk.invariant c.walk-test.true c.block-item.is c.counts_for.ensures w.if-counts_for.true w.ends_of-first.ensures.first w.ends_of-first.ensures.last base_is)
      | else-counts_for w ↦
          covered_named c.args.within.now c.args.strict (take (c.walk.block-index + 1) c.args.blocks.now) _ _ _ _ w.end-is w.total-is
          (walk_same c.args.within.now c.args.blocks.now c.args.strict c.counts_for.result c.block-item.result c.walk.block-index c.walk.end c.walk.total c.walk.invariant c.walk-test.true c.block-item.is c.counts_for.ensures w.if-counts_for.false)
    ]
