use Rattle.std.proofs.Common.{◌-◌, take, drop, arith, ◌∙◌}
use Rattle.std.proofs.lemmas.List.Sums.{sum_by_more}
use Rattle.span_set.specs.Runs.{shared}
use Rattle.span_set.proofs.Counted.{met_at, sum_fits, sum_whole}
use Rattle.span_set.proofs.runs.count_between.Goals as goal

pub overflow_sub-total : goal.overflow_sub-total
overflow_sub-total c =
    let t = c.touched-from.ensures in
    let at = met_at c.args.first c.args.last c.args.runs.now c.touched-from.result.0 c.touched-from.result.1 c.met.run-index (record { first = 0; last = 0 }) t.order t.bound c.requires.apart t.reached t.begun c.met-test.true in
    let o = c.requires.order in
    omega (arith, at.0, at.1, at.2, c.min.ensures, c.max.ensures)

pub overflow_add-total-in-met : goal.overflow_add-total-in-met
overflow_add-total-in-met c =
    let t = c.touched-from.ensures in
    let at = met_at c.args.first c.args.last c.args.runs.now c.touched-from.result.0 c.touched-from.result.1 c.met.run-index (record { first = 0; last = 0 }) t.order t.bound c.requires.apart t.reached t.begun c.met-test.true in
    let fits = sum_fits c.args.first c.args.last c.args.runs.now c.touched-from.result.0 c.touched-from.result.1 c.met.run-index (record { first = 0; last = 0 }) c.requires.apart c.met-test.true in
    let so_far = c.met.invariant in
    let o = c.requires.order in
    let few = c.requires.few in
    omega (arith, at.0, at.1, at.2, c.min.ensures, c.max.ensures, fits, so_far)

pub met-preserved : goal.met-preserved
met-preserved c =
    let t = c.touched-from.ensures in
    let at = met_at c.args.first c.args.last c.args.runs.now c.touched-from.result.0 c.touched-from.result.1 c.met.run-index (record { first = 0; last = 0 }) t.order t.bound c.requires.apart t.reached t.begun c.met-test.true in
    let so_far = c.met.invariant in
    let o = c.requires.order in
    omega (arith, at.0, at.1, at.2, c.min.ensures, c.max.ensures, so_far, sum_by_more (shared c.args.first c.args.last) (take (c.touched-from.result.1 - c.touched-from.result.0) (drop c.touched-from.result.0 c.args.runs.now)) c.met.run-index (record { first = 0; last = 0 }) c.met-test.true)

pub returns : goal.returns
returns c =
    let t = c.touched-from.ensures in
    c.met.invariant ∙ sum_whole c.args.first c.args.last c.args.runs.now c.touched-from.result.0 c.touched-from.result.1 c.met.run-index t.order t.before t.behind c.met-test.false
