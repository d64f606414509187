use Rattle.span_set.proofs.Rising.{touched_in_order}
use Rattle.span_set.proofs.runs.touched.Goals as goal

pub returns-clause-order : goal.returns-clause-order
returns-clause-order c =
    touched_in_order c.args.runs.now _ _ c.args.first c.args.last c.args.gap c.requires.order c.requires.apart c.ending_before-from.ensures.bound c.beginning_by-to.ensures.bound c.ending_before-from.ensures.below c.beginning_by-to.ensures.others
