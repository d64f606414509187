use Rattle.block_list.proofs.Around.{IsCountedTo}
use Rattle.block_list.proofs.search.count_around.Given as goal

abbrev pub invariant-widen : goal.invariant-widen
invariant-widen l = IsCountedTo l.blocks l.fn.block l.wide l.count

abbrev pub decreases-widen : goal.decreases-widen
decreases-widen l = l.wide.len
