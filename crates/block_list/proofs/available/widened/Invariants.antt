use Rattle.block_space.specs.Listed.{counting_of}
use Rattle.block_list.proofs.Widening.{IsWide}
use Rattle.block_list.proofs.available.widened.Given as goal

abbrev pub invariant-widen : goal.invariant-widen
invariant-widen l = IsWide l.within (counting_of l.blocks l.within l.strict) l.fn.block l.wide

abbrev pub decreases-widen : goal.decreases-widen
decreases-widen l = l.wide.len
