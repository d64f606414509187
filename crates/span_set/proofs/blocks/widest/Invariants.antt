use Rattle.std.proofs.Common.{◌≡◌}
use Rattle.inet_num.specs.Net.{block_at}
use Rattle.span_set.specs.Blocks.{FitsAt}
use Rattle.span_set.proofs.blocks.widest.Given as goal

abbrev pub invariant-widen : goal.invariant-widen
invariant-widen l = record {
  at : l.block ≡ block_at l.addr l.block.len;
  fits : FitsAt l.addr l.last l.block.len;
}

abbrev pub decreases-widen : goal.decreases-widen
decreases-widen l = l.block.len
