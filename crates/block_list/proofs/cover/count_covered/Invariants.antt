use Rattle.std.proofs.Common.{take}
use Rattle.block_list.proofs.Covering.{IsCovered}
use Rattle.block_list.proofs.cover.count_covered.Given as goal

abbrev pub invariant-walk : goal.invariant-walk
invariant-walk l = IsCovered l.within l.strict (take l.block-index l.blocks) l.end l.total
