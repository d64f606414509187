use Rattle.std.proofs.Common.{take}
use Rattle.block_list.proofs.Candidates.{IsCandidate}
use Rattle.block_list.proofs.fit.lowest_fit.Given as goal

abbrev pub invariant-walk : goal.invariant-walk
invariant-walk l = IsCandidate l.within l.blocks (take l.block-index l.blocks) l.strict l.len l.from l.place
