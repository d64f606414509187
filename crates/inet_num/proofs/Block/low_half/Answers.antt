use Rattle.std.proofs.Common.{arith}
use Rattle.inet_num.proofs.Numbers.{low_half_lawful}
use Rattle.inet_num.proofs.Block.low_half.Goals as goal

pub invariant_of-result : goal.invariant_of-result
invariant_of-result c = low_half_lawful _ c.self.invariant (omega arith)
