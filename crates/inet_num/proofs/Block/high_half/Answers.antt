use Rattle.std.proofs.Common.{◌+◌, arith}
use Rattle.inet_num.specs.Net.{width_of}
use Rattle.inet_num.proofs.Numbers.{block_fits, width_fits, size_fits, high_half_lawful, pow_double}
use Rattle.inet_num.proofs.Block.high_half.Goals as goal

pub overflow_add-half : goal.overflow_add-half
overflow_add-half c = omega (arith, size_fits c.self.inside.family (c.self.inside.len + 1) (omega arith))

pub overflow_add-result : goal.overflow_add-result
overflow_add-result c = omega (arith, block_fits _ c.self.invariant, width_fits c.self.inside.family, pow_double (width_of c.self.inside.family) c.self.inside.len (omega arith))

pub invariant_of-result : goal.invariant_of-result
invariant_of-result c = rw c.low_ones-half.ensures (high_half_lawful _ c.self.invariant (omega arith))
