use Rattle.std.proofs.Common.{arith}
use Rattle.inet_num.specs.Net.{width_of}
use Rattle.inet_num.proofs.Cuts.{too_long, width_narrow}
use Rattle.inet_num.proofs.text.read_length.Goals as goal

pub returns-in_default-clause-none : goal.returns-in_default-clause-none
returns-in_default-clause-none c = λ n le. c.in_default.ensures.none n (let narrow = width_narrow c.args.family in omega arith)

pub returns-then-len-width-clause-none : goal.returns-then-len-width-clause-none
returns-then-len-width-clause-none c = too_long (width_of c.args.family) c.args.text.now c.in-Some.len (width_narrow c.args.family) c.in-Some.ensures.some (omega arith) (omega arith)
