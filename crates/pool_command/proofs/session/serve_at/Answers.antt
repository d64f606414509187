use Rattle.std.proofs.Common.{rules}
use Rattle.pool_command.proofs.session.serve_at.Goals as goal

pub returns : goal.returns
returns g c = λ input. let served = c.serve_of.ensures.serve input in search rules
