use Rattle.std.proofs.Common.{rules}
use Rattle.command_serve.proofs.serve.serve_at.Goals as goal

pub returns : goal.returns
returns g c = λ input. let served = c.serve_of.ensures.serve input in search rules
