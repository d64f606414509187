use Rattle.pool_command.proofs.Parts.{serves_place}
use Rattle.pool_command.proofs.session.serve_of.Goals as goal

pub returns-clause-serve : goal.returns-clause-serve
returns-clause-serve g c = λ input. serves_place _ _ _ _ _ _ _ _ _ _ c.as_str.ensures (c.run_serve.ensures.serve input)
