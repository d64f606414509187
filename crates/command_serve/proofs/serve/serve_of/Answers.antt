use Rattle.command_serve.proofs.Generic.{serves_place}
use Rattle.command_serve.proofs.serve.serve_of.Goals as goal

pub returns-clause-serve : goal.returns-clause-serve
returns-clause-serve g c = λ input. serves_place _ c.args.serving.now _ _ _ _ _ _ c.as_str.ensures (c.serve_by.ensures.serve input)
