use Rattle.command_serve.proofs.Generic.{of_generic}
use Rattle.command_serve.proofs.serve.run_serve.Goals as goal

pub returns : goal.returns
returns g c = λ input. of_generic c.args.serving.now _ _ _ _ _ (c.serve_at.ensures input)
