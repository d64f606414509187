use Rattle.command_session.proofs.Generic.{of_generic}
use Rattle.command_session.proofs.session.run_session.Goals as goal

pub returns : goal.returns
returns g c = of_generic c.args.store.now _ _ _ c.session_at.ensures
