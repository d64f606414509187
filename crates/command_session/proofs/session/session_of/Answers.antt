use Rattle.command_session.proofs.session.session_of.Goals as goal

pub returns-clause-session : goal.returns-clause-session
returns-clause-session g c = c.run_session.ensures.session
