use Rattle.register_core.proofs.Planning.{state_same, read_steps}
use Rattle.register_core.proofs.register.Register.follow.Goals as goal

pub returns-in-Read-clause-ok : goal.returns-in-Read-clause-ok
returns-in-Read-clause-ok g c =
    read_steps c.self.inside.books c.args.self.now.state c.args.call c.args.planned c.in-Read.reply c.answered.result (state_same _ _ c.self.view_is) c.in-Read.is c.requires c.answered.ensures
