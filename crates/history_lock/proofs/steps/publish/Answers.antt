use Rattle.std.proofs.Common.{rules}
use Rattle.history_lock.specs.Machines.{meaning}
use Rattle.history_lock.proofs.Keeps.{publishes}
use Rattle.history_lock.proofs.steps.publish.Goals as goal

pub fetch_add-requires : goal.fetch_add-requires
fetch_add-requires g c =
    let W = meaning g.M.Machine.opening g.M.Machine.state g.M.Machine.log g.M.Machine.faults g.M.Machine.step in
    (search rules, search rules, publishes W _ _ (g.M.Machine.kind c.args.reply.now) (g.M.Machine.said c.args.call.now.value) _ _ _ c.requires.turn.0 _ c.requires.done c.requires.turn.1 c.requires.rose.0 c.requires.rose.1)

pub returns-clause-view : goal.returns-clause-view
returns-clause-view g c = c.fetch_add.ensures.2 _ _ c.requires.done
