use Rattle.std.proofs.Common.{ap, refl, ◌∙◌}
use Rattle.number_pools.specs.Machines.{kind_of}
use Rattle.pool_register.proofs.Keeping.{after_lawful, asked_accepted, plan_same, reply_accepted, state_same, step_is, whole_grows}
use Rattle.pool_register.proofs.pools.Pools.perform.Goals as goal

pub commit-requires-clause-can : goal.commit-requires-clause-can
commit-requires-clause-can g c =
    (plan_same c.args.call c.args.update c.self.inside.books c.args.self.now.state (state_same _ _ c.self.view_is) c.requires).1

pub commit-requires-clause-lawful : goal.commit-requires-clause-lawful
commit-requires-clause-lawful g c =
    let here = plan_same c.args.call c.args.update c.self.inside.books c.args.self.now.state (state_same _ _ c.self.view_is) c.requires in
    after_lawful c.args.call c.args.update c.self.inside.books here (c.steps_keep_lawful.ensures c.self.inside.books c.args.call c.lawful.ensures)

pub invariant_of-self-in-Ok : goal.invariant_of-self-in-Ok
invariant_of-self-in-Ok g c =
    let here = plan_same c.args.call c.args.update c.self.inside.books c.args.self.now.state (state_same _ _ c.self.view_is) c.requires in
    whole_grows c.self.inside.opening.value c.self.inside.books c.commit.new.self c.self.inside.log.items c.push_reserved.new.self.items c.args.who c.args.call c.in-Ok.reply
    (g.K.PoolKeeper.told c.self.inside.keeper) (g.K.PoolKeeper.told c.commit.new.keeper) c.self.invariant
    (step_is c.args.call c.args.update c.self.inside.books c.commit.new.self c.in-Ok.reply here c.in-Ok.ensures.ok c.in-Ok.ensures.reply)
    (rw (c.push_reserved.ensures.items, c.in-Ok.ensures.entries) refl)
    (c.in-Ok.ensures.told c.self.invariant.tells)

pub returns-in-Err-clause-asked : goal.returns-in-Err-clause-asked
returns-in-Err-clause-asked g c = asked_accepted c.args.call c.args.update c.args.self.now.state c.requires

pub returns-in-Ok-clause-asked : goal.returns-in-Ok-clause-asked
returns-in-Ok-clause-asked g c = asked_accepted c.args.call c.args.update c.args.self.now.state c.requires

pub returns-in-Ok-clause-accepted : goal.returns-in-Ok-clause-accepted
returns-in-Ok-clause-accepted g c = ap kind_of c.in-Ok.ensures.reply ∙ reply_accepted c.args.update
