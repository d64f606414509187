use Rattle.pool_register.proofs.numbers.numbers_of.Goals as goal

pub returns-clause-ok : goal.returns-clause-ok
returns-clause-ok c = c.plan_claim.ensures.ok c.args.rows.now.pools c.requires.lawful c.taken.ensures.keys

pub returns-clause-err : goal.returns-clause-err
returns-clause-err c = c.plan_claim.ensures.err c.args.rows.now.pools c.requires.lawful c.taken.ensures.keys
