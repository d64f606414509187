use Rattle.pool_register.proofs.numbers.free_of.Goals as goal

pub returns : goal.returns
returns c = c.free_numbers.ensures.free c.args.rows.now.pools c.requires.lawful c.taken.ensures.keys
