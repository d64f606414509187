use Rattle.pool_command.proofs.Headlines.{headline_of_run}
use Rattle.pool_command.proofs.run.run_pools.Goals as goal

pub returns-clause-headline : goal.returns-clause-headline
returns-clause-headline g c = headline_of_run
    (record { never = c.numbers_never_meet.ensures; new = c.claims_are_new.ensures; chosen = c.records_are_chosen.ensures; edited = c.edits_are_as_asked.ensures; steps = c.steps_keep_lawful.ensures }) _ _ _ _ _ _ c.run_read.ensures
