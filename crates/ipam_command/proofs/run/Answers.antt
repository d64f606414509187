use Rattle.ipam_command.proofs.HeadlineRuns.{headline_of_run}
use Rattle.ipam_command.proofs.run.Goals as goal

pub returns-clause-headline : goal.returns-clause-headline
returns-clause-headline g c = headline_of_run c.headlines_hold.ensures _ _ _ _ _ _ c.run_read.ensures
