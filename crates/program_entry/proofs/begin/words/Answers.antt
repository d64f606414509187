use Rattle.program_entry.proofs.Ending.{not_run}
use Rattle.program_entry.proofs.begin.words.Goals as goal

pub returns-in-Err-clause-ended : goal.returns-in-Err-clause-ended
returns-in-Err-clause-ended g c kept = not_run g.P.Program.runs _ kept _ (λ seen. g.met.P.Program.not_begun _ seen kept) c.from.ensures
