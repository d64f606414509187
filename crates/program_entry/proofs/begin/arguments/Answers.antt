use Rattle.program_entry.proofs.Ending.{ended_without}
use Rattle.program_entry.proofs.begin.arguments.Goals as goal

pub returns-in-Err-clause-ended : goal.returns-in-Err-clause-ended
returns-in-Err-clause-ended g c kept =
    ended_without _ g.P.Program.runs g.P.Program.says_usage c.in-Err.why c.args.given kept _ (λ words seen. g.met.P.Program.not_begun words seen kept) c.in-Err.ensures c.end_without.ensures
