use Rattle.std.proofs.Common.{sym, subst}
use Rattle.lock_trial.specs.Notes.{IsAt}
use Rattle.lock_trial.proofs.Notes.{asked}
use Rattle.lock_trial.proofs.workers.ask.Goals as goal

pub returns-clause-seat : goal.returns-clause-seat
returns-clause-seat g c = subst (λ l. IsAt c.args.lock.now c.args.seat.number l c.call-seat.result.0) (sym c.push_reserved.ensures.items) (asked _ _ _ _ _ _ _ _ c.requires.seat c.call-seat.ensures)
