use Rattle.std.proofs.Common.{sym, subst}
use Rattle.lock_trial.specs.Notes.{IsHired}
use Rattle.lock_trial.proofs.workers.each_works.Goals as goal

pub for_each_mut-requires-clause-accepts : goal.for_each_mut-requires-clause-accepts
for_each_mut-requires-clause-accepts g c κs within = λ i p lt is. subst (IsHired c.args.lock.now) (sym is) (c.requires i p.now lt)
