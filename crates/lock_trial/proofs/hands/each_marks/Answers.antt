use Rattle.std.proofs.Common.{sym, subst}
use Rattle.lock_trial.specs.Hands.{IsSeated}
use Rattle.lock_trial.proofs.hands.each_marks.Goals as goal

pub for_each_mut-requires-clause-accepts : goal.for_each_mut-requires-clause-accepts
for_each_mut-requires-clause-accepts g c κs within = λ i p lt is. subst (λ h. IsSeated c.args.lock.now h.seat) (sym is) (c.requires i p.now lt)
