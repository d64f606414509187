use Rattle.std.proofs.Common.{◌++◌, ap, ◌∙◌, drop}
use lib.ListN.{take-append-drop}
use Rattle.lock_trial.specs.Notes.{calls_of}
use Rattle.lock_trial.proofs.workers.talk.Goals as goal

pub returns-then-is_err-clause-noted : goal.returns-then-is_err-clause-noted
returns-then-is_err-clause-noted g c =
    let rest = drop c.loop-call.call-index c.args.calls.now in
    (rest, ap (λ xs. calls_of xs ++ rest) c.reserve.ensures.items ∙ (ap (λ l. l ++ rest) c.loop-call.invariant.2 ∙ take-append-drop c.loop-call.call-index c.args.calls.now))
