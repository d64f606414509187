use Rattle.std.proofs.Common.{◌≡◌, ℕ, ◌+◌, ◌%◌, ◌∷◌, ◌++◌, [], ap, sym, ◌∙◌, List}
use Rattle.history_lock.specs.Replay.{replay}
use Rattle.lock_trial.specs.declared.calls.Call.{Call}
use Rattle.lock_trial.specs.declared.calls.Call.TheVariants.{Add}
use Rattle.lock_trial.specs.Adds.{add_step}
use Rattle.lock_trial.proofs.Kept.{replay_push}
use Rattle.lock_trial.proofs.tally.TallyMachine.act.Goals as goal

pub invariant_of-self-2-clause-kept : goal.invariant_of-self-2-clause-kept
invariant_of-self-2-clause-kept c =
    let s : ℕ = c.args.self.now.value in
    let xs : List (ℕ × Call) = c.args.self.now.log.items in
    let more : ℕ = c.in-Add.more in
    let kept : s ≡ replay add_step 0 xs = c.args.self.now.kept in
    let items : c.push_reserved.new.self.items ≡ xs ++ (c.args.who, Add more) ∷ [] = c.push_reserved.ensures.items ∙ (λ i. c.reserve.ensures.items i ++ (c.args.who, Add more) ∷ []) in
    ap (λ (z : ℕ). (z + more) % 18446744073709551616) kept ∙ (sym (replay_push add_step 0 xs (c.args.who, Add more)) ∙ ap (replay add_step 0) (sym items))
