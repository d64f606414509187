use Rattle.std.proofs.Common.{rules, ℕ, ap, sym, ◌∙◌, List}
use Rattle.history_lock.specs.Replay.{replay}
use Rattle.lock_trial.specs.Marks.{mark_step}
use Rattle.lock_trial.proofs.Kept.{replay_push}
use Rattle.lock_trial.proofs.marker.MarkerMachine.act.Goals as goal

pub invariant_of-self-2 : goal.invariant_of-self-2
invariant_of-self-2 g c = let xs : List (ℕ × ℕ) = c.reserve.new.self.items in record {
  replayed = sym (replay_push mark_step 0 xs (c.args.who, c.args.mark)) ∙ ap (replay mark_step 0) (sym c.push_reserved.ensures.items);
  few = search rules;
}
