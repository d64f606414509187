use Rattle.std.proofs.Common.{[], ◌∷◌}
use Rattle.history_lock.proofs.steps.finish.Given as goal

abbrev pub ghosts-publish : goal.ghosts-publish
ghosts-publish g a = record { done = (g.M.Machine.kind a.reply.now, g.M.Machine.said a.call.now.value) ∷ [] }
