use Rattle.std.proofs.Common.{◌≤◌, ℕ, subst, sym, ◌∙◌}
use Rattle.command_load.proofs.Shares.{share_last, share_low}
use Rattle.command_load.proofs.workers.share_of.Goals as goal

pub returns-clause-low : goal.returns-clause-low
returns-clause-low c = subst (λ (n : ℕ). n ≤ c.args.left) (sym c.div_ceil.ensures) (share_low c.args.left c.args.workers c.requires)

pub returns-clause-last : goal.returns-clause-last
returns-clause-last c = λ one. c.div_ceil.ensures ∙ share_last c.args.left c.args.workers one
