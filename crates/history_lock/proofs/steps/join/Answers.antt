use Rattle.std.proofs.Common.{rules, ap, ◌∙◌}
use Rattle.history_lock.proofs.Parts.{joins, learns}
use Rattle.history_lock.proofs.steps.join.Goals as goal

pub join_seat-requires : goal.join_seat-requires
join_seat-requires g c = (search rules, search rules, search rules, search rules, joins _ _ g.M.Machine.blank _ _ _ _ c.requires.idle.0 c.requires.idle_too.0 c.requires.idle.1 c.requires.idle_too.1)

pub load-requires : goal.load-requires
load-requires g c = (search rules, search rules, learns _ _ _ _ _ (ap (λ m. m.0.live) c.join_seat.ensures.2 ∙ c.requires.idle.0))
