use Rattle.std.proofs.Common.{rules}
use Rattle.history_lock.proofs.Keeps.{draws}
use Rattle.history_lock.proofs.steps.draw.Goals as goal

pub fetch_add-requires : goal.fetch_add-requires
fetch_add-requires g c = (c.requires.table.0, search rules, draws _ _ _ _ _ c.requires.idle.0 c.requires.idle.1)
