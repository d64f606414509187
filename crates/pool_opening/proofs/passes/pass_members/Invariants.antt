use Rattle.std.proofs.Common.{◌-◌, length}
use Rattle.pool_opening.proofs.Looking.{IsPassing}
use Rattle.pool_opening.proofs.passes.pass_members.Given as goal

abbrev pub invariant-row : goal.invariant-row
invariant-row l = IsPassing l.ranges l.members l.found l.top l.at l.taken.blocks l.taken.family l.taken.spare

abbrev pub decreases-row : goal.decreases-row
decreases-row l = length l.members - l.at
