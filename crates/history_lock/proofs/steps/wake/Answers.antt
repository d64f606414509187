use Rattle.std.proofs.Common.{rules}
use Rattle.history_lock.specs.Machines.{meaning}
use Rattle.history_lock.proofs.Keeps.{rings}
use Rattle.history_lock.proofs.steps.wake.Goals as goal

pub swap-requires : goal.swap-requires
swap-requires g c =
    let W = meaning g.M.Machine.opening g.M.Machine.state g.M.Machine.log g.M.Machine.faults g.M.Machine.step in
    let b = c.bell_of-bell.ensures in (search rules, search rules, rings W _ _ _ b.0 _ _ _ b.1)
