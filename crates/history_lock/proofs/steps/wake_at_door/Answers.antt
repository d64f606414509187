use Rattle.std.proofs.Common.{rules, refl}
use Rattle.history_lock.specs.Machines.{meaning}
use Rattle.history_lock.proofs.Keeps.{rings}
use Rattle.history_lock.proofs.steps.wake_at_door.Goals as goal

pub swap-requires : goal.swap-requires
swap-requires g c =
    let W = meaning g.M.Machine.opening g.M.Machine.state g.M.Machine.log g.M.Machine.faults g.M.Machine.step in
    (search rules, search rules, rings W _ _ _ 15 _ _ _ refl)
