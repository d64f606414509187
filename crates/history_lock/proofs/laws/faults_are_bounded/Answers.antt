use Rattle.history_lock.specs.Machines.{meaning}
use Rattle.history_lock.proofs.Bounded.{bounded}
use Rattle.history_lock.proofs.laws.faults_are_bounded.Goals as goal

pub returns : goal.returns
returns g c = bounded (meaning g.M.Machine.opening g.M.Machine.state g.M.Machine.log g.M.Machine.faults g.M.Machine.step)
