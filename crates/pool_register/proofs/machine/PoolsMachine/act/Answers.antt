use Rattle.std.proofs.Common.{ap}
use Rattle.std.proofs.Math.Logic.{⊎_map}
use Rattle.number_pools.specs.Machines.{kind_of}
use Rattle.pool_register.proofs.MachineFits.{answers, fault_told, tells_still}
use Rattle.pool_register.proofs.machine.PoolsMachine.act.Goals as goal

pub returns : goal.returns
returns g c = record {
  opening_stays = λ i. record { pools = c.act.ensures.opening i; tells = tells_still (g.K.PoolKeeper.told c.args.self.now.keeper) (g.K.PoolKeeper.told c.act.new.self.keeper) c.act.ensures.telling i };
  answer_is_right = answers c.args.self.now.state c.act.new.self.state c.args.call c.act.result c.act.ensures.step c.act.ensures.asked;
  log_grows = c.act.ensures.log;
  faults_never_fall = c.act.ensures.later;
  fault_is_counted = λ e. c.act.ensures.cause (fault_told c.act.result e);
  faults_stay = ⊎_map (ap kind_of) (λ same. same) c.act.ensures.still;
}
