use Rattle.std.proofs.Common.{ap}
use Rattle.std.proofs.Math.Logic.{⊎_map}
use Rattle.register_core.specs.Machines.{kind_of}
use Rattle.register_core.proofs.MachineFits.{answers, grows, fault_told, tells_still}
use Rattle.register_core.proofs.machine.RegisterMachine.act.Goals as goal

pub returns : goal.returns
returns g c = record {
  opening_stays = λ i. record { state = c.act.ensures.opening i; tells = tells_still (g.K.Keeper.told c.args.self.now.keeper) (g.K.Keeper.told c.act.new.self.keeper) c.act.ensures.telling i };
  answer_is_right = answers c.args.self.now.state c.act.new.self.state c.args.call c.act.result c.act.ensures.step c.act.ensures.asked;
  log_grows = grows c.args.self.now.log c.act.new.self.log c.args.who c.args.call c.act.result c.act.ensures.log;
  faults_never_fall = c.act.ensures.later;
  fault_is_counted = λ e. (c.act.ensures.cause (fault_told c.act.result e)).1;
  faults_stay = ⊎_map (ap kind_of) (λ same. same) c.act.ensures.still;
}
