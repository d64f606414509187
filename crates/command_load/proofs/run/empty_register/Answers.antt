use Rattle.std.proofs.Common.{ap}
use Rattle.ipam_keeper.specs.Memory.{Held}
use Rattle.command_load.proofs.Begun.{empty_told}
use Rattle.command_load.proofs.run.empty_register.Goals as goal

pub begin-requires : goal.begin-requires
begin-requires c = empty_told c.new-keeper.result c.in-Ok.tables (ap (λ (k : Held). k.tables) c.new-keeper.ensures) c.in-Ok.ensures.tables
