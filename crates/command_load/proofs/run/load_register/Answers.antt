use Rattle.std.proofs.Common.{ap}
use Rattle.std.specs.Prelude.{length}
use Rattle.command_load.proofs.AllClaims.{figures_told}
use Rattle.command_load.proofs.run.load_register.Goals as goal

pub returns-in_ok-came-in-Ok : goal.returns-in_ok-came-in-Ok
returns-in_ok-came-in-Ok g c =
    figures_told c.args.count c.load_shared-register.result.1 c.in_ok-came-in-Ok.field-0 _ _ c.figures_of.result c.load_shared-register.ensures c.in_ok-came-in-Ok.was (ap length c.log.ensures.entries) c.figures_of.ensures
