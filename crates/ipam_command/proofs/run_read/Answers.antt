use Rattle.std.proofs.Common.{refl}
use Rattle.ipam_command.proofs.Parts.{runs_asked, runs_none}
use Rattle.ipam_command.proofs.run_read.Goals as goal

pub returns-in-Ok-Some : goal.returns-in-Ok-Some
returns-in-Ok-Some g c = runs_asked _ _ c.in-Ok-Some.command _ _ _ _ _ c.in-Ok-Some.field-0-is c.in-Ok-Some.ensures c.run_command.ensures

pub returns-in-Ok-None : goal.returns-in-Ok-None
returns-in-Ok-None g c = runs_none _ _ _ _ _ _ _ c.in-Ok-None.field-0-is c.in-Ok-None.ensures (c.say_usage.ensures _ _, refl, refl)
