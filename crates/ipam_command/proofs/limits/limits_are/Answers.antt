use Rattle.ipam_command.proofs.LimitLaws.{limits_hold}
use Rattle.ipam_command.proofs.limits.limits_are.Goals as goal

pub returns : goal.returns
returns c = limits_hold
