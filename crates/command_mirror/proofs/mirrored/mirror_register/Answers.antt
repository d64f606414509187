use Rattle.std.proofs.Common.{refl}
use Rattle.command_mirror.proofs.mirrored.mirror_register.Goals as goal

pub returns-in-Err-clause-ran : goal.returns-in-Err-clause-ran
returns-in-Err-clause-ran g c = (record { same = refl; unread = refl; unwritten = refl }, refl)
