use Rattle.std.proofs.Common.{refl}
use Rattle.pool_command.proofs.NotBegun.{no_session}
use Rattle.pool_command.proofs.session.run_session.Goals as goal

pub returns-in-Err : goal.returns-in-Err
returns-in-Err g c = no_session c.args.db.now _ _ _ refl refl
