use Rattle.std.proofs.Common.{refl}
use Rattle.pool_command.proofs.PrintLaws.{prints_path}
use Rattle.pool_command.proofs.NotBegun.{no_print}
use Rattle.pool_command.proofs.print.print_words.Goals as goal

pub returns-in-Ok : goal.returns-in-Ok
returns-in-Ok g c = λ input. prints_path _ _ _ _ _ _ c.in-Ok.ensures (c.run_print.ensures input)

pub returns-in-Err : goal.returns-in-Err
returns-in-Err g c = λ input. no_print c.args.listing c.args.db.now _ _ _ refl refl
