use Rattle.std.proofs.Common.{refl, arith}
use Rattle.command_migrate.proofs.Runs.{of_stop, quiet_stop}
use Rattle.command_migrate.proofs.migrate.run_migrate.Goals as goal

pub returns-in-Err : goal.returns-in-Err
returns-in-Err g c = λ input.
    of_stop c.args.db.now c.args.populated _ _ _ refl
    (record { streams = record { input = omega arith; output = omega arith; errors = c.say_stop.ensures.later }; stores = c.migrate_file.ensures.later })
    (λ five. quiet_stop _ _ c.in-Err.stop c.say_stop.result c.in-Err.ensures.still c.say_stop.ensures.said refl refl five)
    c.in-Err.stop c.in-Err.ensures.stop c.say_stop.ensures.said (record { input = refl; output = refl; stored = c.in-Err.ensures.same })
