use Rattle.std.proofs.Common.{refl, ◌∙◌, arith}
use Rattle.command_files.proofs.Exports.{not_want}
use Rattle.command_files.proofs.Imports.{of_done, of_stop, quiet_stop}
use Rattle.command_files.proofs.import.run_rows.Goals as goal

pub returns-in-Ok : goal.returns-in-Ok
returns-in-Ok g c = λ before after given still.
    of_done c.args.kind c.args.store.now _ _ _ (λ five. absurd (not_want _ _ _ _ c.end_with.ensures.ends five)) c.args.rows c.in-Ok.counts c.as_slice.result.now given
    c.in-Ok.ensures.ok (c.as_slice.ensures.value ∙ c.counts_text.ensures) c.end_with.ensures.ends refl
    (record { streams = record { input = omega (arith, still); output = c.end_with.ensures.later; errors = omega arith }; stores = c.import_into.ensures.later })

pub returns-in-Err : goal.returns-in-Err
returns-in-Err g c = λ before after given still.
    of_stop c.args.kind c.args.store.now _ _ _ (λ five. quiet_stop _ _ c.in-Err.stop c.say_stop.result c.in-Err.ensures.still c.say_stop.ensures.said still refl five) c.args.rows c.in-Err.stop given
    c.in-Err.ensures.err c.say_stop.ensures.said refl
    (record { streams = record { input = omega (arith, still); output = omega arith; errors = c.say_stop.ensures.later }; stores = c.import_into.ensures.later })
