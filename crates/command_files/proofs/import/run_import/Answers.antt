use Rattle.std.proofs.Common.{refl, arith}
use Rattle.command_streams.specs.Streams.{told}
use Rattle.ipam_edge.proofs.FaultLemmas.{unless}
use Rattle.command_files.proofs.Imports.{of_file_stop, quiet_file_stop}
use Rattle.command_files.proofs.import.run_import.Goals as goal

pub returns-in-Ok : goal.returns-in-Ok
returns-in-Ok g c =
    c.run_rows.ensures (told g.So.Source.left g.So.Source.faults c.args.input.now) (told g.So.Source.left g.So.Source.faults c.read_file.new.input) c.in-Ok.ensures.rows
    (unless (λ k. cc k) c.in-Ok.ensures.kept)

pub returns-in-Err : goal.returns-in-Err
returns-in-Err g c =
    of_file_stop c.args.kind c.args.store.now _ _ _ (λ five. quiet_file_stop _ _ c.in-Err.stop c.say_file_stop.result c.in-Err.ensures.kept c.say_file_stop.ensures.said refl refl five)
    c.in-Err.stop c.in-Err.ensures.stop c.say_file_stop.ensures.said refl refl
    (record { streams = record { input = c.read_file.ensures.later; output = omega arith; errors = c.say_file_stop.ensures.later }; stores = omega arith })
