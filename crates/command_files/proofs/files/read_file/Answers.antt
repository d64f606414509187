use Rattle.command_streams.specs.Streams.{told}
use Rattle.command_files.proofs.FileRows.{rows_given, stopped}
use Rattle.command_files.proofs.files.read_file.Goals as goal

pub returns-in-Ok-read_rows-clause-rows : goal.returns-in-Ok-read_rows-clause-rows
returns-in-Ok-read_rows-clause-rows g c =
    rows_given c.args.kind c.in-Ok.bytes.items c.as_slice.result.now c.as_slice.ensures.value
    (told g.So.Source.left g.So.Source.faults c.args.input.now) (told g.So.Source.left g.So.Source.faults c.read_whole.new.input)
    c.in-Ok-read_rows.rows.items c.of.result c.in-Ok.ensures.whole c.in-Ok-read_rows.ensures.ok c.of.ensures

pub returns-clause-stop : goal.returns-clause-stop
returns-clause-stop g c =
    stopped c.args.kind c.in-Ok.bytes.items c.as_slice.result.now c.as_slice.ensures.value
    (told g.So.Source.left g.So.Source.faults c.args.input.now) (told g.So.Source.left g.So.Source.faults c.read_whole.new.input)
    c.in-Err.refusal c.stop_of.result c.in-Ok.ensures.whole c.in-Err.ensures.err c.stop_of.ensures
