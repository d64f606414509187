use Rattle.std.proofs.Common.{◌≡◌, ◌+◌, ◌*◌, take}
use Rattle.prefix_list.specs.Entries.{entries_from}
use Rattle.text_pieces.specs.Pieces.{Passes}
use Rattle.command_lists.proofs.pieces.put_entries.Given as goal

abbrev pub invariant-each : goal.invariant-each
invariant-each g l = record {
  number : l.number ≡ 5 + 5 * l.entry-index;
  passed : Passes (g.Si.Sink.written l.initial.output) (g.Si.Sink.written l.output) l.initial.piece.items l.piece.items (entries_from l.form l.opening 5 (take l.entry-index l.entries));
  same : g.Si.Sink.faults l.output ≡ g.Si.Sink.faults l.initial.output;
}
