use Rattle.std.proofs.Common.{[], ◌≡◌, take}
use Rattle.text_pieces.specs.Pieces.{Passes}
use Rattle.command_zones.specs.Zone.{lines_at}
use Rattle.command_zones.proofs.printing.write_lines.Given as goal

abbrev pub invariant-loop-place : goal.invariant-loop-place
invariant-loop-place g l = record {
  passed : Passes (g.Si.Sink.written l.initial.output) (g.Si.Sink.written l.output) [] l.piece.items (lines_at l.addresses.rows (take l.place-index l.places));
  same : g.Si.Sink.faults l.output ≡ g.Si.Sink.faults l.initial.output;
}
