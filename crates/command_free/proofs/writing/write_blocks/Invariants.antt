use Rattle.std.proofs.Common.{[], ◌≡◌, take}
use Rattle.text_pieces.specs.Pieces.{Passes}
use Rattle.command_free.specs.Free.{lines_text_of}
use Rattle.command_free.proofs.writing.write_blocks.Given as goal

abbrev pub invariant-loop-block : goal.invariant-loop-block
invariant-loop-block g l = record {
  passed : Passes (g.Si.Sink.written l.initial.output) (g.Si.Sink.written l.output) [] l.piece.items (lines_text_of (take l.block-index l.blocks));
  same : g.Si.Sink.faults l.output ≡ g.Si.Sink.faults l.initial.output;
}
