use Rattle.std.proofs.Common.{◌+◌, ◌≤◌, length}
use Rattle.prefix_list.specs.Forms.{Matches}
use Rattle.prefix_list.proofs.Readings.{IsAt}
use Rattle.prefix_list.proofs.reading.read_lines.Given as goal

abbrev pub invariant-lines : goal.invariant-lines
invariant-lines l = record {
  at : IsAt (Matches l.form) l.bytes l.rest l.number l.blocks.items;
  enough : l.number + length l.rest ≤ length l.bytes;
}

abbrev pub decreases-lines : goal.decreases-lines
decreases-lines l = length l.rest
