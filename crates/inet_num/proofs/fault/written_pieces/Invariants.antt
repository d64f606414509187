use Rattle.std.proofs.Common.{◌≡◌, ◌+◌, ◌≤◌, length}
use Rattle.std.specs.List.{count_by}
use Rattle.inet_num.specs.Fault.{is_written, pieces_of}
use Rattle.inet_num.proofs.fault.written_pieces.Given as goal

abbrev pub invariant-pieces : goal.invariant-pieces
invariant-pieces l = record {
  few : l.count + length l.rest ≤ length l.text;
  rest : l.count + count_by is_written (pieces_of l.rest) ≡ count_by is_written (pieces_of l.text);
}

abbrev pub decreases-pieces : goal.decreases-pieces
decreases-pieces l = length l.rest
