use Rattle.std.proofs.Common.{◌≡◌, length}
use Rattle.inet_num.specs.Fault.{last_of, pieces_of}
use Rattle.inet_num.proofs.fault.last_piece.Given as goal

abbrev pub invariant-pieces : goal.invariant-pieces
invariant-pieces l = last_of (pieces_of l.rest) ≡ last_of (pieces_of l.text)

abbrev pub decreases-pieces : goal.decreases-pieces
decreases-pieces l = length l.rest
