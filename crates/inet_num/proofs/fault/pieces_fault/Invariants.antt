use Rattle.std.proofs.Common.{◌≡◌, length}
use Rattle.inet_num.specs.Fault.{pieces_fault_of, pieces_of}
use Rattle.inet_num.proofs.fault.pieces_fault.Given as goal

abbrev pub invariant-pieces : goal.invariant-pieces
invariant-pieces l = pieces_fault_of (pieces_of l.rest) ≡ pieces_fault_of (pieces_of l.text)

abbrev pub decreases-pieces : goal.decreases-pieces
decreases-pieces l = length l.rest
