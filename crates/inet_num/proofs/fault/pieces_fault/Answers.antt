use Rattle.std.proofs.Common.{◌≡◌, ◌∷◌, sym, ◌∙◌, ap}
use Rattle.inet_num.specs.Fault.{pieces_fault_of, pieces_of}
use Rattle.inet_num.proofs.Colons.{fault_later, fault_here}
use Rattle.inet_num.proofs.fault.pieces_fault.Goals as goal

pub pieces-preserved : goal.pieces-preserved
pieces-preserved c =
    let next : pieces_of c.pieces.rest.now ≡ c.next_piece.result.0.now ∷ pieces_of c.in-Some.more.now = rw c.in-Some.is at c.next_piece.ensures.some in
    sym (ap pieces_fault_of next ∙ fault_later c.next_piece.result.0.now c.in-Some.more.now (sym c.is_bad.ensures ∙ c.if-is_bad.false)) ∙ c.pieces.invariant

pub returns-then-is_bad : goal.returns-then-is_bad
returns-then-is_bad c =
    let next : pieces_of c.pieces.rest.now ≡ c.next_piece.result.0.now ∷ pieces_of c.in-Some.more.now = rw c.in-Some.is at c.next_piece.ensures.some in
    sym (ap pieces_fault_of next ∙ fault_here c.next_piece.result.0.now c.in-Some.more.now (sym c.is_bad.ensures ∙ c.if-is_bad.true)) ∙ c.pieces.invariant
