use Rattle.std.proofs.Common.{◌≡◌, ◌∷◌, sym, ◌∙◌, ap}
use Rattle.inet_num.specs.Fault.{last_of, pieces_of}
use Rattle.inet_num.proofs.Colons.{last_later}
use Rattle.inet_num.proofs.fault.last_piece.Goals as goal

pub pieces-preserved : goal.pieces-preserved
pieces-preserved c =
    let next : pieces_of c.pieces.rest.now ≡ c.next_piece.result.0.now ∷ pieces_of c.in-Some.more.now = rw c.in-Some.is at c.next_piece.ensures.some in
    sym (ap last_of next ∙ last_later c.next_piece.result.0.now c.in-Some.more.now) ∙ c.pieces.invariant
