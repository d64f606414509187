use Rattle.std.proofs.Common.{◌≡◌, map, take}
use Rattle.register_claims.specs.declared.surveys.line.Placed.{Placed}
use Rattle.register_claims.proofs.surveys.lines_of.Given as goal

abbrev pub invariant-lines : goal.invariant-lines
invariant-lines l = l.lines.items ≡ map (λ (p : Placed). p.line) (take l.row-index l.placed)
