use Rattle.std.proofs.Common.{List, ℕ, ap, subst}
use Rattle.text_pieces.specs.Pieces.{Puts}
use Rattle.text_pieces.proofs.Passing.{passes_kept}
use Rattle.text_pieces.proofs.put.Goals as goal

pub returns-in-Ok-clause-told : goal.returns-in-Ok-clause-told
returns-in-Ok-clause-told g c = passes_kept _ _ _ _ c.in-Ok.ensures.ok

pub returns-in-Err-clause-told : goal.returns-in-Err-clause-told
returns-in-Err-clause-told g c =
    subst (λ (p : List ℕ). Puts (g.Si.Sink.written c.args.output.now) (g.Si.Sink.written c.put_behind.new.output) p c.put_behind.new.piece.items c.args.text.now c.put_behind.result)
    (ap (λ v. v.items) c.in-Err.ensures.err) c.put_behind.ensures.told
