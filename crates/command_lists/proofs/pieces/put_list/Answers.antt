use Rattle.std.proofs.Common.{List, ℕ, subst, rules}
use Rattle.text_pieces.specs.Pieces.{Puts}
use Rattle.text_pieces.proofs.Passing.{puts_both, puts_front}
use Rattle.command_lists.proofs.pieces.put_list.Goals as goal

pub returns-in_err-put_begun-clause-told : goal.returns-in_err-put_begun-clause-told
returns-in_err-put_begun-clause-told g c = puts_front _ _ _ _ _ _ c.from_residual.result (search rules) c.in_err-put_begun.ensures.told

pub returns-clause-told : goal.returns-clause-told
returns-clause-told g c =
    puts_both _ _ _ _ _ _ _ _ c.put.result c.in_ok-put_begun.ensures.told
    (subst (λ (t : List ℕ). Puts (g.Si.Sink.written c.put_begun.new.output) (g.Si.Sink.written c.put.new.output) c.put_begun.new.piece.items c.put.new.piece.items t c.put.result) c.deref.ensures.value c.put.ensures.told)
