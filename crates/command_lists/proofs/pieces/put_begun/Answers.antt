use Rattle.std.proofs.Common.{List, ℕ, ◌++◌, subst, rules}
use Rattle.ipam_edge.specs.Writing.{AppendsFront}
use Rattle.prefix_list.specs.declared.routes.Entry.{Entry}
use Rattle.prefix_list.specs.Entries.{entries_from}
use Rattle.text_pieces.specs.Pieces.{Passes, Puts}
use Rattle.text_pieces.proofs.Passing.{puts_both, puts_front}
use Rattle.command_lists.proofs.pieces.put_begun.Goals as goal

pub returns-in_err-put-clause-told : goal.returns-in_err-put-clause-told
returns-in_err-put-clause-told g c =
    puts_front _ _ _ _ _ _ c.from_residual.result (search rules)
    (subst (λ (t : List ℕ). AppendsFront (g.Si.Sink.written c.args.output.now) (g.Si.Sink.written c.put.new.output) (c.args.piece.now.items ++ t)) c.deref.ensures.value c.in_err-put.ensures.told)

pub returns-clause-told : goal.returns-clause-told
returns-clause-told g c =
    puts_both _ _ _ _ _ _ _ _ c.put_entries.result
    (subst (λ (t : List ℕ). Passes (g.Si.Sink.written c.args.output.now) (g.Si.Sink.written c.put.new.output) c.args.piece.now.items c.put.new.piece.items t) c.deref.ensures.value c.in_ok-put.ensures.told)
    (subst (λ (o : List ℕ). Puts (g.Si.Sink.written c.put.new.output) (g.Si.Sink.written c.put_entries.new.output) c.put.new.piece.items c.put_entries.new.piece.items
    (entries_from c.args.form o 5 c.args.list.now.entries.items) c.put_entries.result) c.deref-2.ensures.value
    (subst (λ (es : List Entry). Puts (g.Si.Sink.written c.put.new.output) (g.Si.Sink.written c.put_entries.new.output) c.put.new.piece.items c.put_entries.new.piece.items
    (entries_from c.args.form c.deref-2.result.now 5 es) c.put_entries.result) c.deref-3.ensures.value c.put_entries.ensures.told))
