use Rattle.std.proofs.Common.{List, ℕ, subst}
use Rattle.ipam_edge.specs.Writing.{WritesAll}
use Rattle.text_pieces.proofs.Passing.{whole_behind}
use Rattle.command_lists.proofs.pieces.write_list.Goals as goal

pub returns-clause-told : goal.returns-clause-told
returns-clause-told g c =
    whole_behind _ _ _ _ _ _ c.write_all.result c.new-piece.ensures c.in_ok-put_list.ensures.told
    (subst (λ (p : List ℕ). WritesAll (g.Si.Sink.written c.put_list.new.output) (g.Si.Sink.written c.write_all.new.sink) c.write_all.result p) c.as_slice.ensures.value c.write_all.ensures.told)
