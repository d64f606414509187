use Rattle.std.proofs.Common.{sym, ap, arith}
use Rattle.placed_book.specs.RowBook.{Book}
use Rattle.placed_book.proofs.RowPlaces.{after_place, get_within, get_past}
use Rattle.placed_book.proofs.row_book.RowBookBook.after.Goals as goal

pub returns-then-at-len : goal.returns-then-at-len
returns-then-at-len g c =
    rw (← ap (λ (b : Book g.row.T.Denot). b.rows) c.self.view_is, after_place g.T.HasId.id_of c.args.id c.self.inside.items.items, ← c.as_slice.ensures.value, ← c.seek-at.ensures)
    (rw c.as_slice.ensures.value (sym (get_within g.T.HasId.id_of c.self.inside.items.items c.seek-at.result c.index.result.now (omega arith) c.index.ensures)))

pub returns : goal.returns
returns g c =
    rw (← ap (λ (b : Book g.row.T.Denot). b.rows) c.self.view_is, after_place g.T.HasId.id_of c.args.id c.self.inside.items.items, ← c.as_slice.ensures.value, ← c.seek-at.ensures)
    (rw c.as_slice.ensures.value (sym (get_past g.T.HasId.id_of c.self.inside.items.items c.seek-at.result (omega arith))))
