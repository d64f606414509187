use Rattle.std.proofs.Common.{sym, ap}
use Rattle.placed_book.specs.RowBook.{Book}
use Rattle.placed_book.proofs.RowPlaces.{look_at}
use Rattle.placed_book.proofs.row_book.RowBookBook.get.Goals as goal

pub returns-in-Some : goal.returns-in-Some
returns-in-Some g c =
    rw (← ap (λ (b : Book g.row.T.Denot). b.rows) c.self.view_is)
    (sym (look_at g.T.HasId.id_of c.self.inside.items.items c.args.id c.in-Some.at c.index.result.now c.self.invariant.0 (rw c.as_slice.ensures.value at c.in-Some.ensures.at) c.index.ensures))
