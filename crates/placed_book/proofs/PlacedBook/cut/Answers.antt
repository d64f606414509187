use Rattle.std.proofs.Common.{sym, subst}
use Rattle.placed_book.specs.Book.{TabledRows, IsInOrder}
use Rattle.placed_book.proofs.PlacedBook.cut.Goals as goal

pub forget-requires : goal.forget-requires
forget-requires g c =
    let order = subst (λ (b : TabledRows g.row.T.Denot). IsInOrder g.T.Located.placed b) (sym c.self.view_is) c.requires in
    record { tables = order.tables; all = order.all; firsts = c.self.invariant.3 }
