use Rattle.std.proofs.Common.{◌+◌, ◌^◌, ◌<◌, sym, subst, arith, length}
use Rattle.placed_book.specs.Book.{TabledRows, IsInOrder}
use Rattle.placed_book.proofs.Moves.{few_of}
use Rattle.placed_book.proofs.PlacedBook.reserve_table.Goals as goal

pub reserve-requires : goal.reserve-requires
reserve-requires g c = λ family.
    let order = subst (λ (b : TabledRows g.row.T.Denot). IsInOrder g.T.Located.placed b) (sym c.self.view_is) c.requires.order in
    let bound = subst (λ (b : TabledRows g.row.T.Denot). length b.rows + c.args.n < 2 ^ 30) (sym c.self.view_is) c.requires.few in
    let few = few_of g.T.HasId.id_of g.T.Located.placed g.met.T.Located.same c.self.inside.rows.rows c.self.inside.tables c.args.table family order.tables in
    omega arith
