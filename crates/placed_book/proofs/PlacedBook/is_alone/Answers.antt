use Rattle.std.proofs.Common.{arith, ap, Option, option_map}
use Rattle.placed_book.specs.Rivals.{is_rival}
use Rattle.placed_book.proofs.Searches.{none_counted, counted_found}
use Rattle.placed_book.proofs.PlacedBook.is_alone.Goals as goal

pub returns-then-count_rivals-eq0 : goal.returns-then-count_rivals-eq0
returns-then-count_rivals-eq0 g c =
    let count = c.count_rivals.ensures in
    let none = c.if-count_rivals-eq0.true in
    ap (λ (o : Option g.row.T.Denot). option_map g.T.HasId.id_of o) (none_counted (is_rival g.T.HasId.id_of g.T.Located.placed c.args.row.now) c.args.self.now.rows (omega arith))

pub returns : goal.returns
returns g c =
    let count = c.count_rivals.ensures in
    let some = c.if-count_rivals-eq0.false in
    counted_found (is_rival g.T.HasId.id_of g.T.Located.placed c.args.row.now) g.T.HasId.id_of c.args.self.now.rows (omega arith)
