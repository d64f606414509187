use Rattle.std.proofs.Common.{ap, arith}
use Rattle.placed_book.specs.RowBook.{Book}
use Rattle.placed_book.proofs.Index.{length_rows, rises_rows}
use Rattle.placed_book.proofs.indexed.IndexedBookBook.len.Goals as goal

pub returns-clause-len : goal.returns-clause-len
returns-clause-len g c =
    let same = length_rows g.T.HasId.id_of c.self.inside.slots.items c.self.inside.index.items c.self.invariant.1 in
    rw (← ap (λ (b : Book g.row.T.Denot). b.rows) c.self.view_is) (omega arith)

pub returns-clause-few : goal.returns-clause-few
returns-clause-few g c =
    let same = length_rows g.T.HasId.id_of c.self.inside.slots.items c.self.inside.index.items c.self.invariant.1 in
    let few = c.self.invariant.5 in
    rw (← ap (λ (b : Book g.row.T.Denot). b.rows) c.self.view_is) (omega arith)

pub returns-clause-ordered : goal.returns-clause-ordered
returns-clause-ordered g c =
    rw (← ap (λ (b : Book g.row.T.Denot). b.rows) c.self.view_is)
    (rises_rows g.T.HasId.id_of 0 c.self.inside.slots.items c.self.inside.index.items c.self.invariant.1 c.self.invariant.0)
