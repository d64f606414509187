use Rattle.std.proofs.Common.{ap, arith}
use Rattle.placed_book.specs.RowBook.{Book}
use Rattle.placed_book.proofs.Index.{length_rows}
use Rattle.placed_book.proofs.indexed.IndexedBookBook.reserve.Goals as goal

pub invariant_of-self-then-self-n : goal.invariant_of-self-then-self-n
invariant_of-self-then-self-n g c =
    let same = length_rows g.T.HasId.id_of c.self.inside.slots.items c.self.inside.index.items c.self.invariant.1 in
    let few = rw (← ap (λ (b : Book g.row.T.Denot). b.rows) c.self.view_is) at c.requires in
    let equal = c.self.invariant.3 in
    let first = c.in_ok-reserve.ensures.ok in
    let second = c.in_ok-reserve-2.ensures.ok in
    (rw c.reserve.ensures.items c.self.invariant.0, rw (c.reserve-2.ensures.items, c.reserve.ensures.items) c.self.invariant.1, omega arith, omega arith, omega arith, omega arith)
