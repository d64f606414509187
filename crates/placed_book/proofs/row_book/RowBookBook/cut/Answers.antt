use Rattle.std.proofs.Common.{sym, ap, arith}
use Rattle.placed_book.specs.RowBook.{Book}
use Rattle.placed_book.proofs.RowPlaces.{look_at, remove_at, rises_without, without_none}
use Rattle.placed_book.proofs.row_book.RowBookBook.cut.Goals as goal

pub invariant_of-self : goal.invariant_of-self
invariant_of-self g c =
    let at = rw c.as_slice.ensures.value at c.in-Some.ensures.at in
    let same = remove_at g.T.HasId.id_of c.self.inside.items.items c.args.id c.in-Some.at c.remove.result c.self.invariant.0 at in
    (rw (c.remove.ensures.items, ← same) (rises_without g.T.HasId.id_of 0 c.args.id c.self.inside.items.items c.self.invariant.0), omega arith, omega arith)

pub returns-in-Some-clause-row : goal.returns-in-Some-clause-row
returns-in-Some-clause-row g c =
    rw (← ap (λ (b : Book g.row.T.Denot). b.rows) c.self.view_is)
    (sym (look_at g.T.HasId.id_of c.self.inside.items.items c.args.id c.in-Some.at c.remove.result c.self.invariant.0 (rw c.as_slice.ensures.value at c.in-Some.ensures.at) c.remove.ensures.value))

pub returns-in-Some-clause-rows : goal.returns-in-Some-clause-rows
returns-in-Some-clause-rows g c =
    let at = rw c.as_slice.ensures.value at c.in-Some.ensures.at in
    rw (c.remove.ensures.items, ← ap (λ (b : Book g.row.T.Denot). b.rows) c.self.view_is)
    (sym (remove_at g.T.HasId.id_of c.self.inside.items.items c.args.id c.in-Some.at c.remove.result c.self.invariant.0 at))

pub returns-in-None-clause-rows : goal.returns-in-None-clause-rows
returns-in-None-clause-rows g c =
    let none = rw c.as_slice.ensures.value at c.in-None.ensures.none in
    rw (← ap (λ (b : Book g.row.T.Denot). b.rows) c.self.view_is) (sym (without_none g.T.HasId.id_of c.self.inside.items.items c.args.id none))
