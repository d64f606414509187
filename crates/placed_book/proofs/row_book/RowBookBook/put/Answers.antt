use Rattle.std.proofs.Common.{sym, ap, arith}
use Rattle.placed_book.specs.RowBook.{Book}
use Rattle.placed_book.proofs.RowPlaces.{set_at, with_row_new, rises_with}
use Rattle.placed_book.proofs.row_book.RowBookBook.put.Goals as goal

pub invariant_of-self : goal.invariant_of-self
invariant_of-self g c =
    let at = rw (c.as_slice.ensures.value, c.id.ensures) at c.in-Some.ensures.at in
    let same = set_at g.T.HasId.id_of c.self.inside.items.items c.args.row c.in-Some.at c.self.invariant.0 at in
    let fits = rw (← ap (λ (b : Book g.row.T.Denot). b.rows) c.self.view_is) at c.requires.fits in
    (rw (← same) (rises_with g.T.HasId.id_of 0 c.self.inside.items.items c.args.row c.requires.id c.self.invariant.0 fits), c.self.invariant.1, c.self.invariant.2)

pub invariant_of-self-in-None : goal.invariant_of-self-in-None
invariant_of-self-in-None g c =
    let none = rw (c.as_slice.ensures.value, c.id.ensures) at c.in-None.ensures.none in
    let same = with_row_new g.T.HasId.id_of c.self.inside.items.items c.args.row none in
    let fits = rw (← ap (λ (b : Book g.row.T.Denot). b.rows) c.self.view_is) at c.requires.fits in
    let room = rw (← ap (λ (b : Book g.row.T.Denot). b.spare) c.self.view_is) at c.requires.room in
    (rw (c.push_reserved.ensures.items, ← same) (rises_with g.T.HasId.id_of 0 c.self.inside.items.items c.args.row c.requires.id c.self.invariant.0 fits), omega arith, omega arith)

pub returns-in-Some-clause-rows : goal.returns-in-Some-clause-rows
returns-in-Some-clause-rows g c =
    let at = rw (c.as_slice.ensures.value, c.id.ensures) at c.in-Some.ensures.at in
    rw (← ap (λ (b : Book g.row.T.Denot). b.rows) c.self.view_is)
    (sym (set_at g.T.HasId.id_of c.self.inside.items.items c.args.row c.in-Some.at c.self.invariant.0 at))

pub returns-in-None-clause-rows : goal.returns-in-None-clause-rows
returns-in-None-clause-rows g c =
    let none = rw (c.as_slice.ensures.value, c.id.ensures) at c.in-None.ensures.none in
    rw (c.push_reserved.ensures.items, ← ap (λ (b : Book g.row.T.Denot). b.rows) c.self.view_is)
    (sym (with_row_new g.T.HasId.id_of c.self.inside.items.items c.args.row none))
