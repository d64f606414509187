use Rattle.std.proofs.Common.{ap, arith}
use Rattle.placed_book.specs.RowBook.{Book}
use Rattle.placed_book.specs.declared.indexed.Entry.{Entry}
use Rattle.placed_book.proofs.Index.{slot_within, put_old, put_new}
use Rattle.placed_book.proofs.indexed.IndexedBookBook.put.Goals as goal

pub index_mut-requires : goal.index_mut-requires
index_mut-requires g c =
    let at = rw (c.as_slice.ensures.value, c.id-id.ensures) at c.in-Some.ensures.at in
    let within = slot_within g.T.HasId.id_of c.self.inside.slots.items c.self.inside.index.items c.in-Some.at c.index.result.now c.self.invariant.1 at.within in
    let same = ap (λ (e : Entry). e.slot) c.index.ensures in
    omega arith

pub invariant_of-self : goal.invariant_of-self
invariant_of-self g c =
    let at = rw (c.as_slice.ensures.value, c.id-id.ensures) at c.in-Some.ensures.at in
    let put = put_old g.T.HasId.id_of c.self.inside.slots.items c.self.inside.index.items c.in-Some.at c.index.result.now.slot c.index.result.now c.args.row c.self.invariant.0 c.self.invariant.1 at (ap (λ (e : Entry). e.slot) c.index.ensures) in
    (c.self.invariant.0, put.1, c.self.invariant.2, c.self.invariant.3, c.self.invariant.4, c.self.invariant.5)

pub invariant_of-self-in-None : goal.invariant_of-self-in-None
invariant_of-self-in-None g c =
    let none = rw (c.as_slice.ensures.value, c.id-id.ensures) at c.in-None.ensures.none in
    let fits = rw (← ap (λ (b : Book g.row.T.Denot). b.rows) c.self.view_is) at c.requires.fits in
    let room = rw (← ap (λ (b : Book g.row.T.Denot). b.spare) c.self.view_is) at c.requires.room in
    let put = put_new g.T.HasId.id_of c.self.inside.slots.items c.self.inside.index.items c.id-id.result c.len-slot.result c.args.row c.self.invariant.0 c.self.invariant.1 none c.id-id.ensures (omega arith) c.requires.id fits in
    let equal = c.self.invariant.3 in
    (rw c.push_reserved.ensures.items put.2, rw (c.push_reserved.ensures.items, c.push_reserved-in-None.ensures.items) put.1, omega arith, omega arith, omega arith, omega arith)

pub returns-in-Some-clause-rows : goal.returns-in-Some-clause-rows
returns-in-Some-clause-rows g c =
    let at = rw (c.as_slice.ensures.value, c.id-id.ensures) at c.in-Some.ensures.at in
    let put = put_old g.T.HasId.id_of c.self.inside.slots.items c.self.inside.index.items c.in-Some.at c.index.result.now.slot c.index.result.now c.args.row c.self.invariant.0 c.self.invariant.1 at (ap (λ (e : Entry). e.slot) c.index.ensures) in
    rw (← ap (λ (b : Book g.row.T.Denot). b.rows) c.self.view_is) put.0

pub returns-in-None-clause-rows : goal.returns-in-None-clause-rows
returns-in-None-clause-rows g c =
    let none = rw (c.as_slice.ensures.value, c.id-id.ensures) at c.in-None.ensures.none in
    let fits = rw (← ap (λ (b : Book g.row.T.Denot). b.rows) c.self.view_is) at c.requires.fits in
    let put = put_new g.T.HasId.id_of c.self.inside.slots.items c.self.inside.index.items c.id-id.result c.len-slot.result c.args.row c.self.invariant.0 c.self.invariant.1 none c.id-id.ensures (omega arith) c.requires.id fits in
    rw (← ap (λ (b : Book g.row.T.Denot). b.rows) c.self.view_is, c.push_reserved.ensures.items, c.push_reserved-in-None.ensures.items) put.0
