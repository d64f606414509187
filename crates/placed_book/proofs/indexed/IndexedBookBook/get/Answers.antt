use Rattle.std.proofs.Common.{sym, ap, ◌∙◌, slice_get}
use Rattle.placed_book.specs.RowBook.{Book}
use Rattle.placed_book.specs.declared.indexed.Entry.{Entry}
use Rattle.placed_book.proofs.Index.{look_rows, none_rows}
use Rattle.placed_book.proofs.indexed.IndexedBookBook.get.Goals as goal

pub returns-in-Some : goal.returns-in-Some
returns-in-Some g c =
    let at = rw c.as_slice.ensures.value at c.in-Some.ensures.at in
    let look = look_rows g.T.HasId.id_of c.self.inside.slots.items c.self.inside.index.items c.args.id c.in-Some.at c.index.result.now c.self.invariant.1 c.self.invariant.0 at in
    rw (← ap (λ (b : Book g.row.T.Denot). b.rows) c.self.view_is)
    (rw c.deref.ensures.value at c.item.ensures ∙ ap (λ (e : Entry). slice_get c.self.inside.slots.items e.slot) c.index.ensures ∙ sym look)

pub returns-in-None : goal.returns-in-None
returns-in-None g c =
    rw (← ap (λ (b : Book g.row.T.Denot). b.rows) c.self.view_is)
    (sym (none_rows g.T.HasId.id_of c.self.inside.slots.items c.self.inside.index.items c.args.id c.self.invariant.1 (rw c.as_slice.ensures.value at c.in-None.ensures.none)))
