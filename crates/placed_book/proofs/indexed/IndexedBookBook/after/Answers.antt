use Rattle.std.proofs.Common.{sym, ap, ◌∙◌, arith, slice_get}
use Rattle.placed_book.specs.RowBook.{Book}
use Rattle.placed_book.specs.declared.indexed.Entry.{Entry}
use Rattle.placed_book.proofs.Index.{after_rows, after_none}
use Rattle.placed_book.proofs.indexed.IndexedBookBook.after.Goals as goal

pub returns-then-at-len : goal.returns-then-at-len
returns-then-at-len g c =
    let at = rw c.as_slice.ensures.value at c.seek-at.ensures in
    let look = after_rows g.T.HasId.id_of c.self.inside.slots.items c.self.inside.index.items c.args.id c.seek-at.result c.index.result.now c.self.invariant.1 at (omega arith) in
    rw (← ap (λ (b : Book g.row.T.Denot). b.rows) c.self.view_is)
    (rw c.deref.ensures.value at c.item.ensures ∙ ap (λ (e : Entry). slice_get c.self.inside.slots.items e.slot) c.index.ensures ∙ sym look)

pub returns : goal.returns
returns g c =
    let at = rw c.as_slice.ensures.value at c.seek-at.ensures in
    rw (← ap (λ (b : Book g.row.T.Denot). b.rows) c.self.view_is)
    (sym (after_none g.T.HasId.id_of c.self.inside.slots.items c.self.inside.index.items c.args.id c.seek-at.result c.self.invariant.1 at (omega arith)))
