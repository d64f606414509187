use Rattle.std.proofs.Common.{sym, ap, ◌∙◌}
use Rattle.placed_book.specs.RowBook.{Book}
use Rattle.placed_book.proofs.Index.{entry_rows, no_entry_rows}
use Rattle.placed_book.proofs.indexed.IndexedBookBook.at.Goals as goal

pub returns-in-Some : goal.returns-in-Some
returns-in-Some g c =
    let there = rw c.deref.ensures.value at c.in-Some.ensures in
    rw (← ap (λ (b : Book g.row.T.Denot). b.rows) c.self.view_is)
    (rw c.deref-in-Some.ensures.value at c.item-in-Some.ensures ∙ sym (entry_rows g.T.HasId.id_of c.self.inside.slots.items c.self.inside.index.items c.args.index c.in-Some.entry.now c.self.invariant.1 (sym there)))

pub returns-in-None : goal.returns-in-None
returns-in-None g c =
    let none = rw c.deref.ensures.value at c.in-None.ensures in
    rw (← ap (λ (b : Book g.row.T.Denot). b.rows) c.self.view_is)
    (sym (no_entry_rows g.T.HasId.id_of c.self.inside.slots.items c.self.inside.index.items c.args.index c.self.invariant.1 (sym none)))
