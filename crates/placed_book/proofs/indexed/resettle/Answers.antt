use Rattle.std.proofs.Common.{sym, ap, ◌∙◌}
use Rattle.placed_book.specs.declared.indexed.Entry.{Entry}
use Rattle.placed_book.proofs.Index.{settled_none, settled_at, settled_other}
use Rattle.placed_book.proofs.indexed.resettle.Goals as goal

pub returns-then-index-from-clause-items : goal.returns-then-index-from-clause-items
returns-then-index-from-clause-items c =
    let at = rw c.as_slice.ensures.value at c.in-Some.ensures.at in
    sym (settled_at 0 c.args.id c.args.from c.args.to c.args.index.now.items c.in-Some.at c.index.result.now c.requires.ordered at.within (at.same c.index.result.now) (ap (λ (e : Entry). e.slot) (sym c.index.ensures) ∙ c.if-index-from.true) c.requires.only)

pub returns-else-index-from-clause-items : goal.returns-else-index-from-clause-items
returns-else-index-from-clause-items c =
    let at = rw c.as_slice.ensures.value at c.in-Some.ensures.at in
    sym (settled_other 0 c.args.id c.args.from c.args.to c.args.index.now.items c.in-Some.at c.index.result.now c.requires.ordered at.within (at.same c.index.result.now) (λ q. c.if-index-from.false (ap (λ (e : Entry). e.slot) c.index.ensures ∙ q)) c.requires.only)

pub returns-in_default-clause-items : goal.returns-in_default-clause-items
returns-in_default-clause-items c = sym (settled_none c.args.id c.args.from c.args.to c.args.index.now.items c.requires.only (rw c.as_slice.ensures.value at c.in_default.ensures.none))
