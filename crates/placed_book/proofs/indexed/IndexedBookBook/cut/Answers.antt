use Rattle.std.proofs.Common.{ℕ, ◌-◌, List, length, remove, sym, ap, ◌∙◌, arith, slice_get}
use Rattle.placed_book.specs.RowBook.{Book}
use Rattle.placed_book.proofs.RowPlaces.{get_within, without_none}
use Rattle.placed_book.specs.declared.indexed.Entry.{Entry}
use Rattle.placed_book.specs.Indexed.{rows_of}
use Rattle.placed_book.proofs.Index.{length_settled, only_kept, less_rows, slot_within, look_rows, none_rows, cut_ordered, cut_one}
use Rattle.placed_book.proofs.indexed.IndexedBookBook.cut.Goals as goal

pub resettle-requires-clause-ordered : goal.resettle-requires-clause-ordered
resettle-requires-clause-ordered g c =
    let at = rw c.as_slice.ensures.value at c.in-Some.ensures.at in
    rw c.remove-gone.ensures.items (cut_ordered g.T.HasId.id_of c.self.inside.index.items c.args.id c.in-Some.at c.remove-gone.result c.self.invariant.0 at)

pub resettle-requires-clause-only : goal.resettle-requires-clause-only
resettle-requires-clause-only g c =
    let at = rw c.as_slice.ensures.value at c.in-Some.ensures.at in
    let within = at.within in
    let equal = c.self.invariant.3 in
    let last : ℕ = c.len-last.result - 1 in
    let there = get_within g.T.HasId.id_of c.self.inside.slots.items last c.index.result.now (omega arith) c.index.ensures in
    let less = less_rows g.T.HasId.id_of c.self.inside.slots.items c.self.inside.index.items c.in-Some.at c.self.invariant.1 within in
    rw (c.remove-gone.ensures.items, c.id-moved.ensures) (only_kept g.T.HasId.id_of c.self.inside.slots.items last c.index.result.now (remove c.self.inside.index.items c.in-Some.at) there less.1)

pub swap_remove-requires : goal.swap_remove-requires
swap_remove-requires g c =
    let at = rw c.as_slice.ensures.value at c.in-Some.ensures.at in
    let within = slot_within g.T.HasId.id_of c.self.inside.slots.items c.self.inside.index.items c.in-Some.at c.remove-gone.result c.self.invariant.1 at.within in
    let same = ap (λ (e : Entry). e.slot) c.remove-gone.ensures.value in
    omega arith

pub invariant_of-self : goal.invariant_of-self
invariant_of-self g c =
    let at = rw c.as_slice.ensures.value at c.in-Some.ensures.at in
    let within = at.within in
    let equal = c.self.invariant.3 in
    let last : ℕ = c.len-last.result - 1 in
    let there = get_within g.T.HasId.id_of c.self.inside.slots.items last c.index.result.now (omega arith) c.index.ensures in
    let cut = cut_one g.T.HasId.id_of c.self.inside.slots.items c.self.inside.index.items c.args.id c.in-Some.at last c.remove-gone.result c.swap_remove.result c.index.result.now c.self.invariant.0 c.self.invariant.1 at c.remove-gone.ensures.value (omega arith) there in
    let settled = length_settled last c.remove-gone.result.slot c.remove-gone.new.self.items in
    let same = ap (λ (es : List Entry). length es) c.resettle.ensures.items in
    (rw (c.resettle.ensures.items, c.remove-gone.ensures.items) cut.2, rw (c.swap_remove.ensures.items, c.resettle.ensures.items, c.remove-gone.ensures.items) cut.1, omega arith, omega arith, omega arith, omega arith)

pub returns-in-Some-clause-row : goal.returns-in-Some-clause-row
returns-in-Some-clause-row g c =
    let at = rw c.as_slice.ensures.value at c.in-Some.ensures.at in
    let look = look_rows g.T.HasId.id_of c.self.inside.slots.items c.self.inside.index.items c.args.id c.in-Some.at c.remove-gone.result c.self.invariant.1 c.self.invariant.0 at in
    let within = slot_within g.T.HasId.id_of c.self.inside.slots.items c.self.inside.index.items c.in-Some.at c.remove-gone.result c.self.invariant.1 at.within in
    let same = ap (λ (e : Entry). e.slot) c.remove-gone.ensures.value in
    let there = get_within g.T.HasId.id_of c.self.inside.slots.items c.remove-gone.result.slot c.swap_remove.result (omega arith) c.swap_remove.ensures.value in
    rw (← ap (λ (b : Book g.row.T.Denot). b.rows) c.self.view_is)
    (sym (look ∙ ap (λ (k : ℕ). slice_get c.self.inside.slots.items k) (sym same) ∙ there))

pub returns-in-Some-clause-rows : goal.returns-in-Some-clause-rows
returns-in-Some-clause-rows g c =
    let at = rw c.as_slice.ensures.value at c.in-Some.ensures.at in
    let within = at.within in
    let equal = c.self.invariant.3 in
    let last : ℕ = c.len-last.result - 1 in
    let there = get_within g.T.HasId.id_of c.self.inside.slots.items last c.index.result.now (omega arith) c.index.ensures in
    let cut = cut_one g.T.HasId.id_of c.self.inside.slots.items c.self.inside.index.items c.args.id c.in-Some.at last c.remove-gone.result c.swap_remove.result c.index.result.now c.self.invariant.0 c.self.invariant.1 at c.remove-gone.ensures.value (omega arith) there in
    rw (← ap (λ (b : Book g.row.T.Denot). b.rows) c.self.view_is, c.swap_remove.ensures.items, c.resettle.ensures.items, c.remove-gone.ensures.items) cut.0

pub returns-in-None-clause-row : goal.returns-in-None-clause-row
returns-in-None-clause-row g c =
    rw (← ap (λ (b : Book g.row.T.Denot). b.rows) c.self.view_is)
    (sym (none_rows g.T.HasId.id_of c.self.inside.slots.items c.self.inside.index.items c.args.id c.self.invariant.1 (rw c.as_slice.ensures.value at c.in-None.ensures.none)))

pub returns-in-None-clause-rows : goal.returns-in-None-clause-rows
returns-in-None-clause-rows g c =
    let none = none_rows g.T.HasId.id_of c.self.inside.slots.items c.self.inside.index.items c.args.id c.self.invariant.1 (rw c.as_slice.ensures.value at c.in-None.ensures.none) in
    rw (← ap (λ (b : Book g.row.T.Denot). b.rows) c.self.view_is)
    (sym (without_none g.T.HasId.id_of (rows_of c.self.inside.slots.items c.self.inside.index.items) c.args.id none))
