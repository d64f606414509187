use Rattle.std.proofs.Common.{sym, ◌∙◌}
use Rattle.placed_book.proofs.RowPlaces.{remove_at, rises_without, without_none}
use Rattle.ipam_keeper.proofs.places.cut.Goals as goal

pub returns-in-Ok-clause-items : goal.returns-in-Ok-clause-items
returns-in-Ok-clause-items g c =
    let id = g.T.HasPlace.number in
    let at = rw c.as_slice.ensures.value at c.in-Ok.ensures.found in
    c.remove.ensures.items ∙ sym (remove_at id c.args.items.now.items c.args.here c.in-Ok.at c.remove.result c.requires at)

pub returns-in-Ok-clause-ordered : goal.returns-in-Ok-clause-ordered
returns-in-Ok-clause-ordered g c =
    let id = g.T.HasPlace.number in
    let at = rw c.as_slice.ensures.value at c.in-Ok.ensures.found in
    rw (c.remove.ensures.items, ← remove_at id c.args.items.now.items c.args.here c.in-Ok.at c.remove.result c.requires at)
    (rises_without id 0 c.args.here c.args.items.now.items c.requires)

pub returns-in-Err-clause-items : goal.returns-in-Err-clause-items
returns-in-Err-clause-items g c =
    let id = g.T.HasPlace.number in
    let absent = rw c.as_slice.ensures.value at c.in-Err.ensures.absent in
    sym (without_none id c.args.items.now.items c.args.here absent.1)
