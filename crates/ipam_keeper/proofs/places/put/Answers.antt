use Rattle.std.proofs.Common.{◌<◌, arith, sym}
use Rattle.placed_book.proofs.RowPlaces.{place_short}
use Rattle.ipam_keeper.proofs.Placing.{placed_here, inserted, rises_placed}
use Rattle.ipam_keeper.proofs.places.put.Goals as goal

pub insert-requires : goal.insert-requires
insert-requires g c =
    let h = place_short g.T.HasPlace.number c.args.here c.as_slice.result.now in
    let e = c.in-Err.ensures.absent.0 in
    let n = c.as_slice.ensures.len in
    omega arith

pub returns-in-Ok-clause-items : goal.returns-in-Ok-clause-items
returns-in-Ok-clause-items g c =
    let id = g.T.HasPlace.number in
    let at = rw c.as_slice.ensures.value at c.in-Ok.ensures.found in
    sym (placed_here id c.args.items.now.items c.args.item c.args.here c.in-Ok.at c.requires.ordered c.requires.here at)

pub returns-in-Ok-clause-ordered : goal.returns-in-Ok-clause-ordered
returns-in-Ok-clause-ordered g c =
    let id = g.T.HasPlace.number in
    let low : 0 < id c.args.item = omega arith in
    let at = rw c.as_slice.ensures.value at c.in-Ok.ensures.found in
    rw (← placed_here id c.args.items.now.items c.args.item c.args.here c.in-Ok.at c.requires.ordered c.requires.here at)
    (rises_placed id 0 c.args.items.now.items c.args.item c.requires.ordered low)

pub returns-in-Ok-insert-clause-items : goal.returns-in-Ok-insert-clause-items
returns-in-Ok-insert-clause-items g c =
    let id = g.T.HasPlace.number in
    let absent = rw c.as_slice.ensures.value at c.in-Err.ensures.absent in
    inserted id c.args.items.now.items c.insert.new.self.items c.args.item c.args.here c.in-Err.at c.requires.here absent.0 absent.1 c.requires.ordered c.in-Ok-insert.ensures.items

pub returns-in-Ok-insert-clause-ordered : goal.returns-in-Ok-insert-clause-ordered
returns-in-Ok-insert-clause-ordered g c =
    let id = g.T.HasPlace.number in
    let low : 0 < id c.args.item = omega arith in
    let absent = rw c.as_slice.ensures.value at c.in-Err.ensures.absent in
    rw (inserted id c.args.items.now.items c.insert.new.self.items c.args.item c.args.here c.in-Err.at c.requires.here absent.0 absent.1 c.requires.ordered c.in-Ok-insert.ensures.items)
    (rises_placed id 0 c.args.items.now.items c.args.item c.requires.ordered low)
