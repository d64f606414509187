use Rattle.std.proofs.Common.{◌≢◌, arith, ap, sym, ◌∙◌}
use Rattle.placed_book.proofs.RowPlaces.{place_short, place_from, none_at_place, nothing_from, is_at}
use Rattle.placed_book.proofs.row_book.found.Goals as goal

pub returns-then-at-items-clause-none : goal.returns-then-at-items-clause-none
returns-then-at-items-clause-none g c = nothing_from g.T.HasId.id_of c.args.id c.args.items.now c.requires (sym c.seek-at.ensures ∙ c.if-at-items.true)

pub offset_bounds-items-at : goal.offset_bounds-items-at
offset_bounds-items-at g c = let h = place_short g.T.HasId.id_of c.args.id c.args.items.now in omega arith

pub bounds-items-at : goal.bounds-items-at
bounds-items-at g c = let h = place_short g.T.HasId.id_of c.args.id c.args.items.now in omega arith

pub returns-then-id-clause-at : goal.returns-then-id-clause-at
returns-then-id-clause-at g c =
    let h = place_short g.T.HasId.id_of c.args.id c.args.items.now in
    is_at g.T.HasId.id_of c.args.items.now c.args.id c.seek-at.result c.index-items-at.result (omega arith) c.index-items-at.is (sym c.id.ensures ∙ c.if-id.true)

pub returns-clause-none : goal.returns-clause-none
returns-clause-none g c =
    let id = g.T.HasId.id_of in
    let xs = c.args.items.now in
    let e = ap id c.index-items-at.is in
    let s = place_short id c.args.id xs in
    let f = place_from id c.args.id xs c.seek-at.result c.index-items-at.result (sym c.seek-at.ensures) (omega arith) in
    let m : c.id.result ≢ c.args.id = c.if-id.false in
    none_at_place id 0 c.args.id xs c.seek-at.result c.index-items-at.result c.requires (sym c.seek-at.ensures) (λ _. omega arith)
