use Rattle.std.proofs.Common.{sym, ap, subst, ◌∙◌}
use Rattle.stored_tables.specs.Stored.{row_place}
use Rattle.ipam_data.specs.RowList.{Rises, placed}
use Rattle.kind_keeper.specs.Shelves.{Shelf}
use Rattle.kind_keeper.proofs.Filing.{ordered_at, put_rows_are, put_are_shelves}
use Rattle.kind_keeper.proofs.shelves.put_row.Goals as goal

pub put-requires-clause-ordered : goal.put-requires-clause-ordered
put-requires-clause-ordered c =
    let old = c.index_mut.result.now in
    subst (λ (s : Shelf). Rises row_place 0 s.items) (sym c.index_mut.ensures.value)
    (ordered_at c.args.shelves.now.items c.shelf_of-at.result old old c.requires.shelves c.shelf_of-at.ensures.seven)

pub returns-clause-rows : goal.returns-clause-rows
returns-clause-rows c =
    let old = c.index_mut.result.now in
    let items = c.put.ensures.items ∙ ap (λ (s : Shelf). placed row_place s.items c.args.row) c.index_mut.ensures.value in
    put_rows_are c.args.shelves.now.items c.shelf_of-at.result c.put.new.items old c.requires.shelves c.args.row c.shelf_of-at.ensures.seven c.shelf_of-at.ensures.is c.place_among-here.ensures.high items

pub returns-clause-shelves : goal.returns-clause-shelves
returns-clause-shelves c =
    let old = c.index_mut.result.now in
    let items = c.put.ensures.items ∙ ap (λ (s : Shelf). placed row_place s.items c.args.row) c.index_mut.ensures.value in
    put_are_shelves c.args.shelves.now.items c.shelf_of-at.result c.put.new.items old c.requires.shelves c.args.row c.shelf_of-at.ensures.seven c.shelf_of-at.ensures.is c.place_among-here.ensures.high items
