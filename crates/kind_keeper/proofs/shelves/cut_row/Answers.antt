use Rattle.std.proofs.Common.{ℕ, slice_index_or, sym, ap, subst, ◌∙◌}
use Rattle.stored_tables.specs.Stored.{row_place}
use Rattle.ipam_data.specs.RowList.{Rises, without}
use Rattle.kind_keeper.specs.Shelves.{Shelf}
use Rattle.kind_keeper.proofs.Filing.{ordered_at, cut_rows_are, cut_are_shelves}
use Rattle.kind_keeper.proofs.shelves.cut_row.Goals as goal

pub cut-requires : goal.cut-requires
cut-requires c =
    let old = c.index_mut.result.now in
    subst (λ (s : Shelf). Rises row_place 0 s.items) (sym c.index_mut.ensures.value)
    (ordered_at c.args.shelves.now.items c.shelf_of-at.result old old c.requires c.shelf_of-at.ensures.seven)

pub returns-clause-rows : goal.returns-clause-rows
returns-clause-rows c =
    let old = c.index_mut.result.now in
    let items = c.cut.ensures.items ∙ ap (λ (s : Shelf). without row_place s.items c.place_among-here.result) c.index_mut.ensures.value
    ∙ ap (λ (n : ℕ). without row_place (slice_index_or c.args.shelves.now.items c.shelf_of-at.result old).items n) c.place_among-here.ensures.is in
    cut_rows_are c.args.shelves.now.items c.shelf_of-at.result c.cut.new.items old c.requires c.args.kind c.args.id c.shelf_of-at.ensures.seven c.shelf_of-at.ensures.is c.place_among-here.ensures.high items

pub returns-clause-shelves : goal.returns-clause-shelves
returns-clause-shelves c =
    let old = c.index_mut.result.now in
    let items = c.cut.ensures.items ∙ ap (λ (s : Shelf). without row_place s.items c.place_among-here.result) c.index_mut.ensures.value
    ∙ ap (λ (n : ℕ). without row_place (slice_index_or c.args.shelves.now.items c.shelf_of-at.result old).items n) c.place_among-here.ensures.is in
    cut_are_shelves c.args.shelves.now.items c.shelf_of-at.result c.cut.new.items old c.requires c.args.kind c.args.id c.shelf_of-at.ensures.seven c.shelf_of-at.ensures.is c.place_among-here.ensures.high items
