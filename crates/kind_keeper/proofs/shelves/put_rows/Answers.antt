use Rattle.std.proofs.Common.{◌≡◌, List, ◌∷◌, fold, ap, subst, ◌∙◌}
use Rattle.std.specs.Vec.Iter.{into_iter_items}
use Rattle.ipam_data.specs.RowList.{placed}
use Rattle.stored_tables.specs.declared.tables.Row.{Row}
use Rattle.stored_tables.specs.Stored.{row_place}
use Rattle.kind_keeper.specs.Shelves.{all_rows, HaveRoom}
use Rattle.kind_keeper.proofs.shelves.put_rows.Goals as goal

pub loop-row-preserved : goal.loop-row-preserved
loop-row-preserved c =
    let at = c.loop-row in
    let left : List Row = into_iter_items c.next.new.self in
    let next : into_iter_items at.rest ≡ c.in-Some.row ∷ left = c.in-Some.ensures.items in
    let before = subst (λ (rows : List Row). fold (placed row_place) (all_rows at.shelves.items) rows ≡ fold (placed row_place) (all_rows c.args.shelves.now.items) c.args.puts.items) next at.invariant.leads in
    record {
      leads = ap (λ (rows : List Row). fold (placed row_place) rows left) c.put_row.ensures.rows ∙ before;
      shelves = c.put_row.ensures.shelves;
      room = c.put_row.ensures.room left (subst (λ (rows : List Row). HaveRoom rows at.shelves.items) next at.invariant.room);
    }
