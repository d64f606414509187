use Rattle.std.proofs.Common.{◌≡◌, fold}
use Rattle.std.specs.Vec.Iter.{into_iter_items, into_iter_len}
use Rattle.ipam_data.specs.RowList.{placed}
use Rattle.stored_tables.specs.Stored.{row_place}
use Rattle.kind_keeper.specs.Shelves.{all_rows, AreShelves, HaveRoom}
use Rattle.kind_keeper.proofs.shelves.put_rows.Given as goal

abbrev pub invariant-loop-row : goal.invariant-loop-row
invariant-loop-row l = record {
  leads : fold (placed row_place) (all_rows l.shelves.items) (into_iter_items l.rest) ≡ fold (placed row_place) (all_rows l.fn.shelves.items) l.fn.puts.items;
  shelves : AreShelves l.shelves.items;
  room : HaveRoom (into_iter_items l.rest) l.shelves.items;
}

abbrev pub decreases-loop-row : goal.decreases-loop-row
decreases-loop-row l = into_iter_len l.rest
