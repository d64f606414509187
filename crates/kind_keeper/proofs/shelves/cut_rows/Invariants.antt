use Rattle.std.proofs.Common.{◌≡◌, fold, take}
use Rattle.stored_tables.specs.Stored.{without_stored}
use Rattle.kind_keeper.specs.Shelves.{all_rows, AreShelves}
use Rattle.kind_keeper.proofs.shelves.cut_rows.Given as goal

abbrev pub invariant-loop-cut_id : goal.invariant-loop-cut_id
invariant-loop-cut_id l = record {
  taken : all_rows l.shelves.items ≡ fold without_stored (all_rows l.fn.shelves.items) (take l.cut_id-index l.cuts);
  shelves : AreShelves l.shelves.items;
}
