use Rattle.std.proofs.Common.{◌≡◌, fold, take}
use Rattle.ipam_data.specs.RowList.{Rises}
use Rattle.stored_tables.specs.Stored.{row_place, without_stored}
use Rattle.ipam_keeper.proofs.places.cut_all.Given as goal

abbrev pub invariant-loop-cut_id : goal.invariant-loop-cut_id
invariant-loop-cut_id l = record {
  taken : l.rows.items ≡ fold without_stored l.fn.rows.items (take l.cut_id-index l.cuts);
  ordered : Rises row_place 0 l.rows.items;
}
