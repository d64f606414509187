use Rattle.std.proofs.Common.{◌≡◌, None, find, take}
use Rattle.ipam_data.specs.RowList.{is_rival}
use Rattle.ipam_data.specs.Rows.{aggregate_id}
use Rattle.ipam_data.specs.Aggregates.{overlaps}
use Rattle.aggregates.proofs.blocks.least_overlap.Given as goal

abbrev pub invariant-rows : goal.invariant-rows
invariant-rows g l = find (is_rival aggregate_id overlaps l.row) (take l.index l.book.rows) ≡ None
