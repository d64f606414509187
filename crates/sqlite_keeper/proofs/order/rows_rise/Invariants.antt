use Rattle.std.proofs.Common.{drop}
use Rattle.ipam_data.specs.RowList.{Rises}
use Rattle.stored_tables.specs.Stored.{row_place}
use Rattle.sqlite_keeper.proofs.order.rows_rise.Given as goal

abbrev pub invariant-loop-row : goal.invariant-loop-row
invariant-loop-row l = Rises row_place l.last (drop l.row-index l.rows) → Rises row_place 0 l.rows
