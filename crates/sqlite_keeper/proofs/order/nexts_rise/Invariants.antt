use Rattle.std.proofs.Common.{drop}
use Rattle.ipam_data.specs.RowList.{Rises}
use Rattle.stored_tables.specs.Stored.{next_place}
use Rattle.sqlite_keeper.proofs.order.nexts_rise.Given as goal

abbrev pub invariant-loop-next : goal.invariant-loop-next
invariant-loop-next l = Rises next_place l.last (drop l.next-index l.nexts) → Rises next_place 0 l.nexts
