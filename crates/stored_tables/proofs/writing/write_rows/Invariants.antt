use Rattle.std.proofs.Common.{◌≡◌, map, take}
use Rattle.stored_tables.specs.Stored.{stored_row}
use Rattle.stored_tables.proofs.writing.write_rows.Given as goal

abbrev pub invariant-loop-view : goal.invariant-loop-view
invariant-loop-view l = l.rows.items ≡ map stored_row (take l.view-index l.views)
