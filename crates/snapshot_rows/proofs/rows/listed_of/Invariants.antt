use Rattle.std.proofs.Common.{◌≡◌, take, filter}
use Rattle.snapshot_rows.specs.Lists.{is_listed}
use Rattle.snapshot_rows.proofs.rows.listed_of.Given as goal

abbrev pub invariant-loop-view : goal.invariant-loop-view
invariant-loop-view l = l.puts.items ≡ filter is_listed (take l.view-index l.views)
