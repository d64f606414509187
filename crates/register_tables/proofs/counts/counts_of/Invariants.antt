use Rattle.std.proofs.Common.{◌≡◌, take}
use Rattle.std.specs.List.{count_by}
use Rattle.ipam_data.specs.declared.kinds.Table.{Table}
use Rattle.register_tables.specs.Held.{is_in}
use Rattle.register_tables.specs.Counts.{counted}
use Rattle.register_tables.proofs.counts.counts_of.Given as goal

abbrev pub invariant-loop-view : goal.invariant-loop-view
invariant-loop-view l = (t : Table) → counted l.counts t ≡ count_by (is_in l.kind t) (take l.view-index l.views)
