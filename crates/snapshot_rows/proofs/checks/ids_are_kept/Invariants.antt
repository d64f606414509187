use Rattle.std.proofs.Common.{take}
use Rattle.ipam_data.specs.Updates.{AreKept}
use Rattle.snapshot_rows.proofs.checks.ids_are_kept.Given as goal

abbrev pub invariant-loop-id : goal.invariant-loop-id
invariant-loop-id l = AreKept (take l.id-index l.ids)
