use Rattle.std.proofs.Common.{◌≡◌, take}
use Rattle.register_tables.specs.Held.{state_of}
use Rattle.snapshot_rows.specs.Lists.{lists_of}
use Rattle.snapshot_rows.proofs.filling.admit_vrfs.Given as goal

abbrev pub invariant-loop-row : goal.invariant-loop-row
invariant-loop-row l = lists_of (state_of l.tables) ≡ record { vrfs = take l.row-index l.rows; prefixes = (state_of l.fn.tables).prefixes.rows }
