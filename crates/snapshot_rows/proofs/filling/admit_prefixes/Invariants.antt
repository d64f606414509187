use Rattle.std.proofs.Common.{◌≡◌, take}
use Rattle.register_tables.specs.Held.{state_of}
use Rattle.snapshot_rows.specs.Lists.{lists_of}
use Rattle.snapshot_rows.proofs.filling.admit_prefixes.Given as goal

abbrev pub invariant-loop-index : goal.invariant-loop-index
invariant-loop-index g l = lists_of (state_of l.tables) ≡ record { vrfs = (state_of l.fn.tables).vrfs.rows; prefixes = take l.index l.book.rows }
