use Rattle.std.proofs.Common.{sym}
use Rattle.pool_opening.proofs.Faultless.{ranges_rise}
use Rattle.pool_opening.proofs.faults.fault_of.Goals as goal

pub bad_member-requires : goal.bad_member-requires
bad_member-requires c = ranges_rise c.as_slice-ranges.result.now (sym c.in-None.ensures)
