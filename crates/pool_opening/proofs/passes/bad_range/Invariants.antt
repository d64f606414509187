use Rattle.std.proofs.Common.{◌≡◌, ◌-◌, ◌≤◌, [], None, drop, length, take}
use Rattle.number_pools.specs.Rows.{range_id}
use Rattle.pool_opening.specs.Faults.{breaks_range, least_broken, top_of}
use Rattle.pool_opening.proofs.passes.bad_range.Given as goal

abbrev pub invariant-row : goal.invariant-row
invariant-row l =
    (least_broken range_id breaks_range (take l.at l.ranges) l.found (drop l.at l.ranges) ≡ least_broken range_id breaks_range [] None l.ranges) × (l.top ≡ top_of range_id (take l.at l.ranges)) × (l.at ≤ length l.ranges)

abbrev pub decreases-row : goal.decreases-row
decreases-row l = length l.ranges - l.at
