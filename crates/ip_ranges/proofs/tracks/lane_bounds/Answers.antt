use Rattle.ip_ranges.proofs.Entries.{lane_order}
use Rattle.ip_ranges.proofs.tracks.lane_bounds.Goals as goal

pub returns-clause-order : goal.returns-clause-order
returns-clause-order c = lane_order c.args.lane c.args.entries.now c.beginning_before-from.result c.beginning_before-to.result c.beginning_before-from.ensures.bound c.beginning_before-from.ensures.point c.beginning_before-to.ensures.point
