use Rattle.std.proofs.Common.{◌≤◌}
use Rattle.http_lanes.specs.Served.{HasServed}
use Rattle.http_lanes.proofs.lanes.serve_lane.Given as goal

abbrev pub invariant-loop-seat : goal.invariant-loop-seat
invariant-loop-seat g l =
    record {
      served : HasServed g.D.Desk.may (g.D.Desk.view l.initial.seat) (g.D.Desk.view l.seat) (g.A.Lane.told l.lane);
      later : g.A.Lane.faults l.initial.lane ≤ g.A.Lane.faults l.lane;
    }

abbrev pub decreases-loop-seat : goal.decreases-loop-seat
decreases-loop-seat g l = g.A.Lane.accepts l.lane
