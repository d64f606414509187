use Rattle.std.proofs.Common.{◌≡◌, ◌≤◌, ◌+◌, ◌++◌, length, map, reverse}
use Rattle.ipam_edge.specs.Faults.{Rose}
use Rattle.http_lanes.specs.declared.listening.Listening.TheVariants.{Whole, Broken}
use Rattle.http_lanes.specs.Listened.{returned_as}
use Rattle.http_lanes.proofs.taking.give_back_lanes.Given as goal

abbrev pub invariant-loop-lane : goal.invariant-loop-lane
invariant-loop-lane g l =
    record {
      back : g.L.Listener.returned l.listener ++ map (returned_as g.L.Door.Lane.told g.L.Door.Lane.accepts) (reverse l.left.items)
          ≡ g.L.Listener.returned l.initial.listener ++ map (returned_as g.L.Door.Lane.told g.L.Door.Lane.accepts) l.fn.lanes.items;
      lanes : g.L.Listener.lanes l.listener ≡ g.L.Listener.lanes l.initial.listener;
      bound : g.L.Listener.bound l.listener ≡ g.L.Listener.bound l.initial.listener;
      out : length (g.L.Listener.returned l.listener) + length l.left.items ≤ g.L.Listener.lanes l.listener;
      whole : l.listening ≡ Whole → g.L.Listener.faults l.listener ≡ g.L.Listener.faults l.initial.listener;
      broken : l.listening ≡ Broken → Rose (g.L.Listener.faults l.initial.listener) (g.L.Listener.faults l.listener);
      later : g.L.Listener.faults l.initial.listener ≤ g.L.Listener.faults l.listener;
    }

abbrev pub decreases-loop-lane : goal.decreases-loop-lane
decreases-loop-lane g l = length l.left.items
