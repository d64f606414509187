use Rattle.std.proofs.Common.{◌≡◌, ◌≤◌, ◌+◌, All, length, map, vec_capacity}
use Rattle.http_lanes.specs.Listened.{returned_as}
use Rattle.command_mirror.specs.Readers.{AreReadLanes, IsRead, look_of}
use Rattle.command_mirror.proofs.readers.dismiss.Given as goal

abbrev pub invariant-loop-reader : goal.invariant-loop-reader
invariant-loop-reader g l =
    record {
      read : All (λ r. IsRead g.A.Lane.told g.A.Lane.accepts (look_of l.feed) r.look r.lane) l.left.items;
      done : AreReadLanes l.feed.opening l.feed.published (map (returned_as g.A.Lane.told g.A.Lane.accepts) l.lanes.items);
      count : length l.lanes.items + length l.left.items ≡ length l.fn.readers.items;
      room : length l.fn.readers.items ≤ vec_capacity l.lanes;
    }

abbrev pub decreases-loop-reader : goal.decreases-loop-reader
decreases-loop-reader g l = length l.left.items
