use Rattle.std.proofs.Common.{◌≡◌, ◌≤◌, ◌+◌, [], All, IfSome, length, vec_capacity}
use Rattle.snapshot_reads.specs.Seen.{IsNewLook}
use Rattle.command_mirror.specs.Readers.{IsFresh, look_of}
use Rattle.command_mirror.proofs.readers.pair_up.Given as goal

abbrev pub invariant-loop-lane : goal.invariant-loop-lane
invariant-loop-lane g l =
    record {
      looks : All (λ look. IsNewLook l.feed look) l.looks.items;
      waiting : All (λ lane. IfSome (g.A.Lane.told lane) (λ connections. connections ≡ [])) l.lanes.items;
      many : length l.looks.items ≡ length l.lanes.items;
      paired : All (λ r. IsFresh g.A.Lane.told (look_of l.feed) r.look r.lane) l.readers.items;
      count : length l.readers.items + length l.lanes.items ≡ length l.initial.lanes.items;
      room : length l.initial.lanes.items ≤ vec_capacity l.readers;
      kept_room : vec_capacity l.lanes ≡ vec_capacity l.initial.lanes;
    }

abbrev pub decreases-loop-lane : goal.decreases-loop-lane
decreases-loop-lane g l = length l.lanes.items
