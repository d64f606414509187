use Rattle.std.proofs.Common.{◌≡◌, ◌+◌, [], All, IfSome, length, vec_capacity}
use Rattle.http_lanes.proofs.taking.take_lanes.Given as goal

abbrev pub invariant-loop : goal.invariant-loop
invariant-loop g l =
    record {
      fresh : All (λ lane. IfSome (g.L.Door.Lane.told lane) (λ connections. connections ≡ [])) l.lanes.items;
      count : length l.lanes.items ≡ l.counter;
      room : vec_capacity l.lanes ≡ vec_capacity l.initial.lanes;
      taken : g.L.Listener.lanes l.listener ≡ g.L.Listener.lanes l.initial.listener + length l.lanes.items;
      bound : g.L.Listener.bound l.listener ≡ g.L.Listener.bound l.initial.listener;
      returned : g.L.Listener.returned l.listener ≡ g.L.Listener.returned l.initial.listener;
      none_failed : g.L.Listener.faults l.listener ≡ g.L.Listener.faults l.initial.listener;
    }
