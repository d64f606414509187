use Rattle.std.proofs.Common.{◌≡◌, ◌≤◌, ◌+◌, [], All, IfSome, length, vec_capacity}
use Rattle.machine_session.specs.Protocols.{protocol}
use Rattle.machine_server.specs.Hired.{AreNumberedDown, IsHired, IsFresh, top_number}
use Rattle.machine_server.proofs.hiring.hire.Given as goal

abbrev pub invariant-loop-lane : goal.invariant-loop-lane
invariant-loop-lane g l =
    record {
      lock : l.seat.lock ≡ l.shared;
      weight : l.seat.weight + length l.hired.items ≡ 65536;
      spare : l.seat.spare ≡ l.seat.weight;
      first : (l.seat.opening ≡ l.fn.seat.opening) × (l.seat.base ≡ l.fn.seat.base) × (l.seat.ended ≡ []) × (l.seat.seen ≡ []) × (l.seat.faults ≡ 0);
      hired : All (λ w. IsHired (protocol g.M.Machine.step g.M.Machine.answer g.M.Machine.kind g.M.Machine.fallible g.V.Service.asks g.V.Service.tells g.V.Service.refuses g.V.Service.misread) g.A.Lane.told l.fn.seat.opening l.fn.seat.base l.shared w.seat w.lane) l.hired.items;
      fresh : All (λ w. IsFresh g.A.Lane.told w.seat w.lane) l.hired.items;
      waiting : All (λ lane. IfSome (g.A.Lane.told lane) (λ connections. connections ≡ [])) l.lanes.items;
      numbers : AreNumberedDown (λ w. w.seat) top_number l.hired.items;
      number : l.seat.number ≡ 0;
      count : length l.hired.items + length l.lanes.items ≡ length l.initial.lanes.items;
      room : length l.initial.lanes.items ≤ vec_capacity l.hired;
      kept_room : vec_capacity l.lanes ≡ vec_capacity l.initial.lanes;
    }

abbrev pub decreases-loop-lane : goal.decreases-loop-lane
decreases-loop-lane g l = length l.lanes.items
