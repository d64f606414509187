use Rattle.std.proofs.Common.{◌≡◌, ◌≤◌, ◌+◌, ◌-◌, [], All, length, vec_capacity}
use Rattle.history_lock.specs.Replay.{own_entries}
use Rattle.machine_session.specs.Protocols.{protocol}
use Rattle.machine_server.specs.Hired.{AreNumberedDown, HasDismissed, IsHired, top_number}
use Rattle.machine_server.proofs.hiring.dismiss.Given as goal

abbrev pub invariant-loop-worker : goal.invariant-loop-worker
invariant-loop-worker g l =
    record {
      lock : l.seat.lock ≡ l.shared;
      weight : l.seat.weight + length l.left.items ≡ 65536;
      same : (l.seat.opening ≡ l.fn.seat.opening) × (l.seat.base ≡ l.fn.seat.base) × (l.seat.number ≡ l.fn.seat.number);
      no_calls : own_entries l.seat.number l.seat.seen ≡ [];
      hired : All (λ w. IsHired (protocol g.M.Machine.step g.M.Machine.answer g.M.Machine.kind g.M.Machine.fallible g.V.Service.asks g.V.Service.tells g.V.Service.refuses g.V.Service.misread) g.A.Lane.told l.fn.seat.opening l.fn.seat.base l.shared w.seat w.lane) l.left.items;
      numbers : AreNumberedDown (λ w. w.seat) top_number l.left.items;
      dismissed : HasDismissed (protocol g.M.Machine.step g.M.Machine.answer g.M.Machine.kind g.M.Machine.fallible g.V.Service.asks g.V.Service.tells g.V.Service.refuses g.V.Service.misread) g.A.Lane.told g.A.Lane.accepts (All (λ w. g.A.Lane.accepts w.lane ≡ 0) l.fn.hired.items) (top_number + 1 - length l.fn.hired.items) l.fn.seat.opening l.seat l.lanes.items;
      spent : All (λ w. g.A.Lane.accepts w.lane ≡ 0) l.fn.hired.items → All (λ w. g.A.Lane.accepts w.lane ≡ 0) l.left.items;
      count : length l.lanes.items + length l.left.items ≡ length l.fn.hired.items;
      room : length l.fn.hired.items ≤ vec_capacity l.lanes;
    }

abbrev pub decreases-loop-worker : goal.decreases-loop-worker
decreases-loop-worker g l = length l.left.items
