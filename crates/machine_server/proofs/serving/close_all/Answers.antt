use Rattle.std.proofs.Common.{◌+◌, ℕ, subst}
use Rattle.history_lock.specs.Machines.{Reaches}
use Rattle.machine_session.specs.Protocols.{protocol}
use Rattle.machine_server.proofs.Closed.{closed_history, replayed}
use Rattle.machine_server.proofs.serving.close_all.Goals as goal

pub returns-clause-history : goal.returns-clause-history
returns-clause-history g c =
    let P = protocol g.M.Machine.step g.M.Machine.answer g.M.Machine.kind g.M.Machine.fallible g.V.Service.asks g.V.Service.tells g.V.Service.refuses g.V.Service.misread in
    let d = c.dismiss-seat.ensures.dismissed in
    let e = c.close.ensures in
    let v = c.dismiss-seat.result in
    record {
      shifts = d.shifts;
      back = _;
      returned = c.give_back_lanes-heard.ensures.returned;
      lanes = d.tell;
      one_history = closed_history P c.args.seat.opening v _ d.shifts _ d.numbers e.log_is_seen d.ended c.dismiss-seat.ensures.no_calls d.answered e.entries_have_seats e.ended_entries_are_kept;
      faults = subst (λ (n : ℕ). Reaches n (g.M.Machine.faults c.close.result)) (λ i. c.dismiss-seat.ensures.seat.3 i + d.faults i) e.faults_are_counted;
      spent = d.spent;
    }

pub returns-clause-state : goal.returns-clause-state
returns-clause-state g c =
    let e = c.close.ensures in
    replayed g.M.Machine.step _ _ _ _ _ e.state_is_replay c.dismiss-seat.ensures.seat.2 e.log_is_seen
