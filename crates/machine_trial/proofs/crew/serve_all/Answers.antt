use Rattle.std.proofs.Common.{rules, All, ap, sym, subst}
use Rattle.history_lock.specs.Replay.{own_entries}
use Rattle.machine_workers.specs.Workers.{IsReady}
use Rattle.machine_server.specs.Hired.{AreFresh, AreHired}
use Rattle.machine_server.proofs.Popped.{over}
use Rattle.machine_server.proofs.Worked.{crew_ready, crew_worked}
use Rattle.machine_trial.specs.Tallies.{tally_protocol}
use Rattle.machine_trial.proofs.crew.serve_all.Goals as goal

pub serve_workers-requires-clause-ready : goal.serve_workers-requires-clause-ready
serve_workers-requires-clause-ready g c κs within =
    subst (All (λ w. IsReady g.L.Door.Lane.told c.args.shared w.seat w.lane)) (sym c.as_mut_slice.ensures.value)
    (crew_ready tally_protocol g.L.Door.Lane.told _ _ c.args.shared (λ w. w.seat) (λ w. w.lane) _ c.open_all-seat.ensures.crew)

pub close_all-tally-requires-clause-crew : goal.close_all-tally-requires-clause-crew
close_all-tally-requires-clause-crew g c κs within =
    let v = c.open_all-seat.result.0 in
    let fresh = subst (AreFresh tally_protocol g.L.Door.Lane.told v.opening v.base c.args.shared (λ w. w.seat) (λ w. w.lane)) (sym c.as_mut_slice.ensures.value) c.open_all-seat.ensures.crew in
    let hired = crew_worked tally_protocol g.L.Door.Lane.told v.opening v.base c.args.shared (λ w. w.seat) (λ w. w.lane) g.L.Door.Lane.accepts g.L.Door.Lane.faults _ _ c.serve_workers.ensures.all c.serve_workers.ensures.worked fresh in
    over (AreHired tally_protocol g.L.Door.Lane.told v.opening v.base c.args.shared (λ w. w.seat) (λ w. w.lane)) c.serve_workers.new.workers _ _ (search rules) hired

pub close_all-tally-requires-clause-first : goal.close_all-tally-requires-clause-first
close_all-tally-requires-clause-first g c κs within =
    let f = c.open_all-seat.ensures.first in
    (f.2, ap (own_entries c.open_all-seat.result.0.number) f.3, f.4)
