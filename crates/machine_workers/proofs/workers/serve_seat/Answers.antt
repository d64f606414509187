use Rattle.std.proofs.Common.{sym, subst}
use Rattle.machine_session.specs.Protocols.{protocol}
use Rattle.machine_workers.specs.Workers.{HasServedSeat}
use Rattle.machine_workers.proofs.CarriedOver.{has_served_seat}
use Rattle.machine_workers.proofs.workers.serve_seat.Goals as goal

pub returns-clause-served : goal.returns-clause-served
returns-clause-served g c =
    let P = protocol g.M.Machine.step g.M.Machine.answer g.M.Machine.kind g.M.Machine.fallible g.V.Service.asks g.V.Service.tells g.V.Service.refuses g.V.Service.misread in
    let told = g.A.Lane.told c.serve_lane-sitting.new.lane in
    let served = has_served_seat P c.new-sitting.result.seat c.serve_lane-sitting.result.seat told c.serve_lane-sitting.ensures.served in
    let begun = subst (λ v. HasServedSeat P v c.serve_lane-sitting.result.seat told) c.new-sitting.ensures served in
    subst (λ w. HasServedSeat P c.args.seat w told) (sym c.into_seat.ensures) begun
