use Rattle.std.proofs.Common.{sym}
use Rattle.machine_session.specs.Protocols.{protocol}
use Rattle.machine_server.proofs.Worked.{crew_moved}
use Rattle.machine_server.proofs.serving.open_all.Goals as goal

pub returns-clause-crew : goal.returns-clause-crew
returns-clause-crew g c =
    let P = protocol g.M.Machine.step g.M.Machine.answer g.M.Machine.kind g.M.Machine.fallible g.V.Service.asks g.V.Service.tells g.V.Service.refuses g.V.Service.misread in
    let e = c.hire-seat.ensures in
    crew_moved P g.L.Door.Lane.told c.args.seat.opening c.args.seat.base _ (λ w. w.seat) (λ w. w.lane) _ _ _ (sym e.first.0) (sym e.first.1)
    (record { hired = record { hired = e.hired; numbers = e.numbers }; fresh = e.fresh })
