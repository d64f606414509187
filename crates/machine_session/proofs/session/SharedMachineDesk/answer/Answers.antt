use Rattle.std.proofs.Common.{Err, refl}
use Rattle.http_session.specs.Steps.{framed}
use Rattle.http_session.proofs.Talks.{with_answer}
use Rattle.machine_session.specs.Protocols.{protocol}
use Rattle.machine_session.proofs.Asked.{lost_in_turn, told_in_turn}
use Rattle.machine_session.proofs.session.SharedMachineDesk.answer.Goals as goal

pub returns-in-Call-clause-answer : goal.returns-in-Call-clause-answer
returns-in-Call-clause-answer g c =
    let P = protocol g.M.Machine.step g.M.Machine.answer g.M.Machine.kind g.M.Machine.fallible g.V.Service.asks g.V.Service.tells g.V.Service.refuses g.V.Service.misread in
    let w = rw c.in-Call.is at (rw c.in-Ok.is at c.read_by-table.ensures) in
    told_in_turn P c.args.seat.seat c.ask-seat.result.0 (framed c.args.request.now) (g.M.Machine.said c.in-Call.call) w.1.0 c.ask-seat.result.1 w.1.1 (c.ask-seat.ensures.asked w.1.0 w.1.2)

pub returns-in-Call-clause-err : goal.returns-in-Call-clause-err
returns-in-Call-clause-err g c =
    let P = protocol g.M.Machine.step g.M.Machine.answer g.M.Machine.kind g.M.Machine.fallible g.V.Service.asks g.V.Service.tells g.V.Service.refuses g.V.Service.misread in
    let w = rw c.in-Call.is at (rw c.in-Ok.is at c.read_by-table.ensures) in
    lost_in_turn P c.args.seat.seat c.ask-seat.result.0 (framed c.args.request.now) (g.M.Machine.said c.in-Call.call) w.1.0 c.ask-seat.result.1 w.1.1 (c.ask-seat.ensures.asked w.1.0 w.1.2)

pub returns-in-Refused-clause-answer : goal.returns-in-Refused-clause-answer
returns-in-Refused-clause-answer g c =
    let w = rw c.in-Refused.is at (rw c.in-Ok.is at c.read_by-table.ensures) in
    (Err w.0, w.1, (w.2, refl))

pub returns-in-Call-clause-whole : goal.returns-in-Call-clause-whole
returns-in-Call-clause-whole g c = λ h. with_answer c.ask-seat.result.1 h
