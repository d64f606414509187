use Rattle.std.proofs.Common.{Err, refl}
use Rattle.http_session.specs.Steps.{framed}
use Rattle.machine_session.specs.Protocols.{protocol}
use Rattle.machine_session.specs.Owned.{answers_alone}
use Rattle.machine_session.proofs.OwnCalls.{lost_alone, told_alone}
use Rattle.machine_session.proofs.Tagged.{lost_tagged, told_tagged}
use Rattle.machine_session.proofs.own.OwnMachineDesk.answer.Goals as goal

pub returns-in-Call-clause-answer : goal.returns-in-Call-clause-answer
returns-in-Call-clause-answer g c =
    let P = protocol g.M.Machine.step g.M.Machine.answer g.M.Machine.kind g.M.Machine.fallible g.V.Service.asks g.V.Service.tells g.V.Service.refuses g.V.Service.misread in
    let w = rw c.in-Call.is at c.in-Ok.ensures in
    rw c.as_mut.ensures.value at (told_tagged (answers_alone P) _ _ _ _ (framed c.args.request.now) c.act-follower.result.1 c.act-follower.ensures.tag
    (told_alone P _ _ (framed c.args.request.now) (g.M.Machine.said c.in-Call.call) w.1.0 c.act-follower.result.1 w.1.1 (c.act-follower.ensures.acted w.1.0 w.1.2)))

pub returns-in-Call-clause-err : goal.returns-in-Call-clause-err
returns-in-Call-clause-err g c =
    let P = protocol g.M.Machine.step g.M.Machine.answer g.M.Machine.kind g.M.Machine.fallible g.V.Service.asks g.V.Service.tells g.V.Service.refuses g.V.Service.misread in
    let w = rw c.in-Call.is at c.in-Ok.ensures in
    rw c.as_mut.ensures.value at (lost_tagged (answers_alone P) _ _ _ _ (framed c.args.request.now) c.act-follower.result.1 c.act-follower.ensures.tag
    (lost_alone P _ _ (framed c.args.request.now) (g.M.Machine.said c.in-Call.call) w.1.0 c.act-follower.result.1 w.1.1 (c.act-follower.ensures.acted w.1.0 w.1.2)))

pub returns-in-Refused-clause-answer : goal.returns-in-Refused-clause-answer
returns-in-Refused-clause-answer g c =
    let w = rw c.in-Refused.is at c.in-Ok.ensures in
    ((Err w.0, w.1, (w.2, refl)), refl)
