use Rattle.std.proofs.Common.{ap, sym}
use Rattle.machine_session.specs.Protocols.{protocol}
use Rattle.machine_session.specs.Owned.{answers_alone, owned}
use Rattle.machine_session.proofs.Certainly.{own_returned, own_session}
use Rattle.machine_session.proofs.Tagged.{tag_stays, untagged}
use Rattle.machine_session.proofs.own.serve_own_by.Goals as goal

pub returns-in-Ok-clause-session : goal.returns-in-Ok-clause-session
returns-in-Ok-clause-session g c =
    let P = protocol g.M.Machine.step g.M.Machine.answer g.M.Machine.kind g.M.Machine.fallible g.V.Service.asks g.V.Service.tells g.V.Service.refuses g.V.Service.misread in
    let served = own_session P g.So.Source.reads _ _ _ _ _ _ _ _ _ (untagged (answers_alone P) g.So.Source.reads _ _ _ _ _ _ _ _ _ c.serve-seat.ensures.session) in
    let opened = rw (rw c.in-Ok.is at c.new.ensures.ok) at served in
    rw (sym c.into_inner-machine.ensures) at opened

pub returns-in-Ok-clause-tag : goal.returns-in-Ok-clause-tag
returns-in-Ok-clause-tag g c =
    let P = protocol g.M.Machine.step g.M.Machine.answer g.M.Machine.kind g.M.Machine.fallible g.V.Service.asks g.V.Service.tells g.V.Service.refuses g.V.Service.misread in
    tag_stays (answers_alone P) g.So.Source.reads _ _ _ _ _ _ _ _ _ c.serve-seat.ensures.session

pub returns-in-Err-clause-session : goal.returns-in-Err-clause-session
returns-in-Err-clause-session g c =
    let M = g.M.Machine in
    let P = protocol M.step M.answer M.kind M.fallible g.V.Service.asks g.V.Service.tells g.V.Service.refuses g.V.Service.misread in
    own_returned P g.So.Source.reads _ _ c.args.source.now (g.So.Source.left c.args.source.now) (g.Si.Sink.written c.args.sink.now)
    (ap (λ (m : g.row.M.Denot). owned (M.opening m) (M.log m) (M.faults m)) (rw c.in-Err.is at c.new.ensures.value_returned))
