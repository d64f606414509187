use Rattle.machine_session.specs.Protocols.{protocol}
use Rattle.machine_session.specs.Owned.{owned}
use Rattle.machine_session.proofs.Certainly.{own_starved}
use Rattle.machine_session.proofs.own.serve_own.Goals as goal

pub returns-in-Err-clause-session : goal.returns-in-Err-clause-session
returns-in-Err-clause-session g c =
    let P = protocol g.M.Machine.step g.M.Machine.answer g.M.Machine.kind g.M.Machine.fallible g.V.Service.asks g.V.Service.tells g.V.Service.refuses g.V.Service.misread in
    own_starved P g.So.Source.reads (owned (g.M.Machine.opening c.args.machine) (g.M.Machine.log c.args.machine) (g.M.Machine.faults c.args.machine)) c.args.source.now (g.So.Source.left c.args.source.now) (g.Si.Sink.written c.args.sink.now)
