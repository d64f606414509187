use Rattle.machine_session.specs.Protocols.{protocol}
use Rattle.machine_session.proofs.Talks.{in_turn_is_later, in_turn_is_talk}
use Rattle.machine_session.proofs.Plainly.{in_turn_is_plain}
use Rattle.machine_session.proofs.session.serve_session.Goals as goal

pub returns-clause-session : goal.returns-clause-session
returns-clause-session g c =
    let P = protocol g.M.Machine.step g.M.Machine.answer g.M.Machine.kind g.M.Machine.fallible g.V.Service.asks g.V.Service.tells g.V.Service.refuses g.V.Service.misread in
    let t = c.serve-sitting.ensures.session in
    let v = c.args.seat in
    let w = c.serve-sitting.result.0.seat in
    let old = g.Si.Sink.written c.args.sink.now in
    let new = g.Si.Sink.written c.serve-sitting.new.sink in
    let left = g.So.Source.left c.serve-sitting.new.source in
    let how = c.serve-sitting.result.1 in
    record {
      bytes = t.bytes;
      grown = t.grown;
      needed = t.needed;
      last = t.last;
      last_is = t.last_is;
      reads = t.reads;
      later = in_turn_is_later P v w old new t.bytes left how t.ends;
      talk = in_turn_is_talk P v w old new t.bytes left how t.ends;
      alone = λ whole. in_turn_is_plain P v w old new t.bytes left how whole t.ends;
    }
