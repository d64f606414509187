use Rattle.std.proofs.Common.{sym, ◌∙◌}
use Rattle.machine_session.specs.Protocols.{protocol}
use Rattle.machine_session.specs.Owned.{owned}
use Rattle.machine_session.proofs.OwnCalls.{acted, kept_behind, own_call}
use Rattle.machine_session.proofs.own.act.Goals as goal

pub follow-follower-requires-clause-kept : goal.follow-follower-requires-clause-kept
follow-follower-requires-clause-kept g c =
    let M = g.M.Machine in
    let before = c.args.machine.now in
    let after = c.act-reply.new.self in
    kept_behind M.opening M.state M.log M.faults M.step M.fallible (g.F.Follower.keeps c.args.follower) before after (M.said c.args.call) (M.answer c.act-reply.result) (M.kind c.act-reply.result) c.act-reply.ensures
    (λ same. c.if-entries-place.false (c.entries.ensures.count.0 ∙ (same ∙ sym c.entries-place.ensures.count.0))) c.requires.kept

pub returns-in-Ok-clause-acted : goal.returns-in-Ok-clause-acted
returns-in-Ok-clause-acted g c = λ shown shows.
    let M = g.M.Machine in
    let P = protocol M.step M.answer M.kind M.fallible g.V.Service.asks g.V.Service.tells g.V.Service.refuses g.V.Service.misread in
    let before = c.args.machine.now in
    let after = c.act-reply.new.self in
    acted P (owned (M.opening before) (M.log before) (M.faults before)) (owned (M.opening after) (M.log after) (M.faults after)) (M.said c.args.call) shown c.act-reply.result c.entries-place.result c.write-answer.result
    (own_call M.opening M.state M.log M.faults M.step M.fallible before after (M.said c.args.call) (M.answer c.act-reply.result) (M.kind c.act-reply.result) c.entries-place.ensures.replayed c.act-reply.ensures)
    c.entries-place.ensures.count.0 (c.write-answer.ensures (M.said c.args.call) shown shows)

pub returns-in-Err-clause-acted : goal.returns-in-Err-clause-acted
returns-in-Err-clause-acted g c = λ shown shows.
    let M = g.M.Machine in
    let before = c.args.machine.now in
    let after = c.act-reply.new.self in (
      c.act-reply.result,
      own_call M.opening M.state M.log M.faults M.step M.fallible before after (M.said c.args.call) (M.answer c.act-reply.result) (M.kind c.act-reply.result) c.entries-place.ensures.replayed c.act-reply.ensures,
      tt,
    )
