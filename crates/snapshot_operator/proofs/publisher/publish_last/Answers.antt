use Rattle.std.proofs.Common.{rules, ◌≡◌, ◌∙◌, Err, length, map, refl, subst, arith}
use Rattle.register_core.specs.Kept.{IsLastUpdate}
use Rattle.register_core.specs.Machines.{pair_of}
use Rattle.snapshot_operator.proofs.Shown.{followed_more, last_lists, longer, published_last}
use Rattle.snapshot_operator.proofs.publisher.publish_last.Goals as goal

pub publish-requires-clause-live : goal.publish-requires-clause-live
publish-requires-clause-live g c = c.requires.3.live

pub publish-requires-clause-few : goal.publish-requires-clause-few
publish-requires-clause-few g c =
    let count = c.requires.3.count in
    let grown = longer c.requires.0 (map pair_of c.args.register.now.log) c.requires.1 c.requires.2 in
    let entries = c.entries-entries.ensures.count.0 in
    let few = c.entries-entries.ensures.count.1 in
    omega arith

pub returns-in-Some-clause-follows : goal.returns-in-Some-clause-follows
returns-in-Some-clause-follows g c =
    let r = c.requires in
    let kept = c.args.register.now in
    (published_last kept.opening r.0 (map pair_of kept.log) r.1 c.in-Some.update.now c.args.feed.now c.publish.new.feed c.publish.result r.3 r.2
    (last_lists kept.opening kept.state kept.log r.0 r.1 r.2 c.in-Some.update.now c.replayed.ensures (rw c.in-Some.is at c.last_update.ensures))
    c.publish.ensures.same.1 c.publish.ensures.live c.publish.ensures.published c.publish.ensures.err).0

pub returns-in-Some-clause-shown : goal.returns-in-Some-clause-shown
returns-in-Some-clause-shown g c =
    let r = c.requires in
    let kept = c.args.register.now in
    (published_last kept.opening r.0 (map pair_of kept.log) r.1 c.in-Some.update.now c.args.feed.now c.publish.new.feed c.publish.result r.3 r.2
    (last_lists kept.opening kept.state kept.log r.0 r.1 r.2 c.in-Some.update.now c.replayed.ensures (rw c.in-Some.is at c.last_update.ensures))
    c.publish.ensures.same.1 c.publish.ensures.live c.publish.ensures.published c.publish.ensures.err).1

pub returns-in-Some-clause-lacks : goal.returns-in-Some-clause-lacks
returns-in-Some-clause-lacks g c =
    let r = c.requires in
    let kept = c.args.register.now in
    (published_last kept.opening r.0 (map pair_of kept.log) r.1 c.in-Some.update.now c.args.feed.now c.publish.new.feed c.publish.result r.3 r.2
    (last_lists kept.opening kept.state kept.log r.0 r.1 r.2 c.in-Some.update.now c.replayed.ensures (rw c.in-Some.is at c.last_update.ensures))
    c.publish.ensures.same.1 c.publish.ensures.live c.publish.ensures.published c.publish.ensures.err).2

pub returns-in-None-clause-follows : goal.returns-in-None-clause-follows
returns-in-None-clause-follows g c =
    let r = c.requires in
    followed_more c.args.register.now.opening r.0 (map pair_of c.args.register.now.log) r.1 c.args.feed.now c.args.feed.now r.3.follows r.2 refl refl

pub returns-in-None-clause-lacks : goal.returns-in-None-clause-lacks
returns-in-None-clause-lacks g c =
    let count = c.requires.3.count in
    let grown = longer c.requires.0 (map pair_of c.args.register.now.log) c.requires.1 c.requires.2 in
    omega arith
