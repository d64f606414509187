use Rattle.std.proofs.Common.{rules, ◌≡◌, ◌∙◌, map, false, is_ok, refl}
use Rattle.register_core.specs.Machines.{pair_of}
use Rattle.snapshot_operator.proofs.Shown.{kept_on, lacks_on}
use Rattle.snapshot_operator.proofs.publisher.PublisherFollowerRegister.follow.Goals as goal

pub returns-then-not-is_whole-clause-kept : goal.returns-then-not-is_whole-clause-kept
returns-then-not-is_whole-clause-kept g c =
    let r = c.requires.kept in
    lacks_on c.args.machine.now.opening r.0 (map pair_of c.args.machine.now.log) r.1 c.args.self.feed c.args.self.is_whole (search rules) r.3 r.2

pub publish_last-published-requires : goal.publish_last-published-requires
publish_last-published-requires g c =
    let r = c.requires.kept in
    (r.0, r.1, r.2, r.3.shown (search rules))

pub returns-clause-kept : goal.returns-clause-kept
returns-clause-kept g c =
    kept_on c.args.machine.now.opening (map pair_of c.args.machine.now.log) c.publish_last-published.new.feed c.publish_last-published.result c.is_ok-is_whole.result c.is_ok-is_whole.ensures.value
    c.publish_last-published.ensures.follows c.publish_last-published.ensures.shown c.publish_last-published.ensures.lacks
