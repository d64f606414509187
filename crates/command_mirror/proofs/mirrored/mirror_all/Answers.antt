use Rattle.std.proofs.Common.{rules, ◌≡◌, ◌∙◌, All, Some, length, map, refl, sym, ap, subst, arith}
use Rattle.http_lanes.specs.Listened.{returned_as}
use Rattle.snapshot_rows.specs.Lists.{Lists}
use Rattle.command_mirror.specs.Readers.{AreReadLanes, IsRead, IsReady, look_of}
use Rattle.command_mirror.proofs.Beside.{operated_as, same_look}
use Rattle.command_mirror.proofs.Worked.{all_fresh, all_from, all_over, all_read, all_ready}
use Rattle.command_mirror.proofs.mirrored.mirror_all.Goals as goal

pub mirror-requires-clause-held : goal.mirror-requires-clause-held
mirror-requires-clause-held g c κs within = record { now = _; has = refl; shown = c.requires.shown }

pub mirror-requires-clause-ready : goal.mirror-requires-clause-ready
mirror-requires-clause-ready g c κs within =
    subst (All (λ r. IsReady g.A.Lane.told r.look r.lane)) (sym c.as_mut_slice.ensures.value)
    (all_ready g.A.Lane.told (look_of c.args.feed) (λ r. r.look) (λ r. r.lane) _ c.pair_up.ensures.fresh)

pub unreachable-requires : goal.unreachable-requires
unreachable-requires g c = absurd (cc (sym c.mirror.ensures.operated.has ∙ c.in_default.is))

-- the readers behind their work, whose looks are of the feed as it is then
pub dismiss-requires-clause-read : goal.dismiss-requires-clause-read
dismiss-requires-clause-read g c κs within =
    let told = g.A.Lane.told in
    let accepts = g.A.Lane.accepts in
    let o = operated_as _ _ _ (λ o. o.register) (λ o. o.feed) (λ o. o.is_whole) (λ o. o.end) _ _ _ c.in-Some.operated _ _ _ _ _ _ _ _ _ _ refl c.in-Some.is c.mirror.ensures.operated in
    let read = all_read told (look_of c.args.feed) (λ r. r.look) (λ r. r.lane) accepts g.A.Lane.faults c.as_mut_slice.result.now c.mirror.new.readers c.mirror.ensures.all c.mirror.ensures.read
    (all_fresh told (look_of c.args.feed) (λ r. r.look) (λ r. r.lane) _ _ c.as_mut_slice.ensures.value c.pair_up.ensures.fresh) in
    all_from told accepts (λ r. r.look) (λ r. r.lane) _ _ _ (same_look c.args.feed c.in-Some.operated.feed o.same)
    (all_over told accepts (λ r. r.look) (λ r. r.lane) (look_of c.args.feed) c.mirror.new.readers _ _ (search rules) read)

pub returns-clause-mirrored : goal.returns-clause-mirrored
returns-clause-mirrored g c =
    let o = operated_as _ _ _ (λ o. o.register) (λ o. o.feed) (λ o. o.is_whole) (λ o. o.end) _ _ _ c.in-Some.operated _ _ _ _ _ _ _ _ _ _ refl c.in-Some.is c.mirror.ensures.operated in
    let feed = c.in-Some.operated.feed in
    record {
      session = o.session;
      published = feed.published;
      follows = o.kept.follows.changes;
      all = λ yes. (o.kept.shown yes).count;
      lacks = o.kept.lacks;
      memory = o.memory;
      read = subst (λ opening. AreReadLanes opening feed.published (map (returned_as g.A.Lane.told g.A.Lane.accepts) c.dismiss.new.lanes.items)) o.kept.follows.opening c.dismiss.ensures.read;
      cause = o.cause;
    }
