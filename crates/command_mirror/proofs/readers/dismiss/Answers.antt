use Rattle.std.proofs.Common.{rules, ◌≡◌, ◌+◌, List, [], ◌∷◌, ◌++◌, length, length-append, map, refl, ap, sym, subst, ◌∙◌, arith}
use Rattle.std.specs.Option.{option_to_list}
use Rattle.http_lanes.specs.Listened.{returned_as}
use Rattle.command_mirror.specs.Readers.{AreReadLanes, IsRead, look_of}
use Rattle.command_mirror.proofs.Worked.{has_look, last_look, look_is_of, one_back, popped}
use Rattle.command_mirror.proofs.readers.dismiss.Goals as goal

pub loop-reader-init : goal.loop-reader-init
loop-reader-init g c =
    let none = c.requires.none_yet in
    let none_long : length c.args.lanes.now.items ≡ 0 = ap length none in
    record {
      read = c.requires.read;
      done = subst (λ lanes. AreReadLanes c.args.feed.now.opening c.args.feed.now.published (map (returned_as g.A.Lane.told g.A.Lane.accepts) lanes)) (sym none) (λ k d lt. absurd (omega arith));
      count = omega arith;
      room = search rules;
    }

pub unreachable-requires : goal.unreachable-requires
unreachable-requires g c =
    let p = popped (λ r. IsRead g.A.Lane.told g.A.Lane.accepts (look_of c.args.feed.now) r.look r.lane) c.loop-reader.left.items c.pop.new.self.items c.pop.result c.in-Some.reader c.pop.ensures.items c.in-Some.is c.loop-reader.invariant.read in
    has_look g.A.Lane.told (look_of c.args.feed.now) g.A.Lane.accepts _ _ p.1 c.in_default-look.is

pub follow-requires : goal.follow-requires
follow-requires g c =
    let p = popped (λ r. IsRead g.A.Lane.told g.A.Lane.accepts (look_of c.args.feed.now) r.look r.lane) c.loop-reader.left.items c.pop.new.self.items c.pop.result c.in-Some.reader c.pop.ensures.items c.in-Some.is c.loop-reader.invariant.read in
    record { own = look_is_of _ c.args.feed.now c.in-Some-look.look (last_look g.A.Lane.told (look_of c.args.feed.now) g.A.Lane.accepts _ _ _ p.1 c.in-Some-look.is) }

pub loop-reader-preserved : goal.loop-reader-preserved
loop-reader-preserved g c =
    let told = g.A.Lane.told in
    let accepts = g.A.Lane.accepts in
    let i = c.loop-reader.invariant in
    let p = popped (λ r. IsRead told accepts (look_of c.args.feed.now) r.look r.lane) c.loop-reader.left.items c.pop.new.self.items c.pop.result c.in-Some.reader c.pop.ensures.items c.in-Some.is i.read in
    let served = last_look told (look_of c.args.feed.now) accepts _ _ c.in-Some-look.look p.1 c.in-Some-look.is in
    let less : length c.loop-reader.left.items ≡ length c.pop.new.self.items + 1 = ap length (c.pop.ensures.items ∙ ap (λ o. c.pop.new.self.items ++ option_to_list o) c.in-Some.is) ∙ length-append c.pop.new.self.items (c.in-Some.reader ∷ []) in
    let more : length c.push_reserved.new.self.items ≡ length c.loop-reader.lanes.items + 1 = ap length c.push_reserved.ensures.items ∙ length-append c.loop-reader.lanes.items _ in
    let count = i.count in
    let room = i.room in
    let capacity = c.push_reserved.ensures.capacity in
    record {
      read = p.0;
      done = one_back told accepts c.args.feed.now c.loop-reader.lanes.items c.push_reserved.new.self.items c.in-Some.reader.lane c.in-Some-look.look
          c.push_reserved.ensures.items served p.1.none_left c.follow.ensures.within i.done;
      count = omega arith;
      room = omega arith;
    }
