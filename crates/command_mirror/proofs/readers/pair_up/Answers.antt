use Rattle.std.proofs.Common.{◌≡◌, ◌+◌, [], ◌∷◌, ◌++◌, All, IfSome, Some, length, length-append, refl, ap, sym, subst, ◌∙◌, arith}
use Rattle.std.specs.Option.{option_to_list}
use Rattle.snapshot_reads.specs.Seen.{IsNewLook}
use Rattle.command_mirror.specs.Readers.{IsFresh, look_of}
use Rattle.command_mirror.proofs.Worked.{first_of, popped, pushed}
use Rattle.command_mirror.proofs.readers.pair_up.Goals as goal

pub loop-lane-preserved : goal.loop-lane-preserved
loop-lane-preserved g c =
    let told = g.A.Lane.told in
    let i = c.loop-lane.invariant in
    let lane = popped (λ lane. IfSome (told lane) (λ connections. connections ≡ [])) c.loop-lane.lanes.items c.pop.new.self.items c.pop.result c.in-Some.lane c.pop.ensures.items c.in-Some.is i.waiting in
    let look = popped (λ look. IsNewLook c.args.feed.now look) c.loop-lane.looks.items c.pop-in-Some.new.self.items c.pop-in-Some.result c.in-Some-pop.look c.pop-in-Some.ensures.items c.in-Some-pop.is i.looks in
    let fewer : length c.loop-lane.lanes.items ≡ length c.pop.new.self.items + 1 = ap length (c.pop.ensures.items ∙ ap (λ o. c.pop.new.self.items ++ option_to_list o) c.in-Some.is) ∙ length-append c.pop.new.self.items (c.in-Some.lane ∷ []) in
    let less : length c.loop-lane.looks.items ≡ length c.pop-in-Some.new.self.items + 1 = ap length (c.pop-in-Some.ensures.items ∙ ap (λ o. c.pop-in-Some.new.self.items ++ option_to_list o) c.in-Some-pop.is) ∙ length-append c.pop-in-Some.new.self.items (c.in-Some-pop.look ∷ []) in
    let more : length c.push_reserved.new.self.items ≡ length c.loop-lane.readers.items + 1 = ap length c.push_reserved.ensures.items ∙ length-append c.loop-lane.readers.items _ in
    let many = i.many in
    let count = i.count in
    let room = i.room in
    let capacity = c.push_reserved.ensures.capacity in
    let kept_room = i.kept_room in
    let kept_capacity = c.pop.ensures.capacity in
    record {
      looks = look.0;
      waiting = lane.0;
      many = omega arith;
      paired = pushed (λ r. IsFresh told (look_of c.args.feed.now) r.look r.lane) c.loop-lane.readers.items c.push_reserved.new.self.items _ c.push_reserved.ensures.items i.paired
          (record { has = ap Some (first_of c.args.feed.now c.in-Some-pop.look c.requires.none look.1); none_told = lane.1 });
      count = omega arith;
      room = omega arith;
      kept_room = kept_capacity ∙ kept_room;
    }
