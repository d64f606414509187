use Rattle.std.proofs.Common.{◌≡◌, ◌+◌, ◌-◌, [], ◌∷◌, ◌++◌, IfSome, length, length-append, ap, sym, subst, ◌∙◌, refl, arith}
use Rattle.std.specs.Option.{option_to_list}
use Rattle.machine_session.specs.Protocols.{protocol}
use Rattle.machine_server.specs.Hired.{AreNumberedDown, IsFresh, IsHired, top_number}
use Rattle.machine_server.proofs.Hired.{halved, newly_fresh, newly_hired}
use Rattle.machine_server.proofs.Numbers.{number_pushed}
use Rattle.machine_server.proofs.Popped.{popped, pushed}
use Rattle.machine_server.proofs.hiring.hire.Goals as goal

pub split-rest-requires-clause-lock : goal.split-rest-requires-clause-lock
split-rest-requires-clause-lock g c = c.loop-lane.invariant.lock

pub split-rest-requires-clause-share : goal.split-rest-requires-clause-share
split-rest-requires-clause-share g c =
    let i = c.loop-lane.invariant in
    let weight = i.weight in
    let spare = i.spare in
    let count = i.count in
    let less : length c.loop-lane.lanes.items ≡ length c.pop.new.self.items + 1 = ap length (c.pop.ensures.items ∙ ap (λ o. c.pop.new.self.items ++ option_to_list o) c.in-Some.is) ∙ length-append c.pop.new.self.items (c.in-Some.lane ∷ []) in
    let few = c.requires.few in
    (omega arith, omega arith)

pub loop-lane-preserved : goal.loop-lane-preserved
loop-lane-preserved g c =
    let P = protocol g.M.Machine.step g.M.Machine.answer g.M.Machine.kind g.M.Machine.fallible g.V.Service.asks g.V.Service.tells g.V.Service.refuses g.V.Service.misread in
    let told = g.A.Lane.told in
    let i = c.loop-lane.invariant in
    let s = c.split-rest.ensures in
    let v = c.loop-lane.seat in
    let l = c.split-rest.result.0 in
    let r = c.split-rest.result.1 in
    let p = halved v 1 l r s in
    let one = popped (λ lane. IfSome (told lane) (λ connections. connections ≡ [])) c.loop-lane.lanes.items c.pop.new.self.items c.pop.result c.in-Some.lane c.pop.ensures.items c.in-Some.is i.waiting in
    let less : length c.loop-lane.lanes.items ≡ length c.pop.new.self.items + 1 = ap length (c.pop.ensures.items ∙ ap (λ o. c.pop.new.self.items ++ option_to_list o) c.in-Some.is) ∙ length-append c.pop.new.self.items (c.in-Some.lane ∷ []) in
    let weight : l.weight ≡ v.weight - 1 = p.weight in
    let spare : l.spare ≡ v.spare - 1 = p.spare in
    let zero = i.number in
    let fresh_number : r.number ≡ v.number + (v.spare - 1) = p.fresh_number in
    let number : r.number ≡ top_number - length c.loop-lane.hired.items = let weight = i.weight in let spare = i.spare in omega arith in
    let more : length c.push_reserved.new.self.items ≡ length c.loop-lane.hired.items + 1 = ap length c.push_reserved.ensures.items ∙ length-append c.loop-lane.hired.items _ in
    let few = c.requires.few in
    let weights = i.weight in
    let spares = i.spare in
    let count = i.count in
    let room = i.room in
    let capacity = c.push_reserved.ensures.capacity in
    let kept_room = i.kept_room in
    let kept_capacity = c.pop.ensures.capacity in
    record {
      lock = p.lock ∙ i.lock;
      weight = omega arith;
      spare = omega arith;
      first = (
        p.opening ∙ i.first.0,
        p.base ∙ i.first.1,
        p.ended ∙ i.first.2,
        p.seen ∙ i.first.3,
        p.faults ∙ i.first.4,
      );
      hired = pushed (λ w. IsHired P told c.args.seat.opening c.args.seat.base c.args.shared.now w.seat w.lane) c.loop-lane.hired.items c.push_reserved.new.self.items _ c.push_reserved.ensures.items i.hired
          (newly_hired P told c.args.seat.opening c.args.seat.base c.args.shared.now v l r _ _ s i.lock i.first.0 i.first.1 i.first.3 refl one.1);
      fresh = pushed (λ w. IsFresh told w.seat w.lane) c.loop-lane.hired.items c.push_reserved.new.self.items _ c.push_reserved.ensures.items i.fresh
          (newly_fresh P told c.args.seat.opening c.args.seat.base c.args.shared.now v l r _ _ s i.first.3 refl one.1);
      waiting = one.0;
      numbers = subst (AreNumberedDown (λ w. w.seat) top_number) (sym c.push_reserved.ensures.items) (number_pushed (λ w. w.seat) top_number c.loop-lane.hired.items _ i.numbers number);
      number = p.number ∙ i.number;
      count = omega arith;
      room = omega arith;
      kept_room = kept_capacity ∙ kept_room;
    }
