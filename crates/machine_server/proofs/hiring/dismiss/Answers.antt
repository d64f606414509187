use Rattle.std.proofs.Common.{rules, ◌≡◌, ◌+◌, ◌-◌, ℕ, [], ◌∷◌, ◌++◌, length, length-append, sym, ap, subst, ◌∙◌, refl, arith}
use Rattle.std.specs.Option.{option_to_list}
use Rattle.history_lock.specs.Replay.{own_entries}
use Rattle.machine_session.specs.Protocols.{protocol}
use Rattle.machine_server.specs.Hired.{HasDismissed, IsHired, top_number}
use Rattle.machine_server.proofs.Dismissed.{hired_has, hired_seat, none_dismissed, worker_dismissed}
use Rattle.machine_server.proofs.Numbers.{number_popped, seat_number}
use Rattle.machine_server.proofs.Popped.{popped}
use Rattle.machine_server.proofs.hiring.dismiss.Goals as goal

pub loop-worker-init : goal.loop-worker-init
loop-worker-init g c =
    let P = protocol g.M.Machine.step g.M.Machine.answer g.M.Machine.kind g.M.Machine.fallible g.V.Service.asks g.V.Service.tells g.V.Service.refuses g.V.Service.misread in
    let r = c.requires in
    let none = r.none_yet in
    let none_long : length c.args.lanes.now.items ≡ 0 = ap length none in
    record {
      lock = r.seat.0;
      weight = search rules;
      same = (refl, refl, refl);
      no_calls = r.first.1;
      hired = r.hired;
      numbers = r.numbers;
      dismissed = subst (HasDismissed P g.A.Lane.told g.A.Lane.accepts _ _ c.args.seat.opening c.args.seat) (sym none) (none_dismissed P g.A.Lane.told g.A.Lane.accepts _ _ c.args.seat.opening c.args.seat r.first.0 r.first.2);
      spent = λ n. n;
      count = omega arith;
      room = search rules;
    }

pub unreachable-requires : goal.unreachable-requires
unreachable-requires g c =
    let P = protocol g.M.Machine.step g.M.Machine.answer g.M.Machine.kind g.M.Machine.fallible g.V.Service.asks g.V.Service.tells g.V.Service.refuses g.V.Service.misread in
    let i = c.loop-worker.invariant in
    let p = popped (λ w. IsHired P g.A.Lane.told c.args.seat.opening c.args.seat.base c.args.shared.now w.seat w.lane) c.loop-worker.left.items c.pop.new.self.items c.pop.result c.in-Some.worker c.pop.ensures.items c.in-Some.is i.hired in
    hired_has P g.A.Lane.told g.A.Lane.accepts _ _ _ _ _ p.1 c.in_default-other.is

pub join-seat-requires : goal.join-seat-requires
join-seat-requires g c =
    let P = protocol g.M.Machine.step g.M.Machine.answer g.M.Machine.kind g.M.Machine.fallible g.V.Service.asks g.V.Service.tells g.V.Service.refuses g.V.Service.misread in
    let i = c.loop-worker.invariant in
    let p = popped (λ w. IsHired P g.A.Lane.told c.args.seat.opening c.args.seat.base c.args.shared.now w.seat w.lane) c.loop-worker.left.items c.pop.new.self.items c.pop.result c.in-Some.worker c.pop.ensures.items c.in-Some.is i.hired in
    let s = hired_seat P g.A.Lane.told g.A.Lane.accepts _ _ _ _ _ c.in-Some-other.other p.1 c.in-Some-other.is in
    record { lock = (i.lock, s.0) }

pub loop-worker-preserved : goal.loop-worker-preserved
loop-worker-preserved g c =
    let P = protocol g.M.Machine.step g.M.Machine.answer g.M.Machine.kind g.M.Machine.fallible g.V.Service.asks g.V.Service.tells g.V.Service.refuses g.V.Service.misread in
    let told = g.A.Lane.told in
    let i = c.loop-worker.invariant in
    let j = c.join-seat.ensures in
    let r = c.join-seat.result in
    let p = popped (λ w. IsHired P told c.args.seat.opening c.args.seat.base c.args.shared.now w.seat w.lane) c.loop-worker.left.items c.pop.new.self.items c.pop.result c.in-Some.worker c.pop.ensures.items c.in-Some.is i.hired in
    let s = hired_seat P told g.A.Lane.accepts _ _ _ _ _ c.in-Some-other.other p.1 c.in-Some-other.is in
    let n = number_popped (λ w. w.seat) top_number c.loop-worker.left.items c.pop.new.self.items c.pop.result c.in-Some.worker c.pop.ensures.items c.in-Some.is i.numbers in
    let less : length c.loop-worker.left.items ≡ length c.pop.new.self.items + 1 = ap length (c.pop.ensures.items ∙ ap (λ o. c.pop.new.self.items ++ option_to_list o) c.in-Some.is) ∙ length-append c.pop.new.self.items (c.in-Some.worker ∷ []) in
    let more : length c.push_reserved.new.self.items ≡ length c.loop-worker.lanes.items + 1 = ap length c.push_reserved.ensures.items ∙ length-append c.loop-worker.lanes.items _ in
    let sums = j.sums.0 in
    let one = s.1 in
    let weight = i.weight in
    let counted = i.count in
    let mine = seat_number c.in-Some.worker.seat c.in-Some-other.other _ c.in-Some-other.is n.1 in
    let many = i.dismissed.many in
    let number : c.in-Some-other.other.number ≡ (top_number + 1 - length c.args.hired.items) + length i.dismissed.shifts = omega arith in
    let room = i.room in
    let capacity = c.push_reserved.ensures.capacity in
    record {
      lock = j.left_stays.0 ∙ i.lock;
      weight = omega arith;
      same = (j.left_stays.3 ∙ i.same.0, j.left_stays.4 ∙ i.same.1, j.left_stays.1 ∙ i.same.2);
      no_calls = ap (λ (n : ℕ). own_entries n r.seen) j.left_stays.1 ∙ (j.left_entries_stay ∙ i.no_calls);
      hired = p.0;
      numbers = n.0;
      dismissed = worker_dismissed P told g.A.Lane.accepts _ _ _ _ c.args.seat.opening c.loop-worker.seat c.in-Some-other.other r c.in-Some.worker.seat c.in-Some.worker.lane _ _ i.dismissed number p.1 c.in-Some-other.is j c.push_reserved.ensures.items
          (λ n. (popped (λ w. g.A.Lane.accepts w.lane ≡ 0) c.loop-worker.left.items c.pop.new.self.items c.pop.result c.in-Some.worker c.pop.ensures.items c.in-Some.is (i.spent n)).1);
      spent = λ n. (popped (λ w. g.A.Lane.accepts w.lane ≡ 0) c.loop-worker.left.items c.pop.new.self.items c.pop.result c.in-Some.worker c.pop.ensures.items c.in-Some.is (i.spent n)).0;
      count = omega arith;
      room = omega arith;
    }
