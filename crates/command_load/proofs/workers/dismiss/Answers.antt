use Rattle.std.proofs.Common.{rules, ◌≡◌, ◌+◌, ◌-◌, [], ◌∷◌, ◌++◌, length, length-append, append-nil, ap, subst, ◌∙◌, refl, arith}
use Rattle.std.specs.Option.{option_to_list}
use Rattle.history_lock.specs.Replay.{own_entries}
use Rattle.command_load.specs.Dismissed.{HasDismissed}
use Rattle.command_load.specs.Hired.{IsDone, top_number}
use Rattle.command_load.proofs.Hired.{seat_number}
use Rattle.command_load.proofs.Dismissed.{done_has, done_seat, none_dismissed, number_popped, popped, prefix_trans, shares_popped, worker_dismissed}
use Rattle.command_load.proofs.workers.dismiss.Goals as goal

pub unreachable-requires : goal.unreachable-requires
unreachable-requires g c =
    let i = c.loop-claimer.invariant in
    let p = popped (IsDone c.args.shared.now) c.loop-claimer.left.items c.pop.new.self.items c.pop.result c.in-Some.claimer c.pop.ensures.items c.in-Some.is i.done in
    done_has _ _ p.1 c.in_default-other.is

pub join-seat-requires : goal.join-seat-requires
join-seat-requires g c =
    let i = c.loop-claimer.invariant in
    let p = popped (IsDone c.args.shared.now) c.loop-claimer.left.items c.pop.new.self.items c.pop.result c.in-Some.claimer c.pop.ensures.items c.in-Some.is i.done in
    let s = done_seat _ _ c.in-Some-other.other p.1 c.in-Some-other.is in
    record { lock = (i.lock, s.0) }

pub and-all-requires : goal.and-all-requires
and-all-requires g c =
    let i = c.loop-claimer.invariant in
    let p = popped (IsDone c.args.shared.now) c.loop-claimer.left.items c.pop.new.self.items c.pop.result c.in-Some.claimer c.pop.ensures.items c.in-Some.is i.done in
    let shares = shares_popped c.loop-claimer.left.items c.pop.new.self.items c.pop.result c.in-Some.claimer c.pop.ensures.items c.in-Some.is in
    let got = p.1.few in
    let few = i.few in
    let all = c.requires.few in
    omega arith

pub loop-claimer-init : goal.loop-claimer-init
loop-claimer-init g c =
    let r = c.requires in
    let none = c.none-all.ensures in
    let zero = none.0 in
    record {
      lock = r.seat.0;
      weight = search rules;
      same = (refl, refl);
      own = refl;
      seen = ([], append-nil c.args.seat.seen);
      done = r.done;
      numbers = r.numbers;
      less = omega arith;
      dismissed = none_dismissed _ _ c.args.seat c.none-all.result r.first none (omega arith);
      few = omega arith;
      exact = λ e. omega arith;
    }

pub loop-claimer-preserved : goal.loop-claimer-preserved
loop-claimer-preserved g c =
    let i = c.loop-claimer.invariant in
    let j = c.join-seat.ensures in
    let r = c.join-seat.result in
    let v = c.loop-claimer.seat in
    let p = popped (IsDone c.args.shared.now) c.loop-claimer.left.items c.pop.new.self.items c.pop.result c.in-Some.claimer c.pop.ensures.items c.in-Some.is i.done in
    let s = done_seat _ _ c.in-Some-other.other p.1 c.in-Some-other.is in
    let n = number_popped top_number c.loop-claimer.left.items c.pop.new.self.items c.pop.result c.in-Some.claimer c.pop.ensures.items c.in-Some.is i.numbers in
    let shares = shares_popped c.loop-claimer.left.items c.pop.new.self.items c.pop.result c.in-Some.claimer c.pop.ensures.items c.in-Some.is in
    let less : length c.loop-claimer.left.items ≡ length c.pop.new.self.items + 1 = ap length (c.pop.ensures.items ∙ ap (λ o. c.pop.new.self.items ++ option_to_list o) c.in-Some.is) ∙ length-append c.pop.new.self.items (c.in-Some.claimer ∷ []) in
    let mine = seat_number c.in-Some.claimer c.in-Some-other.other _ c.in-Some-other.is n.1 in
    let all : c.args.seat.weight + length c.args.claimers.items ≡ 65536 = search rules in
    let bound = i.less in
    let number : c.in-Some-other.other.number ≡ (top_number + 1 - length c.args.claimers.items) + (length c.args.claimers.items - length c.loop-claimer.left.items) = omega arith in
    let many : (length c.args.claimers.items - length c.loop-claimer.left.items) + 1 ≡ length c.args.claimers.items - length c.pop.new.self.items = omega arith in
    let sums = j.sums.0 in
    let one = s.1 in
    let weight = i.weight in
    let got = p.1.few in
    let few = i.few in
    let sum = c.and-all.ensures.0 in
    let whole = c.is_whole-whole.ensures in
    record {
      lock = j.left_stays.0 ∙ i.lock;
      weight = omega arith;
      same = (j.left_stays.1 ∙ i.same.0, j.left_stays.3 ∙ i.same.1);
      own = subst (λ n. own_entries n r.seen ≡ own_entries n v.seen) i.same.0 j.left_entries_stay ∙ i.own;
      seen = prefix_trans c.args.seat.seen v.seen r.seen i.seen j.both_begin_seen.0;
      done = p.0;
      numbers = n.0;
      less = omega arith;
      dismissed = subst (λ m. HasDismissed c.is_whole-whole.result (top_number + 1 - length c.args.claimers.items) m r c.and-all.result) many
          (worker_dismissed c.args.shared.now c.loop-claimer.whole c.is_whole-whole.result _ _ v c.in-Some-other.other r c.in-Some.claimer c.loop-claimer.all c.and-all.result i.dismissed p.1 c.in-Some-other.is number j c.and-all.ensures whole);
      few = omega arith;
      exact = λ e. let w = whole e in let same = w.1 in let exact = i.exact w.0 in omega arith;
    }
