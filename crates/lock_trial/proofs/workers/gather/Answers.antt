use Rattle.std.proofs.Common.{◌≡◌, ◌+◌, All, length, map, [], ◌∷◌, ◌++◌, ap, sym, subst, ◌∙◌, arith, length-append}
use Rattle.std.proofs.lemmas.List.Elements.{All-push}
use Rattle.std.proofs.lemmas.List.Sums.{sum_by_push}
use Rattle.std.specs.Option.{option_to_list}
use mathlib.Core.List.{map-append}
use Rattle.history_lock.specs.Replay.{own_entries}
use Rattle.lock_trial.specs.declared.workers.Worker.{Worker}
use Rattle.lock_trial.specs.Notes.{IsAt, IsReady, IsServed, all_faults_of, ended_of, faults_of}
use Rattle.lock_trial.proofs.Notes.{joined_ended, legal_longer, served_longer}
use Rattle.lock_trial.proofs.Popped.{popped, some_same}
use Rattle.lock_trial.proofs.workers.gather.Goals as goal

pub loop-worker-preserved : goal.loop-worker-preserved
loop-worker-preserved c =
    let z = c.args.lock.now in
    let i = c.loop-worker.invariant in
    let w = c.in-Some.worker in
    let v = c.loop-worker.seat in
    let r = c.join-seat.result in
    let j = c.join-seat.ensures in
    let p = popped (IsReady z) c.loop-worker.left.items c.pop.new.self.items c.pop.result w c.pop.ensures.items c.in-Some.is i.2 in
    let same : p.1.seat ≡ c.in-Some-take.other = some_same p.1.seat c.in-Some-take.other (sym p.1.has ∙ (sym c.take.ensures.value ∙ c.in-Some-take.is)) in
    let at : IsAt z w.number w.notes.items c.in-Some-take.other = subst (IsAt z w.number w.notes.items) same p.1.at in
    let w' : Worker = record { seat = c.take.new.self; number = w.number; calls = w.calls; notes = w.notes } in
    let served : IsServed r.seen w' = record { legal = legal_longer c.in-Some-take.other.seen r.seen w.number w.notes.items j.both_begin_seen.1 at.legal; calls = p.1.calls } in
    let all : All (IsServed r.seen) (c.loop-worker.done.items ++ w' ∷ []) = All-push (IsServed r.seen) c.loop-worker.done.items w' (λ k d lt. served_longer v.seen r.seen _ j.both_begin_seen.0 (i.5 k d lt)) served in
    let ended : r.ended ≡ map ended_of (c.loop-worker.done.items ++ w' ∷ []) = joined_ended z w.number w.notes.items v c.in-Some-take.other r j at ∙ (ap (λ l. l ++ ended_of w' ∷ []) i.4 ∙ sym (map-append ended_of c.loop-worker.done.items (w' ∷ []))) in
    let sums = j.sums.0 in
    let one = at.weight in
    let before = i.1 in
    let lens = i.6 in
    let room = i.7 in
    let capacity = c.push_reserved.ensures.capacity in
    let less : length c.loop-worker.left.items ≡ length c.pop.new.self.items + 1 = ap length (c.pop.ensures.items ∙ ap (λ r. c.pop.new.self.items ++ option_to_list r) c.in-Some.is) ∙ length-append c.pop.new.self.items (w ∷ []) in
    let more : length c.push_reserved.new.self.items ≡ length c.loop-worker.done.items + 1 = ap length c.push_reserved.ensures.items ∙ length-append c.loop-worker.done.items (w' ∷ []) in (
      j.left_stays.0 ∙ i.0,
      omega arith,
      p.0,
      (j.left_stays.3 ∙ i.3.0, j.left_stays.1 ∙ i.3.1, ap (λ n. own_entries n r.seen) j.left_stays.1 ∙ (j.left_entries_stay ∙ i.3.2)),
      subst (λ l. r.ended ≡ map ended_of l) (sym c.push_reserved.ensures.items) ended,
      subst (All (IsServed r.seen)) (sym c.push_reserved.ensures.items) all,
      omega arith,
      omega arith,
      j.sums.1 ∙ ((λ k. i.8 k + at.faults k) ∙ (sym (sum_by_push (λ (x : Worker). faults_of x.notes.items) c.loop-worker.done.items w') ∙ ap all_faults_of (sym c.push_reserved.ensures.items))),
      j.left_stays.4 ∙ i.9,
    )
