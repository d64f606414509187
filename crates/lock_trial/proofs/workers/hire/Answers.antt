use Rattle.std.proofs.Common.{rules, ◌≡◌, ◌≤◌, ◌+◌, ◌-◌, ℕ, All, length, Some, [], ◌∷◌, ◌++◌, refl, ap, sym, subst, ◌∙◌, arith, length-append}
use Rattle.std.specs.Option.{option_to_list}
use Rattle.std.proofs.lemmas.List.Elements.{All-push}
use Rattle.history_lock.specs.Seats.{SeatView}
use Rattle.history_lock.specs.Replay.{own_entries}
use Rattle.lock_trial.specs.declared.calls.Call.{Call}
use Rattle.lock_trial.specs.declared.workers.Worker.{Worker}
use Rattle.lock_trial.specs.Notes.{IsHired}
use Rattle.lock_trial.proofs.workers.hire.Goals as goal

pub loop-calls-preserved : goal.loop-calls-preserved
loop-calls-preserved c =
    let z = c.args.lock.now in
    let i = c.loop-calls.invariant in
    let s = c.split-rest.ensures in
    let r : SeatView ℕ Call = c.split-rest.result.1 in
    let w : Worker = record { seat = Some r; number = c.who-number.result; calls = c.in-Some.calls; notes = c.new.result } in
    let seen : r.seen ≡ [] = ap (λ (k : SeatView ℕ Call). k.seen) s.new_has_share ∙ i.6.2 in
    let ready : IsHired z w = record {
      seat = r;
      has = refl;
      at = record {
        lock = ap (λ (k : SeatView ℕ Call). k.lock) s.new_has_share ∙ i.0;
        number = sym c.who-number.ensures;
        weight = ap (λ (k : SeatView ℕ Call). k.weight) s.new_has_share;
        opening = ap (λ (k : SeatView ℕ Call). k.opening) s.new_has_share ∙ i.6.0;
        ended = ap (λ (k : SeatView ℕ Call). k.ended) s.new_has_share;
        entries = ap (own_entries c.who-number.result) seen;
        legal = λ k d lt. absurd (omega arith);
        faults = ap (λ (k : SeatView ℕ Call). k.faults) s.new_has_share;
      };
      none_yet = c.new.ensures.items;
    } in
    let less : length c.loop-calls.left.items ≡ length c.pop.new.self.items + 1 = ap length (c.pop.ensures.items ∙ ap (λ o. c.pop.new.self.items ++ option_to_list o) c.in-Some.is) ∙ length-append c.pop.new.self.items (c.in-Some.calls ∷ []) in
    let more : length c.push_reserved.new.self.items ≡ length c.loop-calls.workers.items + 1 = ap length c.push_reserved.ensures.items ∙ length-append c.loop-calls.workers.items (w ∷ []) in
    let weight : c.split-rest.result.0.weight ≡ c.loop-calls.seat.weight - 1 = ap (λ (k : SeatView ℕ Call). k.weight) s.old_loses_share in
    let spare : c.split-rest.result.0.spare ≡ c.loop-calls.seat.spare - 1 = ap (λ (k : SeatView ℕ Call). k.spare) s.old_loses_share in
    let one = i.1 in
    let two = i.2 in
    let four = i.4 in
    let room = i.5 in
    let capacity = c.push_reserved.ensures.capacity in
    let few : length c.args.lists.items ≤ 1000 = search rules in (
      ap (λ (k : SeatView ℕ Call). k.lock) s.old_loses_share ∙ i.0,
      omega arith,
      omega arith,
      subst (All (IsHired z)) (sym c.push_reserved.ensures.items) (All-push (IsHired z) c.loop-calls.workers.items w i.3 ready),
      omega arith,
      omega arith,
      (ap (λ (k : SeatView ℕ Call). k.opening) s.old_loses_share ∙ i.6.0, ap (λ (k : SeatView ℕ Call). k.ended) s.old_loses_share ∙ i.6.1, ap (λ (k : SeatView ℕ Call). k.seen) s.old_loses_share ∙ i.6.2, ap (λ (k : SeatView ℕ Call). k.faults) s.old_loses_share ∙ i.6.3, ap (λ (k : SeatView ℕ Call). k.base) s.old_loses_share ∙ i.6.4),
    )
