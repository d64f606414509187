use Rattle.std.proofs.Common.{rules, ℕ, All, Contains, List, subst, ap, sym, ◌∙◌, get_or, ⊎_elim}
use Rattle.std.proofs.lemmas.List.Elements.{Contains-get_or}
use Rattle.history_lock.specs.Replay.{own_entries}
use Rattle.history_lock.proofs.Entries.{number_has_entries}
use Rattle.lock_trial.specs.declared.calls.Call.{Call}
use Rattle.lock_trial.specs.declared.workers.Worker.{Worker}
use Rattle.lock_trial.specs.Notes.{IsReady, IsServed, ended_of}
use Rattle.lock_trial.proofs.Notes.{ended_at, ended_numbers}
use Rattle.lock_trial.proofs.Popped.{all_over}
use Rattle.lock_trial.proofs.workers.run.Goals as goal

pub gather-seat-requires-clause-ready : goal.gather-seat-requires-clause-ready
gather-seat-requires-clause-ready g c = all_over (IsReady c.in_ok-shared.shared) c.each_works.new.workers _ _ (search rules) c.each_works.ensures.ready

pub returns-clause-own : goal.returns-clause-own
returns-clause-own g c = λ k d lt.
    let ws : List Worker = c.gather-seat.new.done.items in
    let w : Worker = get_or ws k d in
    ap (own_entries w.number) c.close-tally.ensures.log_is_seen
    ∙ c.close-tally.ensures.ended_entries_are_kept (ended_of w) (subst (λ (es : List (ℕ × List (ℕ × Call))). Contains es (ended_of w)) (sym c.gather-seat.ensures.ended) (ended_at ws k d lt))

pub returns-clause-legal : goal.returns-clause-legal
returns-clause-legal g c = subst (λ (h : List (ℕ × Call)). All (IsServed h) c.gather-seat.new.done.items) (sym c.close-tally.ensures.log_is_seen) c.gather-seat.ensures.served

pub returns-clause-nobody_else : goal.returns-clause-nobody_else
returns-clause-nobody_else g c = λ k d lt.
    let ws : List Worker = c.gather-seat.new.done.items in
    let log : List (ℕ × Call) = c.close-tally.result.log.items in
    let e : ℕ × Call = get_or log k d in
    let in_seen : Contains c.gather-seat.result.seen e = subst (λ (h : List (ℕ × Call)). Contains h e) c.close-tally.ensures.log_is_seen (Contains-get_or log k d lt) in
    ⊎_elim
    (λ is. absurd (number_has_entries c.gather-seat.result.seen e in_seen (ap (λ (n : ℕ). own_entries n c.gather-seat.result.seen) is ∙ c.gather-seat.ensures.no_calls)))
    (λ (t : (es : List (ℕ × Call)) × Contains c.gather-seat.result.ended (e.0, es)).
    let z = subst (λ (l : List (ℕ × List (ℕ × Call))). Contains l (e.0, t.0)) c.gather-seat.ensures.ended t.1 in
    let r = ended_numbers ws z.0 (e.0, t.0) z.1 z.2 in (z.0, r.0, r.1))
    (c.close-tally.ensures.entries_have_seats e in_seen)
