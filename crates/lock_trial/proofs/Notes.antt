-- What a worker's notes say, from one call to the next and as histories grow.
use Rattle.std.proofs.Common.{◌≡◌, ℕ, zero, suc, ◌+◌, ◌<◌, All, List, [], ◌∷◌, ◌++◌, map, length, get_or, refl, sym, ap, subst, ◌∙◌, arith}
use Rattle.std.specs.Prelude.{filter, Contains}
use Rattle.std.proofs.lemmas.List.Elements.{All-push, filter-append}
use Rattle.std.proofs.lemmas.List.Sums.{sum_by_push}
use mathlib.Core.List.{IsPrefix, map-append}
use Rattle.atomic_table.specs.Seated.{TableId}
use Rattle.history_lock.specs.Replies.{grown, failures_of}
use Rattle.history_lock.specs.Replay.{own_entries}
use Rattle.history_lock.specs.Places.{IsLegalAt}
use Rattle.history_lock.specs.Seats.{SeatView, IsCall, IsJoined}
use Rattle.history_lock.proofs.Places.{IsLegalAt-longer}
use Rattle.lock_trial.specs.declared.calls.Call.{Call}
use Rattle.lock_trial.specs.declared.calls.Note.{Note}
use Rattle.lock_trial.specs.declared.calls.Reply.{Reply}
use Rattle.lock_trial.specs.declared.calls.Reply.TheVariants.{Added, Value, Fault, NoMemory}
use Rattle.lock_trial.specs.declared.workers.Worker.{Worker}
use Rattle.lock_trial.specs.Adds.{add_step, kind_of, is_accepted}
use Rattle.lock_trial.specs.Notes.{accepted_of, IsLegalNote, IsAt, IsServed, ended_of}

-- one more note
accepted-push : (number : ℕ) (notes : List Note) (call : Call) (reply : Reply) (place : ℕ)
    → accepted_of number (notes ++ record { call = call; reply = reply; place = place } ∷ []) ≡ grown (kind_of reply) (number, call) (accepted_of number notes)
accepted-push number notes call reply place =
    let x : Note = record { call = call; reply = reply; place = place } in
    ap (map (λ (n : Note). (number, n.call))) (filter-append (λ (n : Note). is_accepted n.reply) notes (x ∷ [])) ∙ go reply
  where
    go : (r : Reply) → map (λ (n : Note). (number, n.call)) (filter (λ (n : Note). is_accepted n.reply) notes ++ filter (λ (n : Note). is_accepted n.reply) (record { call = call; reply = r; place = place } ∷ []))
        ≡ grown (kind_of r) (number, call) (accepted_of number notes)
    go (Added s) = map-append (λ (n : Note). (number, n.call)) (filter (λ (n : Note). is_accepted n.reply) notes) (record { call = call; reply = Added s; place = place } ∷ [])
    go (Value s) = ap (map (λ (n : Note). (number, n.call))) (Rattle.std.proofs.Common.append-nil (filter (λ (n : Note). is_accepted n.reply) notes))
    go Fault = ap (map (λ (n : Note). (number, n.call))) (Rattle.std.proofs.Common.append-nil (filter (λ (n : Note). is_accepted n.reply) notes))
    go NoMemory = ap (map (λ (n : Note). (number, n.call))) (Rattle.std.proofs.Common.append-nil (filter (λ (n : Note). is_accepted n.reply) notes))

-- what was legal in a history is legal in a longer one
pub legal_longer : (h g : List (ℕ × Call)) (number : ℕ) (notes : List Note) → IsPrefix h g → All (IsLegalNote h number) notes → All (IsLegalNote g number) notes
legal_longer h g number notes p all = λ k d lt. let x = get_or notes k d in IsLegalAt-longer add_step is_accepted 0 h g number x.call x.reply (kind_of x.reply) x.place p (all k d lt)

pub asked : (z : TableId) (number : ℕ) (notes : List Note) (v w : SeatView ℕ Call) (call : Call) (reply : Reply) (place : ℕ) → IsAt z number notes v → IsCall add_step is_accepted v w call reply (kind_of reply) place
    → IsAt z number (notes ++ record { call = call; reply = reply; place = place } ∷ []) w
asked z number notes v w call reply place a c = record {
  lock = c.seat_stays.0 ∙ a.lock;
  number = c.seat_stays.1 ∙ a.number;
  weight = c.seat_stays.3 ∙ a.weight;
  opening = c.seat_stays.4 ∙ a.opening;
  ended = c.seat_stays.6 ∙ a.ended;
  entries = ap (λ n. own_entries n w.seen) (sym a.number) ∙ (c.own_entries_grow ∙ ((λ i. grown (kind_of reply) (a.number i, call) (own_entries (a.number i) v.seen))
      ∙ (ap (grown (kind_of reply) (number, call)) a.entries ∙ sym (accepted-push number notes call reply place))));
  faults = c.faults_rise ∙ (ap (λ n. n + failures_of (kind_of reply)) a.faults ∙ sym (sum_by_push (λ (n : Note). failures_of (kind_of n.reply)) notes record { call = call; reply = reply; place = place }));
  legal = All-push (IsLegalNote w.seen number) notes record { call = call; reply = reply; place = place } (legal_longer v.seen w.seen number notes c.seen_only_grows a.legal)
      (subst (λ (s : ℕ × ℕ). IsLegalAt add_step is_accepted s.0 w.seen s.1 call reply (kind_of reply) place) (λ i. (a.opening i, a.number i)) c.reply_is_legal);
}

-- what a worker's notes say of a history they say of a longer one
pub served_longer : (h g : List (ℕ × Call)) (w : Worker) → IsPrefix h g → IsServed h w → IsServed g w
served_longer h g w p s = record { legal = legal_longer h g w.number w.notes.items p s.legal; calls = s.calls }

-- the ended number that a join adds is the worker's, with its accepted calls
pub joined_ended : (z : TableId) (number : ℕ) (notes : List Note) (v w r : SeatView ℕ Call) → IsJoined v w r → IsAt z number notes w → r.ended ≡ v.ended ++ (number, accepted_of number notes) ∷ []
joined_ended z number notes v w r j a =
    let same : (w.number, own_entries w.number w.seen) ≡ (number, accepted_of number notes) = λ i. (a.number i, (ap (λ m. own_entries m w.seen) a.number ∙ a.entries) i) in
    j.ended_are_kept ∙ (λ i. let e : List (ℕ × List (ℕ × Call)) = (v.ended ++ a.ended i) ++ same i ∷ [] in e) ∙ ap (λ l. l ++ (number, accepted_of number notes) ∷ []) (Rattle.std.proofs.Common.append-nil v.ended)

-- a worker's ended number is among those of all
pub ended_at : (ws : List Worker) (k : ℕ) (d : Worker) → k < length ws → Contains (map ended_of ws) (ended_of (get_or ws k d))
ended_at [] k d lt = absurd (omega arith)
ended_at (w ∷ ws) zero d lt = (0, omega arith, refl)
ended_at (w ∷ ws) (suc k) d lt = let r = ended_at ws k d (omega arith) in let l = r.1 in (suc r.0, omega arith, r.2)

-- an ended number is some worker's
pub ended_numbers : (ws : List Worker) (k : ℕ) (e : ℕ × List (ℕ × Call)) → k < length (map ended_of ws) → get_or (map ended_of ws) k e ≡ e
    → (k < length (map (λ (w : Worker). w.number) ws)) × (get_or (map (λ (w : Worker). w.number) ws) k e.0 ≡ e.0)
ended_numbers [] k e lt at = absurd (omega arith)
ended_numbers (w ∷ ws) zero e lt at = (omega arith, ap (λ (z : ℕ × List (ℕ × Call)). z.0) at)
ended_numbers (w ∷ ws) (suc k) e lt at = let r = ended_numbers ws k e (omega arith) at in let l = r.0 in (omega arith, r.1)
