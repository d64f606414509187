-- The one history of a machine that was closed.
use Rattle.std.proofs.Common.{◌≡◌, ◌<◌, ℕ, zero, suc, List, [], ◌∷◌, All, Contains, map, length, get_or, refl, sym, ap, ◌∙◌, subst, arith, ⊎_elim, ◌⊎◌}
use Rattle.std.proofs.lemmas.List.Elements.{Contains-get_or}
use Rattle.history_lock.specs.Replay.{own_entries, replay}
use Rattle.ipam_listen.specs.Connections.{Returned}
use Rattle.history_lock.proofs.Entries.{number_has_entries}
use Rattle.history_lock.specs.Seats.{SeatView}
use Rattle.machine_session.specs.Protocols.{Protocol}
use Rattle.machine_server.specs.History.{AreNumberedFrom, IsHistoryOf, IsServedBy, IsShift, Shift, ended_of}

-- a shift's ended number is among those of all
ended_at : {C : Type 0} (ss : List (Shift C)) (k : ℕ) (d : Shift C) → k < length ss → Contains (map ended_of ss) (ended_of (get_or ss k d))
ended_at [] k d lt = absurd (omega arith)
ended_at (s ∷ ss) zero d lt = (0, omega arith, refl)
ended_at (s ∷ ss) (suc k) d lt = let r = ended_at ss k d (omega arith) in let l = r.1 in (suc r.0, omega arith, r.2)

-- an ended number is some shift's
ended_numbers : {C : Type 0} (ss : List (Shift C)) (k : ℕ) (e : ℕ × List (ℕ × C)) → k < length (map ended_of ss) → get_or (map ended_of ss) k e ≡ e
    → (k < length (map (λ s. s.number) ss)) × (get_or (map (λ s. s.number) ss) k e.0 ≡ e.0)
ended_numbers [] k e lt at = absurd (omega arith)
ended_numbers (s ∷ ss) zero e lt at = (omega arith, ap (λ z. z.0) at)
ended_numbers (s ∷ ss) (suc k) e lt at = let r = ended_numbers ss k e (omega arith) at in let l = r.0 in (omega arith, r.1)

-- the seat that closed the lock knew all shifts, and had no changes of its own
pub closed_history : {S C A B W E : Type 0} (P : Protocol S C A B W E) (o : S) (v : SeatView S C) (log : List (ℕ × C)) (shifts : List (Shift C)) (first : ℕ) → AreNumberedFrom first shifts → log ≡ v.seen → v.ended ≡ map ended_of shifts → own_entries v.number v.seen ≡ []
    → All (IsShift P o v.seen) shifts
    → ((e : ℕ × C) → Contains v.seen e → (e.0 ≡ v.number) ⊎ ((es : List (ℕ × C)) × Contains v.ended (e.0, es)))
    → ((e : ℕ × List (ℕ × C)) → Contains v.ended e → own_entries e.0 v.seen ≡ e.1)
    → IsHistoryOf P o log shifts
closed_history {C = C} P o v log shifts first numbers is ended none answered seats kept =
    subst (λ (h : List (ℕ × C)). IsHistoryOf P o h shifts) (sym is) record {
      answered = answered;
      changes = λ k d lt. kept (ended_of (get_or shifts k d)) (subst (λ (es : List (ℕ × List (ℕ × C))). Contains es (ended_of (get_or shifts k d))) (sym ended) (ended_at shifts k d lt));
      numbers = (first, numbers);
      nobody_else = λ k d lt.
          let e : ℕ × C = get_or v.seen k d in
          let in_seen : Contains v.seen e = Contains-get_or v.seen k d lt in
          ⊎_elim
          (λ same. absurd (number_has_entries v.seen e in_seen (ap (λ (n : ℕ). own_entries n v.seen) same ∙ none)))
          (λ (t : (es : List (ℕ × C)) × Contains v.ended (e.0, es)).
          let z = subst (λ (l : List (ℕ × List (ℕ × C))). Contains l (e.0, t.0)) ended t.1 in
          let r = ended_numbers shifts z.0 (e.0, t.0) z.1 z.2 in (z.0, r.0, r.1))
          (seats e in_seen);
    }

-- the state that is left is the replay of the machine's changes
pub replayed : {S C A : Type 0} (step : S → C → S × A) (state o p : S) (seen log : List (ℕ × C)) → state ≡ replay step o seen → o ≡ p → log ≡ seen → state ≡ replay step p log
replayed {S = S} step state o p seen log e f h = e ∙ (ap (λ (x : S). replay step x seen) f ∙ ap (replay step p) (sym h))

-- what is said where no lane has an accept left is said where another fact gives that
pub served_where : {S C A B W E : Type 0} (P : Protocol S C A B W E) (o : S) (m n : ℕ) (old new : List Returned) (none_left all_came : Type 0) (h : List (ℕ × C)) → (all_came → none_left)
    → IsServedBy P o m n old new none_left h → IsServedBy P o m n old new all_came h
served_where P o m n old new none_left all_came h gives k =
    record { shifts = k.shifts; back = k.back; returned = k.returned; lanes = k.lanes; one_history = k.one_history; faults = k.faults; spent = λ came. k.spent (gives came) }

-- what is said from one opening state is said from one that is the same
pub served_from : {S C A B W E : Type 0} (P : Protocol S C A B W E) (o p : S) (m n k : ℕ) (old new : List Returned) (none_left : Type 0) (h : List (ℕ × C)) → o ≡ p → m ≡ n
    → IsServedBy P o m k old new none_left h → IsServedBy P p n k old new none_left h
served_from {S} P o p m n k old new none_left h e f served = subst (λ (x : S × ℕ). IsServedBy P x.0 x.1 k old new none_left h) (λ i. (e i, f i)) served
