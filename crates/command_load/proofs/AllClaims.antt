-- What the claims of all workers came to, once they were joined, and once the lock was closed.
use Rattle.std.proofs.Common.{◌≡◌, ◌⊎◌, ◌+◌, ◌-◌, ◌≤◌, ℕ, Bool, true, false, List, [], ◌∷◌, length, Contains, Option, Some, None, IfSome, sym, ap, ◌∙◌, subst, arith}
use Rattle.std.specs.List.{AllByRecursion}
use mathlib.Core.List.{IsPrefix}
use Rattle.block_space.specs.Usable.{host_room}
use Rattle.history_lock.specs.Replay.{own_entries, replay}
use Rattle.history_lock.specs.Seats.{IsSameSeat}
use Rattle.inet_num.specs.declared.Family.TheVariants.{V4}
use Rattle.inet_num.specs.Count.{percent_of}
use Rattle.ipam_data.specs.declared.calls.Call.{Call}
use Rattle.ipam_data.specs.declared.replies.Reply.{Reply}
use Rattle.ipam_data.specs.declared.replies.Reply.TheVariants.{Percent}
use Rattle.ipam_data.specs.State.{State, empty_state}
use Rattle.ipam_data.specs.Steps.{plain_step}
use Rattle.register_core.specs.Machines.{Seen, seen_step}
use Rattle.register_core.proofs.MachineFits.{answer_plainly}
use Rattle.command_load.specs.Claims.{block_of, claimed_state, creation_of, figure_call}
use Rattle.command_load.specs.Histories.{HasRoomFor, IsLoadHistory}
use Rattle.command_load.proofs.ClaimFigures.{figure_of_claims}
use Rattle.command_load.proofs.Histories.{history_leads}
use Rattle.command_load.proofs.Room.{room as room_for}
use Rattle.command_load.specs.declared.figures.Figures.{Figures}
use Rattle.command_load.specs.LoadText.{load_address, load_figures, load_len}
use Rattle.command_load.specs.declared.load_outcome.LoadOutcome.{LoadOutcome}
use Rattle.command_load.specs.declared.tally.Tally.{Tally}
use Rattle.command_load.specs.AllClaims.{HasAllClaimed, IsLoaded}
use Rattle.command_load.specs.Dismissed.{HasDismissed, Part}
use Rattle.command_load.specs.Hired.{Caller, last_of_v4, top_number}
use Rattle.command_load.proofs.Loaded.{closed_tally}

-- ---- joined

-- what is known of the workers is known to a seat that has seen the same
dismissed_still : (whole : Bool) (first many : ℕ) (v w : Caller) (all : Tally) → HasDismissed whole first many v all → w.ended ≡ v.ended → w.seen ≡ v.seen → HasDismissed whole first many w all
dismissed_still whole first many v w all k ended seen =
    record {
      parts = k.parts;
      many_are = k.many_are;
      ended = ended ∙ k.ended;
      numbers = k.numbers;
      seen = subst (λ (h : List (ℕ × Call)). AllByRecursion (λ (p : Part). IsPrefix p.seat.seen h) k.parts) (sym seen) k.seen;
      noted = k.noted;
      count = k.count;
      tally = k.tally;
    }

-- a seat h hired the workers and was v once they were joined, and is w once it asked for the figure
pub all_claimed : (count workers many share : ℕ) (start h v w : Caller) (tally : Tally) (whole : Bool) (percent : Option ℕ) (o : Option LoadOutcome)
    → IfSome o (λ came. (whole ≡ true) × (came.tally ≡ tally) × (percent ≡ Some came.percent))
    → IfSome percent (λ p. (w.seen ≡ v.seen) × ((seen_step (replay seen_step v.opening v.seen) figure_call).1 ≡ Percent p))
    → IsSameSeat v w → HasDismissed whole (top_number + 1 - many) many v tally → many ≡ workers → (whole ≡ true → tally.claimed ≡ share) → share ≡ count
    → (h.number ≡ 0) × (h.opening.state ≡ empty_state true) × (h.seen ≡ start.seen) → (v.number ≡ h.number) × (v.opening ≡ h.opening)
    → own_entries h.number v.seen ≡ own_entries h.number h.seen → IsPrefix h.seen v.seen
    → IfSome o (λ came. HasAllClaimed count workers start w came)
all_claimed count workers many share start h v w tally whole percent None came told same k are exact is first stays own seen = tt
all_claimed count workers many share start h v w tally whole percent (Some came) came_is told same k are exact is first stays own seen =
    let t = subst (λ (x : Option ℕ). IfSome x (λ p. (w.seen ≡ v.seen) × ((seen_step (replay seen_step v.opening v.seen) figure_call).1 ≡ Percent p))) came_is.2 told in
    let mine = subst (λ (n : ℕ). own_entries n v.seen ≡ own_entries n h.seen) first.0 own in
    let opening = ap (λ (s : Seen). s.state) stays.1 ∙ first.1 in
    record {
      number = same.1 ∙ (stays.0 ∙ first.0);
      opening = ap (λ (s : Seen). s.state) same.4 ∙ opening;
      own = ap (own_entries 0) t.0 ∙ (mine ∙ ap (own_entries 0) first.2);
      seen = subst (λ (x : List (ℕ × Call)). IsPrefix x w.seen) first.2 (subst (IsPrefix h.seen) (sym t.0) seen);
      claimed = ap (λ (x : Tally). x.claimed) came_is.1 ∙ (exact came_is.0 ∙ is);
      dismissed = subst (λ (x : Tally). HasDismissed true (top_number + 1 - workers) workers w x) (sym came_is.1)
          (subst (λ (n : ℕ). HasDismissed true (top_number + 1 - n) n w tally) are
          (dismissed_still true (top_number + 1 - many) many v w tally (subst (λ (b : Bool). HasDismissed b (top_number + 1 - many) many v tally) came_is.0 k) same.6 t.0));
      percent = subst (λ (s : State). (plain_step (replay plain_step s w.seen) figure_call).1 ≡ Percent came.percent) opening
          (answer_plainly v.opening w.seen figure_call ∙ subst (λ (l : List (ℕ × Call)). (seen_step (replay seen_step v.opening l) figure_call).1 ≡ Percent came.percent) (sym t.0) t.1);
    }

-- ---- closed

-- the percentage that is told behind the claims
percent_told : (count len p : ℕ) (history : List (ℕ × Call)) (h : IsLoadHistory len history) → HasRoomFor len (length history) → length history ≡ count + 1
    → (plain_step (replay plain_step (empty_state true) history) figure_call).1 ≡ Percent p → p ≡ percent_of count (host_room (block_of len) false)
percent_told count len p history h room long told =
    let more = ap length h.is in
    let claims : length h.claims ≡ count = omega arith in
    let block = room.block in
    let behind = history_leads true len history h room ∙ ap (claimed_state true len) claims in
    let figure = figure_of_claims true len count (omega arith) in
    let e : Percent p ≡ Percent (percent_of count (host_room (block_of len) false)) =
    sym told ∙ (ap (λ (s : State). (plain_step s figure_call).1) behind ∙ ap (λ (r : State × Reply). r.1) figure) in
    cc e

-- the first seat was u when it was made, v once the prefix was made, and w when it closed the lock
pub all_loaded : (count workers : ℕ) (u v w : Caller) (o : Option LoadOutcome) (log : List (ℕ × Call)) (entries : ℕ) → (1 ≤ workers) × (workers ≤ 32) × (1 ≤ count) × (count ≤ 100000)
    → u.number ≡ 0 → v.seen ≡ (u.number, creation_of (load_len count)) ∷ [] → IfSome o (λ came. HasAllClaimed count workers v w came) → log ≡ w.seen → entries ≡ length log
    → ((e : ℕ × Call) → Contains w.seen e → (e.0 ≡ w.number) ⊎ ((es : List (ℕ × Call)) × Contains w.ended (e.0, es)))
    → ((e : ℕ × List (ℕ × Call)) → Contains w.ended e → own_entries e.0 w.seen ≡ e.1)
    → IfSome o (λ came. IsLoaded count came entries)
all_loaded count workers u v w None log entries few number made came is many seats kept = tt
all_loaded count workers u v w (Some came) log entries few number made c is many seats kept =
    let made_by_0 : v.seen ≡ (0, creation_of (load_len count)) ∷ [] = made ∙ ap (λ (n : ℕ). (n, creation_of (load_len count)) ∷ []) number in
    let room = room_for count few.2 few.3 in
    let high = few.1 in
    let low : 1 ≤ top_number + 1 - workers = omega arith in
    let most = few.3 in
    let below : (load_address (count + 1)).value ≤ last_of_v4 = omega arith in
    let start = subst (λ (l : List (ℕ × Call)). IsPrefix l w.seen) made_by_0 c.seen in
    let own : own_entries 0 w.seen ≡ (0, creation_of (load_len count)) ∷ [] = c.own ∙ ap (own_entries 0) made_by_0 in
    let all = closed_tally count (load_len count) (top_number + 1 - workers) workers w came.tally room below few.2 low c.dismissed c.claimed start own c.number seats kept in
    record {
      claimed = c.claimed;
      first = all.least;
      last = all.greatest;
      percent = percent_told count (load_len count) came.percent w.seen all.is_load (subst (HasRoomFor (load_len count)) (sym all.long) room) all.long c.percent;
      many = many ∙ (ap length is ∙ all.long);
    }

-- ---- as figures

-- the figures of what came are those of so many claims
pub loaded_figures : (count : ℕ) (came : LoadOutcome) (entries : ℕ) (o : Option Figures) → IsLoaded count came entries
    → IfSome o (λ f. f ≡ record {
      claimed = came.tally.claimed;
      first = record { family = V4; value = came.tally.least };
      last = record { family = V4; value = came.tally.greatest };
      percent = came.percent;
      entries = entries;
    })
    → IfSome o (λ f. f ≡ load_figures count)
loaded_figures count came entries None k is = tt
loaded_figures count came entries (Some f) k is =
    is ∙ (λ i. record {
      claimed = k.claimed i;
      first = record { family = V4; value = k.first i };
      last = record { family = V4; value = k.last i };
      percent = k.percent i;
      entries = k.many i;
    })

-- as the lock's closing and the figures tell it
pub figures_told : (count : ℕ) (o : Option LoadOutcome) (came : LoadOutcome) (many entries : ℕ) (f : Option Figures) → IfSome o (λ c. IsLoaded count c many) → o ≡ Some came → entries ≡ many
    → IfSome f (λ f. f ≡ record {
      claimed = came.tally.claimed;
      first = record { family = V4; value = came.tally.least };
      last = record { family = V4; value = came.tally.greatest };
      percent = came.percent;
      entries = entries;
    })
    → IfSome f (λ f. f ≡ load_figures count)
figures_told count o came many entries f told is same figures =
    loaded_figures count came entries f (subst (IsLoaded count came) (sym same) (subst (λ (x : Option LoadOutcome). IfSome x (λ c. IsLoaded count c many)) is told)) figures
