-- What is known of a seat between two calls, and what each call of the lock does to it.
use Rattle.std.specs.Prelude.{◌≡◌, ◌⊎◌, ℕ, ◌+◌, ◌-◌, ◌≤◌, Bool, List, [], ◌∷◌, ◌++◌, length, take, true, Contains, Option}
use mathlib.Core.List.{IsPrefix}
use Rattle.atomic_table.specs.Seated.{TableId}
use Rattle.atomic_table.specs.declared.shared.Seat.{Seat}
use Rattle.history_lock.specs.Replies.{ReplyKind, grown, failures_of}
use Rattle.history_lock.specs.Replay.{replay, own_entries}
use Rattle.history_lock.specs.Machines.{Meaning, Reaches}
use Rattle.history_lock.specs.Places.{IsLegalAt}
use Rattle.history_lock.specs.Views.{IsSoundView}
use Rattle.history_lock.specs.declared.views.View.{View}
use Rattle.history_lock.specs.declared.views.Stage.TheVariants.{Idle}

-- a seat as contracts see it
pub record SeatView (S C : Type 0) : Type 0 where
  -- the lock that it belongs to
  pub lock : TableId
  -- the number under which its changes are in the history
  pub number : ℕ
  -- how many numbers it owns, its own and those that it may give to new seats
  pub spare : ℕ
  -- its part of the 65,536 that all live seats of the lock weigh together
  pub weight : ℕ
  -- the opening state of the machine, and its count of faults when the lock was made
  pub opening : S
  pub base : ℕ
  -- the beginning of the history that it has seen
  pub seen : List (ℕ × C)
  -- how many of its calls were answered by a fault, and of those of the seats joined to it
  pub faults : ℕ
  -- the number of each seat joined to it, with that seat's own entries
  pub ended : List (ℕ × List (ℕ × C))

-- the seat of this lock with this view, as contracts see it
abbrev pub seat_view_of : {S C : Type 0} → TableId → View S C → SeatView S C
seat_view_of z v = record { lock = z; number = v.number; spare = v.spare; weight = v.weight; opening = v.opening.value; base = v.base; seen = v.seen; faults = v.faults; ended = v.ended }

module _ {M S C : Type 0} where
  -- this place at a table, as contracts see it
  abbrev pub seat_view : Seat (Option M) (View S C) → SeatView S C
  seat_view p = seat_view_of p.table_id p.me.0

  -- the seat is live, holds no ticket and no slot, and its view is sound
  abbrev pub IsResting : Seat (Option M) (View S C) → Type 0
  IsResting p = (p.me.0.live ≡ true) × (p.me.0.stage ≡ Idle) × (p.me.1 ≡ []) × IsSoundView p.me.0

-- the first seat of a lock
abbrev pub first_seat : {S C : Type 0} → TableId → S → ℕ → SeatView S C
first_seat z s base = record { lock = z; number = 0; spare = 65536; weight = 65536; opening = s; base = base; seen = []; faults = 0; ended = [] }

-- the two differ in what they have seen and in their faults alone
abbrev pub IsSameSeat : {S C : Type 0} → SeatView S C → SeatView S C → Type 0
IsSameSeat v w = (w.lock ≡ v.lock) × (w.number ≡ v.number) × (w.spare ≡ v.spare) × (w.weight ≡ v.weight) × (w.opening ≡ v.opening) × (w.base ≡ v.base) × (w.ended ≡ v.ended)

-- one call: the seat was v and is w
pub record IsCall {S C A : Type 0} (step : S → C → S × A) (fallible : A → Bool) (v w : SeatView S C) (call : C) (answer : A) (kind : ReplyKind) (place : ℕ) : Type 0 where
  -- nothing else of the seat changes
  pub seat_stays : IsSameSeat v w
  -- what the seat had seen begins what it has seen now
  pub seen_only_grows : IsPrefix v.seen w.seen
  -- the place is after all that the seat had seen
  pub place_is_after_seen : length v.seen ≤ place
  -- the reply has this place in what the seat has seen now
  pub reply_is_legal : IsLegalAt step fallible v.opening w.seen v.number call answer kind place
  -- what it has seen now are the entries before the place, and its own entry if the change was accepted
  pub seen_ends_at_place : w.seen ≡ grown kind (v.number, call) (take place w.seen)
  -- its own entries are the old ones, and this call if the change was accepted
  pub own_entries_grow : own_entries v.number w.seen ≡ grown kind (v.number, call) (own_entries v.number v.seen)
  -- if no other seat is live nothing is between
  pub alone_misses_nothing : v.weight ≡ 65536 → place ≡ length v.seen
  -- its faults rise by one exactly if the reply is a fault
  pub faults_rise : w.faults ≡ v.faults + failures_of kind

-- a split: the seat was v and is l, and r is new
pub record IsSplit {S C : Type 0} (v : SeatView S C) (share : ℕ) (l r : SeatView S C) : Type 0 where
  -- the old seat loses the share, and nothing else
  pub old_loses_share : l ≡ record v { spare = v.spare - share; weight = v.weight - share }
  -- the new seat knows what the old one knew, and has the last numbers of the old one's spare, no faults and no ended numbers
  pub new_has_share : r ≡ record v { number = v.number + (v.spare - share); spare = share; weight = share; faults = 0; ended = [] }
  -- nobody called under the new number
  pub new_number_is_fresh : own_entries r.number r.seen ≡ []

-- a join: the seats were v and w, and r is left
pub record IsJoined {S C : Type 0} (v w r : SeatView S C) : Type 0 where
  -- the left seat keeps its number, and all that it began with
  pub left_stays : (r.lock ≡ v.lock) × (r.number ≡ v.number) × (r.spare ≡ v.spare) × (r.opening ≡ v.opening) × (r.base ≡ v.base)
  -- the weights and the faults are added
  pub sums : (r.weight ≡ v.weight + w.weight) × (r.faults ≡ v.faults + w.faults)
  -- it has seen what one of the two had seen ..
  pub seen_is_one_of_both : (r.seen ≡ v.seen) ⊎ (r.seen ≡ w.seen)
  -- .. which both begin
  pub both_begin_seen : IsPrefix v.seen r.seen × IsPrefix w.seen r.seen
  -- the left seat's own entries stay
  pub left_entries_stay : own_entries v.number r.seen ≡ own_entries v.number v.seen
  -- the ended numbers of both are kept, and then the right seat's number with its own entries
  pub ended_are_kept : r.ended ≡ (v.ended ++ w.ended) ++ (w.number, own_entries w.number w.seen) ∷ []

-- a close: the last seat was v, and the machine x is given back
pub record IsClosed {M S C A : Type 0} (W : Meaning M S C A) (v : SeatView S C) (x : M) : Type 0 where
  -- the accepted changes of the machine are just what the seat has seen
  pub log_is_seen : W.log x ≡ v.seen
  -- its opening state is the one that the seat knows, and its state the replay of its accepted changes
  pub opening_stays : W.opening x ≡ v.opening
  pub state_is_replay : W.state x ≡ replay W.step v.opening v.seen
  -- its count has risen by at least the faults of all seats since the lock was made, until it is at the last value
  pub faults_are_counted : Reaches (v.base + v.faults) (W.faults x)
  -- each entry bears the seat's number or one of a seat that was joined to it
  pub entries_have_seats : (e : ℕ × C) → Contains v.seen e → (e.0 ≡ v.number) ⊎ ((es : List (ℕ × C)) × Contains v.ended (e.0, es))
  -- the entries of each ended number are those kept for it
  pub ended_entries_are_kept : (e : ℕ × List (ℕ × C)) → Contains v.ended e → own_entries e.0 v.seen ≡ e.1
