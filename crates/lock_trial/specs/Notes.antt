-- What a worker notes of its calls, and what these notes are to its seat and to a history.
use Rattle.std.specs.Prelude.{◌≡◌, ℕ, List, [], Some, map, filter, All, sum_by}
use mathlib.Core.List.{IsPrefix}
use Rattle.atomic_table.specs.Seated.{TableId}
use Rattle.history_lock.specs.Replies.{failures_of}
use Rattle.history_lock.specs.Replay.{own_entries}
use Rattle.history_lock.specs.Places.{IsLegalAt}
use Rattle.history_lock.specs.Seats.{SeatView}
use Rattle.lock_trial.specs.Adds.{add_step, kind_of, is_accepted}
use Rattle.lock_trial.specs.declared.calls.Call.{Call}
use Rattle.lock_trial.specs.declared.calls.Note.{Note}
use Rattle.lock_trial.specs.declared.workers.Worker.{Worker}

-- the entries that a worker with this number has in the history by its notes: its accepted calls, in order
abbrev pub accepted_of : ℕ → List Note → List (ℕ × Call)
accepted_of number notes = map (λ note. (number, note.call)) (filter (λ note. is_accepted note.reply) notes)

-- the calls of these notes
abbrev pub calls_of : List Note → List Call
calls_of notes = map (λ note. note.call) notes

-- how many of these notes are of calls that failed
abbrev pub faults_of : List Note → ℕ
faults_of notes = sum_by (λ note. failures_of (kind_of note.reply)) notes

-- the noted reply is legal at the noted place of this history of a tally that began at 0
abbrev pub IsLegalNote : List (ℕ × Call) → ℕ → Note → Type 0
IsLegalNote history number note = IsLegalAt add_step is_accepted 0 history number note.call note.reply (kind_of note.reply) note.place

-- a worker's seat of the lock z between two calls, with its notes so far
pub record IsAt (z : TableId) (who : ℕ) (notes : List Note) (s : SeatView ℕ Call) : Type 0 where
  pub lock : s.lock ≡ z
  pub number : s.number ≡ who
  pub weight : s.weight ≡ 1
  pub opening : s.opening ≡ 0
  -- no seat was joined to it
  pub ended : s.ended ≡ []
  pub entries : own_entries who s.seen ≡ accepted_of who notes
  pub legal : All (IsLegalNote s.seen who) notes
  pub faults : s.faults ≡ faults_of notes

-- a worker of the lock z that has its seat and has made no call
pub record IsHired (z : TableId) (w : Worker) : Type 0 where
  pub seat : SeatView ℕ Call
  pub has : w.seat ≡ Some seat
  pub at : IsAt z w.number [] seat
  pub none_yet : w.notes.items ≡ []

-- a worker of the lock z that has its seat and has made calls
pub record IsReady (z : TableId) (w : Worker) : Type 0 where
  pub seat : SeatView ℕ Call
  pub has : w.seat ≡ Some seat
  pub at : IsAt z w.number w.notes.items seat
  -- it made its calls in their order, from the first
  pub calls : IsPrefix (calls_of w.notes.items) w.calls.items

-- a worker whose seat was joined to another, which keeps its number and its entries
abbrev pub ended_of : Worker → ℕ × List (ℕ × Call)
ended_of w = (w.number, accepted_of w.number w.notes.items)

-- what a worker's notes say of this history
pub record IsServed (history : List (ℕ × Call)) (w : Worker) : Type 0 where
  -- each reply is legal at its place
  pub legal : All (IsLegalNote history w.number) w.notes.items
  -- it made its calls in their order, from the first
  pub calls : IsPrefix (calls_of w.notes.items) w.calls.items

-- how many calls of these workers failed
abbrev pub all_faults_of : List Worker → ℕ
all_faults_of workers = sum_by (λ w. faults_of w.notes.items) workers
