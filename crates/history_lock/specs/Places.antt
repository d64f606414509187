-- The legal place of a reply in a history: where a single caller, one call after another, would have had it.
use Rattle.std.specs.Prelude.{◌≡◌, ℕ, ◌≤◌, Bool, List, length, take, slice_get, Some}
use Rattle.history_lock.specs.Replies.{ReplyKind, accepted, AnswersAs}
use Rattle.history_lock.specs.Replay.{replay}

-- the reply has this place, counted in entries from 0
pub record IsLegalAt {S C A : Type 0} (step : S → C → S × A) (fallible : A → Bool) (opening : S) (history : List (ℕ × C)) (who : ℕ) (call : C) (answer : A) (kind : ReplyKind) (place : ℕ) : Type 0 where
  -- the place is within the history or at its end
  pub within : place ≤ length history
  -- the answer is the plain step's after the entries before the place, or reports a fault if that one is fallible, or out of memory
  pub right : AnswersAs fallible kind answer (step (replay step opening (take place history)) call).1
  -- an accepted change is the entry at its place
  pub entry : kind ≡ accepted → slice_get history place ≡ Some (who, call)
