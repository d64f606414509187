-- Workers whose seats were joined to the one that made the prefix.
use Rattle.std.specs.Prelude.{◌≡◌, ◌+◌, ℕ, Bool, true, List, [], ◌∷◌, map, length, sum_by}
use Rattle.std.specs.List.{AllByRecursion}
use mathlib.Core.List.{IsPrefix}
use Rattle.history_lock.specs.Replay.{own_entries}
use Rattle.ipam_data.specs.declared.calls.Call.{Call}
use Rattle.command_load.specs.Tallies.{IsTallyOf}
use Rattle.command_load.specs.declared.tally.Tally.{Tally}
use Rattle.command_load.specs.Hired.{Caller, Notes}

-- a worker's seat before it was joined, and its tally
pub record Part : Type 0 where
  pub seat : Caller
  pub tally : Tally

abbrev pub number_of : Part → ℕ
number_of p = p.seat.number

-- what is kept of its seat
abbrev pub ended_of : Part → ℕ × List (ℕ × Call)
ended_of p = (p.seat.number, own_entries p.seat.number p.seat.seen)

-- the tally is what the claims through the seat led to
abbrev pub IsNotedPart : Part → Type 0
IsNotedPart p = Notes p.seat p.tally.claimed p.tally.least p.tally.greatest

-- a tally by a history
abbrev pub IsTally : List (ℕ × Call) → List ℕ → Tally → Type 0
IsTally history numbers tally = IsTallyOf history numbers tally.claimed tally.least tally.greatest

-- the numbers follow one another from this one on
abbrev pub AreNumberedFrom : ℕ → List Part → Type 0
AreNumberedFrom first [] = Unit {0}
AreNumberedFrom first (p ∷ ps) = (p.seat.number ≡ first) × AreNumberedFrom (first + 1) ps

-- so many workers were dismissed: the seat that is left knows what they did, and `all` is the tally of all of them
pub record HasDismissed (whole : Bool) (first many : ℕ) (seat : Caller) (all : Tally) : Type 0 where
  pub parts : List Part
  pub many_are : many ≡ length parts
  pub ended : seat.ended ≡ map ended_of parts
  pub numbers : AreNumberedFrom first parts
  -- all that each of them had seen begins what the seat has seen
  pub seen : AllByRecursion (λ p. IsPrefix p.seat.seen seat.seen) parts
  -- if each got its share
  pub noted : whole ≡ true → AllByRecursion IsNotedPart parts
  pub count : all.claimed ≡ sum_by (λ p. p.tally.claimed) parts
  -- in any history by which each tally is its seat's, this one is that of all
  pub tally : (history : List (ℕ × Call)) → AllByRecursion (λ p. IsTally history (number_of p ∷ []) p.tally) parts → IsTally history (map number_of parts) all
