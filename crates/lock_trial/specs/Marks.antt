-- A marker, which keeps the last number that it was given: how it is seen, its plain step, and what its replies are to the lock.
use Rattle.std.specs.Prelude.{◌≡◌, ◌^◌, ◌<◌, ℕ, Bool, true, false, List, length}
use Rattle.history_lock.specs.Replies.{ReplyKind, accepted, fault, memory}
use Rattle.history_lock.specs.Replay.{replay}
use Rattle.lock_trial.specs.declared.marker.Marking.{Marking}
use Rattle.lock_trial.specs.declared.marker.Marking.TheVariants.{Marked, Failed, NoMemory}

-- a marker as contracts see it
pub record MarkerView : Type 0 where
  -- the last mark
  pub last : ℕ
  -- all marks, each with its caller's number
  pub marks : List (ℕ × ℕ)
  -- its keeper's count of faults
  pub faults : ℕ

-- the last mark after a call, and the reply
abbrev pub mark_step : ℕ → ℕ → ℕ × Marking
mark_step last mark = (mark, Marked)

-- what a reply is to the lock
abbrev pub marking_kind_of : Marking → ReplyKind
marking_kind_of Marked = accepted
marking_kind_of Failed = fault
marking_kind_of NoMemory = memory

-- the reply reports that the mark was made
abbrev pub is_marked : Marking → Bool
is_marked Marked = true
is_marked Failed = false
is_marked NoMemory = false

-- the last mark is the replay of all
pub record IsMarked (last : ℕ) (marks : List (ℕ × ℕ)) : Type 0 where
  pub replayed : last ≡ replay mark_step 0 marks
  pub few : length marks < 2 ^ 63
