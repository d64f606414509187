-- Runs of numbers: those from a first one to a last one, both among them, and lists of runs that rise and do not touch.
use Rattle.std.specs.Prelude.{ℕ, ◌+◌, ◌-◌, ◌<◌, ◌≤◌, min, max, Bool, ◌&&◌, nat_le, nat_lt, if◌then◌else◌, List, [], ◌∷◌}
use Rattle.std.specs.List.{list_any, AllByRecursion}
use Rattle.span_set.specs.declared.runs.Run.{Run}

-- the run has the number, as a test
abbrev pub in_run : Run → ℕ → Bool
in_run run a = nat_le run.first a && nat_le a run.last

-- some run of the list has the number, as a test
abbrev pub in_runs : List Run → ℕ → Bool
in_runs runs a = list_any (λ run. in_run run a) runs

-- the number is one of those from first to last
abbrev pub IsBetween : ℕ → ℕ → ℕ → Type 0
IsBetween first last a = (first ≤ a) × (a ≤ last)

-- the runs rise from a number on, and between two of them at least one number is left out
abbrev pub AreApart : ℕ → List Run → Type 0
AreApart from [] = Unit {0}
AreApart from (run ∷ runs) = (from ≤ run.first) × (run.first ≤ run.last) × AreApart (run.last + 2) runs

-- each run ends below the limit
abbrev pub EndBelow : ℕ → List Run → Type 0
EndBelow limit runs = AllByRecursion (λ run. run.last < limit) runs

-- what a run has before a number, as a list of one run or none
abbrev pub left_part : ℕ → Run → List Run
left_part first run = if nat_lt run.first first then (record { first = run.first; last = first - 1 }) ∷ [] else []

-- what a run has after a number, as a list of one run or none
abbrev pub right_part : ℕ → Run → List Run
right_part last run = if nat_lt last run.last then (record { first = last + 1; last = run.last }) ∷ [] else []

-- how many numbers a run has of those from first to last
abbrev pub shared : ℕ → ℕ → Run → ℕ
shared first last run = (min run.last last + 1) - max run.first first
