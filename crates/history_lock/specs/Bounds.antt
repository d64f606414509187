-- A law of the rule: no fault that a seat met is lost from the machine's count.
use Rattle.std.specs.Prelude.{◌≡◌, ◌⊎◌, ℕ, ◌+◌, [], ◌∷◌, Some, if◌then◌else◌}
use mathlib.Core.Option.{none, some}
use lib.ListN.{get_elem?}
use Rattle.history_lock.specs.Machines.{Meaning, Reaches}
use Rattle.history_lock.specs.Views.{HasTurn}
use Rattle.history_lock.specs.LockRule.{Board, KeepsOneHistory, total}
use Rattle.history_lock.specs.declared.views.View.{View}

-- the faults that the seat with this view met, if it is live
abbrev pub live_faults : {S C : Type 0} → View S C → ℕ
live_faults v = if v.live then v.faults else 0

-- this is the machine's count of faults: that of the machine in the slot, or what the seat that took it knows, with the fault of its own call
abbrev pub HasCount : {M S C A : Type 0} → Meaning M S C A → Board M S C → ℕ → Type 0
HasCount {M} {S} {C} W s count =
    ((x : M) × (s.homes ≡ some (Some x) ∷ []) × (count ≡ W.faults x))
    ⊎ ((s.homes ≡ none ∷ []) × (j : ℕ) × (v : View S C) × (get_elem? s.views j ≡ some v) × HasTurn v.stage × (count ≡ v.total))

-- in each state that the rule admits there is such a count, and the faults of all live seats together are at most what it has risen
-- since the lock was made, until it is at the last value of a u64
abbrev pub FaultsAreBounded : {M S C A : Type 0} → Meaning M S C A → Type 0
FaultsAreBounded {M} {S} {C} W = (key : M) (s : Board M S C) → KeepsOneHistory W key s
    → ((count : ℕ) × HasCount W s count) × ((count : ℕ) → HasCount W s count → Reaches (W.faults key + total live_faults s.views) count)
