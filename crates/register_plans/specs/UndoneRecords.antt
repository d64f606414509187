-- Records that are made and taken back.
use Rattle.std.specs.Prelude.{◌≡◌, ℕ, zero, suc, ◌+◌, ◌-◌, ◌≤◌, List, [], ◌∷◌, fold}
use Rattle.ipam_data.specs.declared.kinds.Kind.{Kind}
use Rattle.ipam_data.specs.State.{State}
use Rattle.ipam_data.specs.Updates.{without_row, with_next}
use Rattle.ipam_data.specs.Imports.{next_of}

-- so many ids of a kind from the first on, the last one first
abbrev pub ids_down : Kind → ℕ → ℕ → List (Kind × ℕ)
ids_down kind first zero = []
ids_down kind first (suc n) = (kind, first + n) ∷ ids_down kind first n

-- the rows of a kind from an id on taken out, the last one first, and that id the next one again
abbrev pub taken_back : State → Kind → ℕ → State
taken_back s kind first = with_next (fold without_row s (ids_down kind first (next_of s kind - first))) (kind, first)

-- a state that is ahead of an old one by records of a kind: with them taken back it is the old one
pub record IsAhead (old : State) (kind : Kind) (now : State) : Type 0 where
  pub later : next_of old kind ≤ next_of now kind
  pub back : taken_back now kind (next_of old kind) ≡ old
