-- Who may put entries into the history under which number, and what is kept of the numbers of joined seats.
use Rattle.std.specs.Prelude.{◌≡◌, ◌≢◌, ◌⊎◌, ℕ, ◌+◌, ◌<◌, ◌≤◌, List, [], Contains, Bool, true, false}
use mathlib.Core.Option.{some}
use lib.ListN.{get_elem?}
use Rattle.history_lock.specs.Replay.{own_entries}
use Rattle.history_lock.specs.declared.views.View.{View}

-- what a seat has of numbers: its own, how many from there on are in its gift, its weight, and the ended numbers that it keeps with their entries
pub record Holding (C : Type 0) : Type 0 where
  pub live : Bool
  pub number : ℕ
  pub spare : ℕ
  pub weight : ℕ
  pub ended : List (ℕ × List (ℕ × C))

-- what a view says of numbers
abbrev pub holding_of : {S C : Type 0} → View S C → Holding C
holding_of v = record { live = v.live; number = v.number; spare = v.spare; weight = v.weight; ended = v.ended }

module _ {C : Type 0} where
  -- the number is this live seat's own, or one that it may give to a new seat
  abbrev pub OwnsNumber : Holding C → ℕ → Type 0
  OwnsNumber h n = (h.live ≡ true) × (h.number ≤ n) × (n < h.number + h.spare)

  -- the number is the seat's own, or that of a seat that was joined to it
  abbrev pub BearsNumber : Holding C → ℕ → Type 0
  BearsNumber h n = (n ≡ h.number) ⊎ ((es : List (ℕ × C)) × Contains h.ended (n, es))

-- the clauses of the lock's rule on numbers
pub record KeepsNumbers {C : Type 0} (history : List (ℕ × C)) (hs : List (Holding C)) : Type 0 where
  -- a live seat's weight is at least its spare, its spare at least 1, and its numbers are below 65,536
  pub sized : (i : ℕ) (h : Holding C) → get_elem? hs i ≡ some h → h.live ≡ true → (1 ≤ h.spare) × (h.spare ≤ h.weight) × (h.number + h.spare ≤ 65536)
  -- a spent seat has no weight
  pub spent : (i : ℕ) (h : Holding C) → get_elem? hs i ≡ some h → h.live ≡ false → h.weight ≡ 0
  -- no two live seats own one number
  pub apart : (i j : ℕ) (h k : Holding C) (n : ℕ) → get_elem? hs i ≡ some h → get_elem? hs j ≡ some k → OwnsNumber h n → OwnsNumber k n → i ≡ j
  -- of the numbers that a seat owns only its own number may have an entry
  pub idle : (i : ℕ) (h : Holding C) (n : ℕ) → get_elem? hs i ≡ some h → OwnsNumber h n → n ≢ h.number → own_entries n history ≡ []
  -- each number with an entry is a live seat's or is among one's ended numbers
  pub known : (n : ℕ) → (own_entries n history ≡ []) ⊎ ((i : ℕ) × (h : Holding C) × (get_elem? hs i ≡ some h) × (h.live ≡ true) × BearsNumber h n)
  -- an ended number is owned by no live seat, and its entries in the history are those kept for it
  pub gone : (i : ℕ) (h : Holding C) (e : ℕ × List (ℕ × C)) → get_elem? hs i ≡ some h → h.live ≡ true → Contains h.ended e → ((j : ℕ) (k : Holding C) → get_elem? hs j ≡ some k → ¬ OwnsNumber k e.0) × (own_entries e.0 history ≡ e.1)
