-- A book of rows in slots, under an index of ids and slots that is in the order of the ids.
use Rattle.std.specs.Prelude.{◌≡◌, ℕ, ◌==◌, List, [], ◌∷◌, Option, Some, None, slice_get, if◌then◌else◌}
use Rattle.placed_book.specs.declared.indexed.Entry.{Entry}

abbrev pub entry_id : Entry → ℕ
entry_id e = e.id

-- the entry names the second slot if it named the first
abbrev pub settle : ℕ → ℕ → Entry → Entry
settle from to e = if e.slot == from then record { id = e.id; slot = to } else e

-- each entry names the second slot if it named the first
abbrev pub resettled : ℕ → ℕ → List Entry → List Entry
resettled from to [] = []
resettled from to (e ∷ es) = settle from to e ∷ resettled from to es

-- only the entry of this id may name this slot
abbrev pub IsOnlyFor : ℕ → ℕ → List Entry → Type 0
IsOnlyFor n slot [] = Unit {0}
IsOnlyFor n slot (e ∷ es) = (e.slot ≡ slot → e.id ≡ n) × IsOnlyFor n slot es

module _ {T : Type 0} where
  -- a row before others, if there is one
  abbrev pub onto : Option T → List T → List T
  onto None rows = rows
  onto (Some row) rows = row ∷ rows

  -- the rows that an index names, in its order
  abbrev pub rows_of : List T → List Entry → List T
  rows_of slots [] = []
  rows_of slots (e ∷ es) = onto (slice_get slots e.slot) (rows_of slots es)

  module _ (id : T → ℕ) where
    -- the slot of an entry has the row of its id
    pub record IsKept (slots : List T) (e : Entry) : Type 0 where
      pub row : T
      pub there : slice_get slots e.slot ≡ Some row
      pub same : id row ≡ e.id

    -- each entry's slot has the row of its id, so that two entries never name one slot
    abbrev pub AreKept : List T → List Entry → Type 0
    AreKept slots [] = Unit {0}
    AreKept slots (e ∷ es) = IsKept slots e × AreKept slots es
