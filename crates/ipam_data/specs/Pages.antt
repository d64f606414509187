-- A page of the rows that meet a filter, built row by row.
use Rattle.std.specs.Prelude.{ℕ, ◌-◌, ◌&&◌, nat_le, nat_lt, Bool, List, [], ◌∷◌, map, filter, if◌then◌else◌}
use Rattle.ipam_data.specs.RowList.{page}

-- the row before which so many meet a filter is on the page of this limit and offset
abbrev pub is_paged : ℕ → ℕ → ℕ → Bool
is_paged before limit offset = nat_le offset before && nat_lt (before - offset) limit

-- one more, if it holds
abbrev pub one_if : Bool → ℕ
one_if t = if t then 1 else 0

-- the one, if it holds
abbrev pub only_if : {A : Type 0} → Bool → A → List A
only_if t x = if t then x ∷ [] else []

-- the page of the rows that meet a test, as they are answered
abbrev pub page_of : {T U : Type 0} → (T → U) → (T → Bool) → ℕ → ℕ → List T → List U
page_of view test limit offset rows = map view (page limit offset (filter test rows))
