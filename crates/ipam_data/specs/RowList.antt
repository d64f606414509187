-- The rows of one kind: a list in the order of their ids, and the next id. All that is done to such a list is said here once,
-- for the rows of any kind and the function that gives a row's id.
use Rattle.std.specs.Prelude.{ℕ, ◌+◌, ◌<◌, ◌≤◌, ◌==◌, ◌&&◌, ◌≡◌, Contains, nat_lt, Bool, not, List, [], ◌∷◌, Option, None, option_map, find, filter, length, if◌then◌else◌, map, take, drop, Some, IsSome, ◌⊎◌}
use Rattle.std.specs.Option.{option_or}
use Rattle.ipam_data.specs.declared.kinds.TheConstants.{LAST_ID}

-- the rows of a kind in the order of their ids, and the next id
pub record RowList (T : Type 0) : Type 0 where
  pub rows : List T
  pub next : ℕ

-- the greatest id that is ever next; no row has it
abbrev pub last_next : ℕ
last_next = LAST_ID + 1

module _ {T : Type 0} (id : T → ℕ) where
  -- the row of an id
  abbrev pub row_at : List T → ℕ → Option T
  row_at rows n = find (λ row. id row == n) rows

  -- the row of the least id above
  abbrev pub row_after : List T → ℕ → Option T
  row_after rows n = find (λ row. nat_lt n (id row)) rows

  -- the rows with this one in the place of the one of its id, or else at the end
  abbrev pub with_row : List T → T → List T
  with_row [] row = row ∷ []
  with_row (x ∷ xs) row = if id x == id row then row ∷ xs else x ∷ with_row xs row

  -- the rows with this one in its place in the order of ids, or in the place of the one of its id
  abbrev pub placed : List T → T → List T
  placed [] row = row ∷ []
  placed (x ∷ xs) row = if id x == id row then row ∷ xs else (if nat_lt (id row) (id x) then row ∷ x ∷ xs else x ∷ placed xs row)

  -- the rows of other ids
  abbrev pub without : List T → ℕ → List T
  without rows n = filter (λ row. not (id row == n)) rows

  -- the least id of a row that meets the test
  abbrev pub least : (T → Bool) → List T → Option ℕ
  least test rows = option_map id (find test rows)

  -- of the first row that has a later one like it: its id, and that of the first such later one
  abbrev pub least_pair : (T → T → Bool) → List T → Option (ℕ × ℕ)
  least_pair like [] = None
  least_pair like (x ∷ xs) = option_or (option_map (λ y. (id x, id y)) (find (like x) xs)) (least_pair like xs)

  -- the other row has another id, and the test holds between the two
  abbrev pub is_rival : (T → T → Bool) → T → T → Bool
  is_rival clashes row other = not (id other == id row) && clashes row other

  -- the least id of another row with which this one clashes
  abbrev pub least_rival : (T → T → Bool) → List T → T → Option ℕ
  least_rival clashes rows row = least (is_rival clashes row) rows

  -- two rows that have in common what two may not have are one row
  abbrev pub IsApart : (T → T → Type 0) → List T → Type 0
  IsApart Clashes rows = (x y : T) → Contains rows x → Contains rows y → Clashes x y → id x ≡ id y

  -- the ids rise, from above this number
  abbrev pub Rises : ℕ → List T → Type 0
  Rises low [] = Unit {0}
  Rises low (x ∷ xs) = (low < id x) × Rises (id x) xs

  -- each id is below this number
  abbrev pub AllBelow : ℕ → List T → Type 0
  AllBelow high [] = Unit {0}
  AllBelow high (x ∷ xs) = (id x < high) × AllBelow high xs

  -- a row may be put: one of its id exists, or its id is above all
  abbrev pub IsFitting : List T → T → Type 0
  IsFitting rows row = IsSome (row_at rows (id row)) ⊎ AllBelow (id row) rows

  -- ids are from 1, in order and below the next one, and there are no more rows than the limit
  pub record IsRowList (most : ℕ) (row_list : RowList T) : Type 0 where
    pub ordered : Rises 0 row_list.rows
    pub below : AllBelow row_list.next row_list.rows
    pub few : length row_list.rows ≤ most
    pub next_low : 1 ≤ row_list.next
    pub next_fits : row_list.next ≤ last_next

  -- the row list with one more row, whose id is the next one
  abbrev pub appended : RowList T → T → RowList T
  appended row_list row = record { rows = with_row row_list.rows row; next = row_list.next + 1 }

  -- the row list with this row in the place of the one of its id
  abbrev pub replaced : RowList T → T → RowList T
  replaced row_list row = record { rows = with_row row_list.rows row; next = row_list.next }

  -- the row list without the row of an id, which no other row ever gets
  abbrev pub cleared_of : RowList T → ℕ → RowList T
  cleared_of row_list n = record { rows = without row_list.rows n; next = row_list.next }

-- the row list with each row changed
abbrev pub mapped : {T : Type 0} → (T → T) → RowList T → RowList T
mapped f row_list = record { rows = map f row_list.rows; next = row_list.next }

-- each row is so
abbrev pub AllAre : {T : Type 0} → (T → Type 0) → List T → Type 0
AllAre {T} Is rows = (x : T) → Contains rows x → Is x

-- each row that a row names exists
abbrev pub AllAreThere : {T U : Type 0} → (T → Option ℕ) → List T → (ℕ → Option U) → Type 0
AllAreThere {T} names rows at = (x : T) (n : ℕ) → Contains rows x → names x ≡ Some n → IsSome (at n)

-- the rows past the first `offset`, at most `limit`
abbrev pub page : {T : Type 0} → ℕ → ℕ → List T → List T
page limit offset rows = take limit (drop offset rows)
