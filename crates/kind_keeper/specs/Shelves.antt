-- A list of rows for each kind, and how these lists hold the rows of tables.
use Rattle.std.specs.Prelude.{◌≡◌, ℕ, ◌+◌, ◌<◌, ◌≤◌, ◌==◌, Bool, List, [], ◌∷◌, length, slice_index_or, count_by, Vec, vec_len, vec_capacity}
use Rattle.std.specs.List.{flat_map}
use Rattle.std.specs.declared.alloc.Global.{Global}
use Rattle.ipam_data.specs.RowList.{Rises}
use Rattle.stored_tables.specs.declared.tables.Row.{Row}
use Rattle.stored_tables.specs.Stored.{kind_number, row_place}

-- the rows of one kind, with room for more
abbrev pub Shelf : Type 0
Shelf = Vec Row Global

-- all rows, list after list
abbrev pub all_rows : List Shelf → List Row
all_rows shelves = flat_map (λ (shelf : Shelf). shelf.items) shelves

-- the row is of the kind of this number
abbrev pub is_numbered : ℕ → Row → Bool
is_numbered n row = kind_number row.kind == n

-- each row is of the kind of this number, and its id is one that a row may have
abbrev pub AllOfKind : ℕ → List Row → Type 0
AllOfKind n [] = Unit {0}
AllOfKind n (row ∷ rows) = (kind_number row.kind ≡ n) × (row.id < 4294967296) × AllOfKind n rows

-- each list has the rows of one kind, the first one those of the kind of this number
abbrev pub AreByKind : ℕ → List Shelf → Type 0
AreByKind n [] = Unit {0}
AreByKind n (shelf ∷ shelves) = AllOfKind n shelf.items × AreByKind (n + 1) shelves

-- a list for each of the seven kinds, and all rows are in the order of kind and id
pub record AreShelves (shelves : List Shelf) : Type 0 where
  pub seven : length shelves ≡ 7
  pub kinds : AreByKind 1 shelves
  pub ordered : Rises row_place 0 (all_rows shelves)

-- the list of the kind of this number has room for those of these rows that are of the kind
abbrev pub HasRoom : ℕ → List Row → Shelf → Type 0
HasRoom n puts shelf = vec_len shelf + count_by (is_numbered n) puts ≤ vec_capacity shelf

-- and so has the list of each kind
abbrev pub HaveRoom : List Row → List Shelf → Type 0
HaveRoom puts shelves = (k : ℕ) (d : Shelf) → k < length shelves → HasRoom (k + 1) puts (slice_index_or shelves k d)
