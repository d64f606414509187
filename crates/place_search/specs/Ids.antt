-- The ids of the rows that pass a test.
use Rattle.std.specs.Prelude.{◌≡◌, ◌⊎◌, ℕ, ◌≤◌, Bool, true, List, Contains, length}
use Rattle.std.specs.List.Sorted.{IsStrictlyIncreasing}
use Rattle.placed_book.specs.Book.{Placed}
use Rattle.place_search.specs.declared.TheConstants.{MOST_CANDIDATES}

-- it is the id of a row that passes
abbrev pub IsIdOf : (Placed → Bool) → List Placed → ℕ → Type 0
IsIdOf test rows n = (row : Placed) × Contains rows row × (test row ≡ true) × (row.id ≡ n)

-- just the ids of the rows that pass, rising, each once, and no more than are looked up
pub record ListsIds (test : Placed → Bool) (rows : List Placed) (ids : List ℕ) : Type 0 where
  pub rises : IsStrictlyIncreasing ids
  pub few : length ids ≤ MOST_CANDIDATES
  pub all : (row : Placed) → Contains rows row → test row ≡ true → Contains ids row.id
  pub each : (n : ℕ) → Contains ids n → IsIdOf test rows n

-- besides the old ones just the ids of the rows that pass, in any order
pub record HasMore (test : Placed → Bool) (rows : List Placed) (old new : List ℕ) : Type 0 where
  pub kept : (n : ℕ) → Contains old n → Contains new n
  pub all : (row : Placed) → Contains rows row → test row ≡ true → Contains new row.id
  pub each : (n : ℕ) → Contains new n → Contains old n ⊎ IsIdOf test rows n

-- the numbers of a list, rising, each once
pub record IsRising (old new : List ℕ) : Type 0 where
  pub rises : IsStrictlyIncreasing new
  pub all : (n : ℕ) → Contains old n → Contains new n
  pub each : (n : ℕ) → Contains new n → Contains old n
