-- A page of rows that are found by their ids.
use Rattle.std.specs.Prelude.{ℕ, ◌&&◌, Bool, List, [], Option, Some, None}
use Rattle.ipam_data.specs.Pages.{is_paged, one_if, only_if}

-- a row that may be there: whether one more meets the test, and what it adds to a page
abbrev pub one_of : {T : Type 0} → (T → Bool) → Option T → ℕ
one_of test None = 0
one_of test (Some row) = one_if (test row)

abbrev pub only_of : {T U : Type 0} → (T → U) → (T → Bool) → ℕ → ℕ → ℕ → Option T → List U
only_of view test before limit offset None = []
only_of view test before limit offset (Some row) = only_if (test row && is_paged before limit offset) (view row)
