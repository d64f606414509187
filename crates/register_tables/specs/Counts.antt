-- How many of the rows of an update have their place in each table, as the code keeps it: by the table's number.
use Rattle.std.specs.Prelude.{◌≡◌, ℕ, ◌==◌, List, Option, Some, None, count_by}
use Rattle.std.specs.HashMap.{HashMap, get}
use Rattle.ipam_data.specs.declared.kinds.Kind.{Kind}
use Rattle.ipam_data.specs.declared.kinds.Table.{Table}
use Rattle.ipam_data.specs.declared.replies.View.{View}
use Rattle.placed_book.specs.Keys.{number_of}
use Rattle.register_tables.specs.Held.{is_in}

-- the number that is kept, and 0 if none is
abbrev pub kept_or_0 : Option ℕ → ℕ
kept_or_0 None = 0
kept_or_0 (Some n) = n

-- how many rows are counted for a table
abbrev pub counted : {S : Type 0} → HashMap ℕ ℕ S → Table → ℕ
counted m table = kept_or_0 (get (◌==◌) m (number_of table))

-- what is counted of each table are the rows of a kind that have their place in it
abbrev pub AreCounted : {S : Type 0} → Kind → List View → HashMap ℕ ℕ S → Type 0
AreCounted kind views m = (t : Table) → counted m t ≡ count_by (is_in kind t) views
