-- What the rows of an import lead to.
use Rattle.std.specs.Prelude.{◌≡◌, ℕ, ◌==◌, List, None, if◌then◌else◌}
use Rattle.ipam_data.specs.declared.kinds.Kind.{Kind}
use Rattle.ipam_data.specs.declared.replies.View.{View}
use Rattle.ipam_data.specs.Checks.{first}
use Rattle.ipam_data.specs.State.{State}
use Rattle.ipam_data.specs.Imports.{next_of}
use Rattle.ipam_data.specs.declared.imports.ImportRow.{ImportRow}
use Rattle.ipam_data.specs.Imports.{begun, after_rows, row_verdicts}
use Rattle.register_plans.specs.declared.imports.tried.Made.{Made}

-- no row is refused, and this is the state that the rows lead to, with the records that they made
pub record AreMade (old : State) (kind : Kind) (rows : List ImportRow) (after : State) (made : List View) : Type 0 where
  pub verdict : first (row_verdicts old kind (begun old) 1 rows) ≡ None
  pub state : (after_rows old kind (begun old) rows).state ≡ after
  pub records : (after_rows old kind (begun old) rows).made ≡ made

-- no row is refused, and these are the records that they make, with the next id after them
pub record AreTried (old : State) (kind : Kind) (rows : List ImportRow) (made : Made) : Type 0 where
  pub verdict : first (row_verdicts old kind (begun old) 1 rows) ≡ None
  pub next : next_of (after_rows old kind (begun old) rows).state kind ≡ made.next
  pub records : (after_rows old kind (begun old) rows).made ≡ made.records.items

-- the log items of an import of so many rows
abbrev pub items_for : ℕ → ℕ
items_for count = if count == 0 then 1 else count
