-- A register without rows over tables without rows.
use Rattle.std.proofs.Common.{◌≡◌, ◌∙◌, true, refl}
use Rattle.ipam_data.specs.State.{empty_state}
use Rattle.ipam_keeper.specs.Memory.{Held}
use Rattle.stored_tables.specs.declared.tables.Tables.{Tables}
use Rattle.stored_tables.specs.Order.{empty_tables}
use Rattle.stored_tables.specs.Stored.{tables_of}

-- the tables without rows are those of the empty state
none_told : empty_tables ≡ tables_of (empty_state true)
none_told = refl

pub empty_told : (keeper : Held) (tables : Tables) → keeper.tables ≡ tables → tables ≡ empty_tables → keeper.tables ≡ tables_of (empty_state true)
empty_told keeper tables is none = is ∙ (none ∙ none_told)
