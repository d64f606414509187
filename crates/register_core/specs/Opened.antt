-- What is said of stored tables that are opened, pass by pass and as a whole.
use Rattle.std.specs.Prelude.{◌≡◌, ℕ, Bool, List, Option, Some, None, Result, Ok, Err, map}
use Rattle.ipam_data.specs.declared.kinds.Kind.{Kind}
use Rattle.ipam_data.specs.declared.replies.View.{View}
use Rattle.ipam_data.specs.State.{State}
use Rattle.stored_tables.specs.declared.tables.Row.{Row}
use Rattle.stored_tables.specs.declared.tables.Tables.{Tables}
use Rattle.stored_tables.specs.declared.opening.OpenFault.{OpenFault}
use Rattle.stored_tables.specs.Stored.{stored_row}
use Rattle.stored_tables.specs.Opening.{AllBare, IsUnread, IsOfTables, IsRefused, IsOpening}
use Rattle.ipam_keeper.specs.Keeping.{IsTold}
use Rattle.register_tables.specs.Held.{Held, state_of}

-- these views are those of the rows, one for each
pub record AreOf (rows : List Row) (views : List View) : Type 0 where
  pub stored : map stored_row views ≡ rows
  pub bare : AllBare views

-- rows that are read: into these views, or up to the first that is that of no view
abbrev pub AreRead : List Row → List View → Option (Kind × ℕ) → Type 0
AreRead rows views None = AreOf rows views
AreRead rows views (Some unread) = IsUnread rows unread.0 unread.1

-- the state is one that the known tables represent
abbrev pub IsOpened : Option Tables → Bool → State → Type 0
IsOpened told global_unique state = (tables : Tables) × IsTold told tables × IsOpening tables global_unique state

-- the fault is one of the known tables
abbrev pub IsUnopened : Option Tables → Bool → OpenFault → Type 0
IsUnopened told global_unique fault = (tables : Tables) × IsTold told tables × IsRefused tables global_unique fault

-- tables that are checked: they represent the state of what is held, or have this fault
abbrev pub IsChecked : Tables → Bool → Result Held OpenFault → Type 0
IsChecked tables global_unique (Ok held) = IsOpening tables global_unique (state_of held)
IsChecked tables global_unique (Err fault) = IsOfTables fault × IsRefused tables global_unique fault
