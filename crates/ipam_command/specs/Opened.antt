-- Tables that open: they have no fault, and they represent one state.
use Rattle.std.specs.Prelude.{◌≡◌, Bool}
use Rattle.ipam_data.specs.State.{State}
use Rattle.stored_tables.specs.declared.tables.Tables.{Tables}
use Rattle.stored_tables.specs.declared.opening.OpenFault.{OpenFault}
use Rattle.stored_tables.specs.Opening.{IsRefused, IsOfTables, IsOpening}

-- tables that open have no fault
abbrev pub OpenedHaveNoFault : Type 0
OpenedHaveNoFault = (tables : Tables) (global_unique : Bool) (state : State) (fault : OpenFault) → IsOpening tables global_unique state
    → IsOfTables fault → ¬ IsRefused tables global_unique fault

-- they open to one state
abbrev pub OpenedToOneState : Type 0
OpenedToOneState = (tables : Tables) (global_unique : Bool) (one other : State) → IsOpening tables global_unique one
    → IsOpening tables global_unique other → one ≡ other
