-- Stored tables that are opened: what is wrong with them, if anything, and the state that they represent. Each pass goes over all
-- rows, by kind and id, before the next begins.
use Rattle.std.specs.Prelude.{◌≡◌, ◌≢◌, ℕ, ◌≤◌, ◌==◌, ◌||◌, ◌&&◌, nat_lt, Bool, not, List, [], ◌∷◌, ◌++◌, Option, Some, None, option_map, find, fold, map, count_by, if◌then◌else◌}
use Rattle.std.specs.List.{list_any}
use Rattle.std.specs.Option.{option_or}
use Rattle.ipam_data.specs.declared.kinds.Kind.{Kind}
use Rattle.ipam_data.specs.declared.kinds.Kind.TheVariants.{Vrfs, Rirs, Roles, Aggregates, Prefixes, Ranges, Addresses}
use Rattle.ipam_data.specs.declared.replies.Rule.{Rule}
use Rattle.ipam_data.specs.declared.replies.Which.{Which}
use Rattle.ipam_data.specs.declared.replies.Which.TheVariants.{Kind as OfKind}
use Rattle.ipam_data.specs.declared.replies.View.{View}
use Rattle.stored_tables.specs.declared.tables.Row.{Row}
use Rattle.stored_tables.specs.declared.tables.Tables.{Tables}
use Rattle.stored_tables.specs.declared.opening.Breach.{Breach}
use Rattle.stored_tables.specs.declared.opening.OpenFault.{OpenFault}
use Rattle.stored_tables.specs.declared.opening.OpenFault.TheVariants.{Keeper, BadTables, Memory, BadRow, Version, BadNext, Limit}
use Rattle.ipam_data.specs.RowList.{RowList, last_next}
use Rattle.ipam_data.specs.Checks.{first}
use Rattle.ipam_data.specs.State.{State}
use Rattle.ipam_data.specs.ByKind.{by_kind, by_view}
use Rattle.ipam_data.specs.Updates.{with_view}
use Rattle.ipam_data.specs.Lawful.{IsLawful}
use Rattle.stored_tables.specs.Stored.{stored_row, tables_of, kinds, kind_number, stored_version}
use Rattle.stored_tables.specs.Order.{AreTables}
use Rattle.stored_tables.specs.Reading.{IsBare}

-- ---- the rules

-- the first rule that a row breaks given the rows of a state, its references first
abbrev pub broken : State → View → Option Rule
broken s view = by_view view (λ T rules row. first (rules.references s row ++ rules.faults s None row))

-- a row with the rule that it breaks given the rows of a state
abbrev pub breach_of : State → View → Option Breach
breach_of s view = option_map (λ rule. record { kind = (stored_row view).kind; id = (stored_row view).id; rule = rule }) (broken s view)

-- of rows that are one after another, the first that breaks a rule given those that are before it
abbrev pub first_breach : State → List View → Option Breach
first_breach s [] = None
first_breach s (view ∷ views) = option_or (breach_of s view) (first_breach (with_view s view) views)

-- ---- the state

-- the given next id of a kind, or 0
abbrev pub told_next : List (Kind × ℕ) → Kind → ℕ
told_next [] kind = 0
told_next (next ∷ nexts) kind = if kind_number next.0 == kind_number kind then next.1 else told_next nexts kind

-- a kind without rows, with its given next id
abbrev pub bare_row_list : {T : Type 0} → List (Kind × ℕ) → Kind → RowList T
bare_row_list nexts kind = record { rows = []; next = told_next nexts kind }

-- the state without rows, with these next ids, before anything was spent
abbrev pub bare_state : List (Kind × ℕ) → Bool → State
bare_state nexts global_unique = record {
  vrfs = bare_row_list nexts Vrfs;
  rirs = bare_row_list nexts Rirs;
  roles = bare_row_list nexts Roles;
  aggregates = bare_row_list nexts Aggregates;
  prefixes = bare_row_list nexts Prefixes;
  ranges = bare_row_list nexts Ranges;
  addresses = bare_row_list nexts Addresses;
  global_unique = global_unique;
  spent = 0;
}

-- the state of rows that are put one after another
abbrev pub loaded : List (Kind × ℕ) → Bool → List View → State
loaded nexts global_unique views = fold with_view (bare_state nexts global_unique) views

-- ---- the passes

-- how many rows of a kind there may be
abbrev pub most_of : Kind → ℕ
most_of kind = by_kind kind (λ T rules. rules.most)

-- the row is of the kind
abbrev pub is_of_kind : Kind → Row → Bool
is_of_kind kind row = kind_number row.kind == kind_number kind

-- there are more rows of the kind than there may be
abbrev pub is_overfull : List Row → Kind → Bool
is_overfull rows kind = nat_lt (most_of kind) (count_by (is_of_kind kind) rows)

-- the row is of the kind, and its id is not below this one
abbrev pub is_past : Kind → ℕ → Row → Bool
is_past kind next row = is_of_kind kind row && not (nat_lt row.id next)

-- the next id of the kind is absent or 0, or not above all ids of the kind
abbrev pub is_bad_next : List (Kind × ℕ) → List Row → Kind → Bool
is_bad_next nexts rows kind = told_next nexts kind == 0 || list_any (is_past kind (told_next nexts kind)) rows

-- each row is one as its type keeps it, without figures
abbrev pub AllBare : List View → Type 0
AllBare [] = Unit {0}
AllBare (view ∷ views) = IsBare view × AllBare views

-- the first row that is that of no view: those before it are, and it has this kind and id
pub record IsUnread (rows : List Row) (kind : Kind) (id : ℕ) : Type 0 where
  pub front : List View
  pub row : Row
  pub rest : List Row
  pub split : rows ≡ map stored_row front ++ row ∷ rest
  pub bare : AllBare front
  pub kind_is : row.kind ≡ kind
  pub id_is : row.id ≡ id
  pub none : (view : View) → IsBare view → stored_row view ≢ row

-- the tables have the version of the register's, and their rows are those of these views
pub record IsReadable (tables : Tables) (views : List View) : Type 0 where
  pub version : tables.version ≡ stored_version
  pub stored : map stored_row views ≡ tables.rows
  pub bare : AllBare views

-- and no kind has more rows than it may have
pub record IsWithin (tables : Tables) (views : List View) : Type 0 where
  pub readable : IsReadable tables views
  pub few : find (is_overfull tables.rows) kinds ≡ None

-- and no row breaks a rule given those before it
pub record IsUnbroken (tables : Tables) (global_unique : Bool) (views : List View) : Type 0 where
  pub within : IsWithin tables views
  pub unbroken : first_breach (bare_state tables.next global_unique) views ≡ None

-- and each next id is above all ids of its kind: nothing is found
pub record IsAccepted (tables : Tables) (global_unique : Bool) (views : List View) : Type 0 where
  pub rows : IsUnbroken tables global_unique views
  pub nexts : find (is_bad_next tables.next tables.rows) kinds ≡ None

-- a kind, the first in order that has too many rows, with the limit
pub record IsOverfull (rows : List Row) (which : Which) (most : ℕ) : Type 0 where
  pub kind : Kind
  pub which_is : which ≡ OfKind kind
  pub most_is : most ≡ most_of kind
  pub found : find (is_overfull rows) kinds ≡ Some kind

-- what a refusal says of the tables: each pass found nothing before the one that found it
abbrev pub IsRefused : Tables → Bool → OpenFault → Type 0
IsRefused tables global_unique (Version version) = (tables.version ≡ version) × (version ≢ stored_version)
IsRefused tables global_unique (BadRow kind id) = (tables.version ≡ stored_version) × IsUnread tables.rows kind id
IsRefused tables global_unique (Limit which most) = (views : List View) × IsReadable tables views × IsOverfull tables.rows which most
IsRefused tables global_unique (BadTables kind id rule) = (views : List View) × IsWithin tables views
    × (first_breach (bare_state tables.next global_unique) views ≡ Some (record { kind = kind; id = id; rule = rule }))
IsRefused tables global_unique (BadNext kind) = (views : List View) × IsUnbroken tables global_unique views
    × (find (is_bad_next tables.next tables.rows) kinds ≡ Some kind)
IsRefused tables global_unique Keeper = Unit {0}
IsRefused tables global_unique Memory = Unit {0}

-- the fault is one of the tables
abbrev pub IsOfTables : OpenFault → Type 0
IsOfTables Keeper = ⊥
IsOfTables Memory = ⊥
IsOfTables fault = Unit {0}

-- ---- the laws

-- the state that the tables represent: it is lawful, its tables are these, and nothing is spent
pub record IsOpening (tables : Tables) (global_unique : Bool) (state : State) : Type 0 where
  pub lawful : IsLawful state
  pub tables_are : tables_of state ≡ tables
  pub unique : state.global_unique ≡ global_unique
  pub spent : state.spent ≡ 0

-- the given next ids are those that may be next
abbrev pub AreNextIds : List (Kind × ℕ) → Type 0
AreNextIds nexts = (kind : Kind) → told_next nexts kind ≤ last_next

-- tables in which nothing is found represent the state of their rows
abbrev pub AcceptedAreOpened : Type 0
AcceptedAreOpened = (tables : Tables) (global_unique : Bool) (views : List View) → AreTables tables → AreNextIds tables.next
    → IsAccepted tables global_unique views → IsOpening tables global_unique (loaded tables.next global_unique views)

-- tables are read as one list of rows, are accepted or have one fault, and not both
pub record OpeningIsOne : Type 0 where
  pub views : (tables : Tables) (one other : List View) → IsReadable tables one → IsReadable tables other → one ≡ other
  pub faults : (tables : Tables) (global_unique : Bool) (one other : OpenFault) → IsOfTables one → IsOfTables other
      → IsRefused tables global_unique one → IsRefused tables global_unique other → one ≡ other
  pub apart : (tables : Tables) (global_unique : Bool) (views : List View) (fault : OpenFault) → IsOfTables fault
      → IsAccepted tables global_unique views → ¬ IsRefused tables global_unique fault
