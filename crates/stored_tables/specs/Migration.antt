-- Tables of version 1, in which ranges had no mark: those that represented a state, and what becomes of them.
use Rattle.std.specs.Prelude.{◌≡◌, ℕ, ◌==◌, ◌∷◌, ◌++◌, Bool, not, true, false, List, [], Option, Some, None, option_map, map, find, length, take, drop, count_by, codes, if◌then◌else◌}
use Rattle.std.specs.List.{flat_map}
use Rattle.ipam_data.specs.declared.range.IpRange.{IpRange}
use Rattle.ipam_data.specs.declared.kinds.Kind.{Kind}
use Rattle.ipam_data.specs.declared.kinds.Kind.TheVariants.{Ranges}
use Rattle.ipam_data.specs.declared.replies.View.{View}
use Rattle.ipam_data.specs.declared.replies.View.TheVariants.{IpRange as RangeView}
use Rattle.ipam_data.specs.State.{State}
use Rattle.ipam_data.specs.ByKind.{by_kind}
use Rattle.ipam_data.specs.Marks.{marked}
use Rattle.stored_tables.specs.declared.tables.Row.{Row}
use Rattle.stored_tables.specs.declared.tables.Tables.{Tables}
use Rattle.stored_tables.specs.declared.migration.MigrateFault.{MigrateFault}
use Rattle.stored_tables.specs.declared.migration.MigrateFault.TheVariants.{Version, BadRow, Memory}
use Rattle.stored_tables.specs.Stored.{flag_text, reference_text, host_text, range_status_text, stored_columns, stored_row, kinds, next_ids, next_of, tables_of, stored_version}

-- ---- tables of version 1

-- the version of files before ranges had a mark
abbrev pub first_version : ℕ
first_version = 1

-- the columns that ranges had then, and those of the other kinds
abbrev pub first_columns : Kind → List (List ℕ)
first_columns Ranges = codes "start_address" ∷ codes "end_address" ∷ codes "vrf" ∷ codes "status" ∷ codes "role" ∷ codes "mark_utilized" ∷ codes "description" ∷ []
first_columns kind = stored_columns kind

-- start_address, end_address, vrf, status, role, mark_utilized, description
unfoldable pub first_range_texts : IpRange → List (List ℕ)
first_range_texts row =
    host_text row.ends.start row.ends.len ∷ host_text row.ends.end row.ends.len ∷ reference_text row.vrf ∷ range_status_text row.status
    ∷ reference_text row.role ∷ flag_text row.mark_utilized ∷ row.description ∷ []

-- the stored row of a row as it was: that of a range had no mark
abbrev pub first_row : View → Row
first_row (RangeView row) = record { kind = Ranges; id = row.id; fields = first_range_texts row }
first_row view = stored_row view

abbrev pub first_rows : State → Kind → List Row
first_rows s kind = by_kind kind (λ T rules. map (λ row. first_row (rules.view row)) (rules.row_list s).rows)

-- the tables of version 1 that represented a state, whatever the marks of its ranges
abbrev pub first_tables_of : State → Tables
first_tables_of s = record {
  version = first_version;
  next = next_ids (next_of s) kinds;
  rows = flat_map (first_rows s) kinds;
}

-- ---- what becomes of them

-- how many texts the row of a range had
abbrev pub first_texts : ℕ
first_texts = 7

-- the texts of a range get the mark before the last one, and those of the other kinds stay
abbrev pub migrated_fields : Bool → Kind → List (List ℕ) → List (List ℕ)
migrated_fields populated Ranges fields = take 6 fields ++ (flag_text populated ∷ []) ++ drop 6 fields
migrated_fields populated kind fields = fields

abbrev pub migrated_row : Bool → Row → Row
migrated_row populated row = record { kind = row.kind; id = row.id; fields = migrated_fields populated row.kind row.fields }

-- every range is marked as asked, the version is that of the register's tables, and all else is as before
abbrev pub migrated : Bool → Tables → Tables
migrated populated tables = record { version = stored_version; next = tables.next; rows = map (migrated_row populated) tables.rows }

-- a range with another number of texts
abbrev pub has_wrong_count : Kind → List (List ℕ) → Bool
has_wrong_count Ranges fields = not (length fields == first_texts)
has_wrong_count kind fields = false

abbrev pub is_misshapen : Row → Bool
is_misshapen row = has_wrong_count row.kind row.fields

-- why tables are not migrated, if so: their version, or else the first range with another number of texts
abbrev pub unmigrated : Tables → Option MigrateFault
unmigrated tables =
    if tables.version == first_version then option_map (λ row. BadRow row.kind row.id) (find is_misshapen tables.rows) else Some (Version tables.version)

-- what a refusal says of the tables
abbrev pub IsUnmigrated : Tables → MigrateFault → Type 0
IsUnmigrated tables Memory = Unit {0}
IsUnmigrated tables fault = unmigrated tables ≡ Some fault

-- how many ranges there are
abbrev pub is_range : Kind → Bool
is_range Ranges = true
is_range kind = false

abbrev pub range_count : Tables → ℕ
range_count tables = count_by (λ row. is_range row.kind) tables.rows

-- ---- the law

-- tables of version 1 that represent a state become those that represent that state with every mark as asked
abbrev pub MigratedTablesStand : Type 0
MigratedTablesStand = (s : State) (populated : Bool)
    → (unmigrated (first_tables_of s) ≡ None) × (migrated populated (first_tables_of s) ≡ tables_of (marked populated s))
