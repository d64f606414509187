-- Tables of version 1 of a state become the tables of that state with every mark as asked.
use Rattle.std.proofs.Common.{◌≡◌, ℕ, Bool, true, false, List, [], ◌∷◌, ◌++◌, Some, None, option_map, map, find, refl, ap, ap₂, sym, subst, ◌∙◌, cond}
use Rattle.std.specs.List.{flat_map}
use Rattle.std.proofs.lemmas.List.{map-append}
use Rattle.ipam_data.specs.declared.kinds.Kind.{Kind}
use Rattle.ipam_data.specs.declared.kinds.Kind.TheVariants.{Vrfs, Rirs, Roles, Aggregates, Prefixes, Ranges, Addresses}
use Rattle.ipam_data.specs.declared.range.IpRange.{IpRange}
use Rattle.ipam_data.specs.RowList.{Rises}
use Rattle.ipam_data.specs.State.{State}
use Rattle.ipam_data.specs.Marks.{with_mark, marked}
use Rattle.stored_tables.specs.declared.tables.Row.{Row}
use Rattle.stored_tables.specs.declared.tables.Tables.{Tables}
use Rattle.stored_tables.specs.declared.migration.MigrateFault.TheVariants.{BadRow}
use Rattle.stored_tables.specs.Stored.{row_place, stored_vrf, stored_rir, stored_role, stored_aggregate, stored_prefix, stored_range, stored_address, stored_rows, kinds, range_texts}
use Rattle.stored_tables.specs.Order.{AreTables}
use Rattle.stored_tables.specs.Migration.{first_range_texts, first_rows, first_tables_of, migrated_row, migrated, is_misshapen, MigratedTablesStand}

-- rows keep their places
rows_rise : (populated : Bool) (low : ℕ) (rows : List Row) → Rises row_place low rows → Rises row_place low (map (migrated_row populated) rows)
rows_rise populated low [] rises = tt
rows_rise populated low (row ∷ rows) rises = (rises.0, rows_rise populated (row_place row) rows rises.1)

-- so migrated tables are in order
pub order_stays : (populated : Bool) (tables anew : Tables) → anew ≡ migrated populated tables → AreTables tables → AreTables anew
order_stays populated tables anew is order =
    subst AreTables (sym is) (record { rows = rows_rise populated 0 tables.rows order.rows; next = order.next })

-- rows that are changed one by one
each : {T : Type 0} (m : Row → Row) (old new : T → Row) → ((x : T) → m (old x) ≡ new x) → (xs : List T) → map m (map old xs) ≡ map new xs
each m old new same [] = refl
each m old new same (x ∷ xs) = ap₂ (λ (r : Row) (rs : List Row). r ∷ rs) (same x) (each m old new same xs)

-- the rows of ranges, whose marks are changed besides
each_marked : (m : Row → Row) (h : IpRange → IpRange) (old new : IpRange → Row) → ((x : IpRange) → m (old x) ≡ new (h x)) → (xs : List IpRange) → map m (map old xs) ≡ map new (map h xs)
each_marked m h old new same [] = refl
each_marked m h old new same (x ∷ xs) = ap₂ (λ (r : Row) (rs : List Row). r ∷ rs) (same x) (each_marked m h old new same xs)

kind_migrated : (s : State) (populated : Bool) (kind : Kind) → map (migrated_row populated) (first_rows s kind) ≡ stored_rows (marked populated s) kind
unfolding first_range_texts range_texts
kind_migrated s populated Vrfs = each (migrated_row populated) stored_vrf stored_vrf (λ x. refl) s.vrfs.rows
kind_migrated s populated Rirs = each (migrated_row populated) stored_rir stored_rir (λ x. refl) s.rirs.rows
kind_migrated s populated Roles = each (migrated_row populated) stored_role stored_role (λ x. refl) s.roles.rows
kind_migrated s populated Aggregates = each (migrated_row populated) stored_aggregate stored_aggregate (λ x. refl) s.aggregates.rows
kind_migrated s populated Prefixes = each (migrated_row populated) stored_prefix stored_prefix (λ x. refl) s.prefixes.rows
kind_migrated s populated Ranges =
    each_marked (migrated_row populated) (with_mark populated) (λ x. record { kind = Ranges; id = x.id; fields = first_range_texts x }) stored_range (λ x. refl) s.ranges.rows
kind_migrated s populated Addresses = each (migrated_row populated) stored_address stored_address (λ x. refl) s.addresses.rows

all_migrated : (m : Row → Row) (old new : Kind → List Row) → ((k : Kind) → map m (old k) ≡ new k) → (ks : List Kind) → map m (flat_map old ks) ≡ flat_map new ks
all_migrated m old new same [] = refl
all_migrated m old new same (k ∷ ks) = map-append m (old k) (flat_map old ks) ∙ ap₂ (λ (xs ys : List Row). xs ++ ys) (same k) (all_migrated m old new same ks)

-- ---- no row is refused

none_in : {T : Type 0} (test : Row → Bool) (f : T → Row) → ((x : T) → test (f x) ≡ false) → (xs : List T) → find test (map f xs) ≡ None
none_in test f clear [] = refl
none_in test f clear (x ∷ xs) = ap (λ (t : Bool). cond t (Some (f x)) (find test (map f xs))) (clear x) ∙ none_in test f clear xs

none_both : (test : Row → Bool) (xs ys : List Row) → find test xs ≡ None → find test ys ≡ None → find test (xs ++ ys) ≡ None
none_both test [] ys e f = f
none_both test (x ∷ xs) ys e f = go (test x) e (none_both test xs ys)
  where
    go : (t : Bool) → cond t (Some x) (find test xs) ≡ None → (find test xs ≡ None → find test ys ≡ None → find test (xs ++ ys) ≡ None) → cond t (Some x) (find test (xs ++ ys)) ≡ None
    go true e rest = cc
    go false e rest = rest e f

kind_shaped : (s : State) (kind : Kind) → find is_misshapen (first_rows s kind) ≡ None
unfolding first_range_texts
kind_shaped s Vrfs = none_in is_misshapen stored_vrf (λ x. refl) s.vrfs.rows
kind_shaped s Rirs = none_in is_misshapen stored_rir (λ x. refl) s.rirs.rows
kind_shaped s Roles = none_in is_misshapen stored_role (λ x. refl) s.roles.rows
kind_shaped s Aggregates = none_in is_misshapen stored_aggregate (λ x. refl) s.aggregates.rows
kind_shaped s Prefixes = none_in is_misshapen stored_prefix (λ x. refl) s.prefixes.rows
kind_shaped s Ranges = none_in is_misshapen (λ (x : IpRange). record { kind = Ranges; id = x.id; fields = first_range_texts x }) (λ x. refl) s.ranges.rows
kind_shaped s Addresses = none_in is_misshapen stored_address (λ x. refl) s.addresses.rows

all_shaped : (f : Kind → List Row) → ((k : Kind) → find is_misshapen (f k) ≡ None) → (ks : List Kind) → find is_misshapen (flat_map f ks) ≡ None
all_shaped f none [] = refl
all_shaped f none (k ∷ ks) = none_both is_misshapen (f k) (flat_map f ks) (none k) (all_shaped f none ks)

pub migrated_stand : MigratedTablesStand
migrated_stand s populated = (
  ap (option_map (λ (row : Row). BadRow row.kind row.id)) (all_shaped (first_rows s) (kind_shaped s) kinds),
  ap (λ (rows : List Row). let tables : Tables = record { version = 2; next = (first_tables_of s).next; rows = rows } in tables)
      (all_migrated (migrated_row populated) (first_rows s) (stored_rows (marked populated s)) (kind_migrated s populated) kinds),
)
