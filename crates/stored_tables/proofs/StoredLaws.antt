-- The tables after an update's change are the tables of the updated state.
use Rattle.std.proofs.Common.{◌≡◌, ◌≢◌, ℕ, ◌+◌, ◌*◌, ◌<◌, ◌≤◌, List, [], ◌∷◌, Option, Some, None, option_map, map, fold, refl, ap, sym, ◌∙◌, arith}
use Rattle.ipam_data.specs.declared.kinds.Kind.{Kind}
use Rattle.ipam_data.specs.declared.kinds.Kind.TheVariants.{Vrfs, Rirs, Roles, Aggregates, Prefixes, Ranges, Addresses}
use Rattle.stored_tables.specs.declared.tables.Row.{Row}
use Rattle.stored_tables.specs.declared.tables.Tables.{Tables}
use Rattle.ipam_data.specs.declared.update.Update.{Update}
use Rattle.ipam_data.specs.declared.replies.View.{View}
use Rattle.ipam_data.specs.declared.replies.View.TheVariants.{Vrf as VrfView, Rir as RirView, Role as RoleView, Aggregate as AggregateView, Prefix as PrefixView, IpRange as RangeView, IpAddress as AddressView}
use Rattle.ipam_data.specs.Rows.{vrf_id, rir_id, role_id, aggregate_id, prefix_id, range_id, address_id, most_vrfs, most_rirs, most_roles, most_aggregates, most_prefixes, most_ranges, most_addresses}
use Rattle.ipam_data.specs.RowList.{RowList, IsRowList, with_row, without, placed, Rises, AllBelow, IsFitting}
use Rattle.ipam_data.specs.State.{State}
use Rattle.ipam_data.specs.Updates.{with_view, without_row, with_next, updated, IsFit, AreFit, AreKept, CanUpdate}
use Rattle.ipam_data.specs.Lawful.{IsLawful}
use Rattle.stored_tables.specs.Stored.{stored_vrf, stored_rir, stored_role, stored_aggregate, stored_prefix, stored_range, stored_address, stored_row, stored_rows, kinds, kind_number, place_of, row_place, next_place, next_of, without_stored, tables_of, changed, change_of, Tells, ChangesAreTold}
use Rattle.ipam_data.proofs.Placed.{placed_fits, rises_with, below_with, rises_without, below_without, below_more}
use Rattle.stored_tables.proofs.Segments.{all_kinds, kinds_rise, IsSegment, placed_flat, without_flat, without_other, placed_next, segment, map_placed, map_without}

-- the rows of a kind are in the order of their ids, which are those of a u32
pub record IsOrdered {T : Type 0} (id : T → ℕ) (rows : List T) : Type 0 where
  pub rises : Rises id 0 rows
  pub low : AllBelow id 4294967296 rows

abbrev pub IsOrderedOf : State → Kind → Type 0
IsOrderedOf s Vrfs = IsOrdered vrf_id s.vrfs.rows
IsOrderedOf s Rirs = IsOrdered rir_id s.rirs.rows
IsOrderedOf s Roles = IsOrdered role_id s.roles.rows
IsOrderedOf s Aggregates = IsOrdered aggregate_id s.aggregates.rows
IsOrderedOf s Prefixes = IsOrdered prefix_id s.prefixes.rows
IsOrderedOf s Ranges = IsOrdered range_id s.ranges.rows
IsOrderedOf s Addresses = IsOrdered address_id s.addresses.rows

-- so are the rows of all kinds
abbrev pub AreOrdered : State → Type 0
AreOrdered s = (kind : Kind) → IsOrderedOf s kind

row_list_ordered : {T : Type 0} (id : T → ℕ) (most : ℕ) (kept : RowList T) → IsRowList id most kept → IsOrdered id kept.rows
row_list_ordered id most kept h = record { rises = h.ordered; low = below_more id kept.next 4294967296 kept.rows (let f = h.next_fits in omega arith) h.below }

pub lawful_ordered : (s : State) → IsLawful s → AreOrdered s
lawful_ordered s h Vrfs = row_list_ordered vrf_id most_vrfs s.vrfs h.vrfs.row_list
lawful_ordered s h Rirs = row_list_ordered rir_id most_rirs s.rirs h.rirs.row_list
lawful_ordered s h Roles = row_list_ordered role_id most_roles s.roles h.roles.row_list
lawful_ordered s h Aggregates = row_list_ordered aggregate_id most_aggregates s.aggregates h.aggregates.row_list
lawful_ordered s h Prefixes = row_list_ordered prefix_id most_prefixes s.prefixes h.prefixes.row_list
lawful_ordered s h Ranges = row_list_ordered range_id most_ranges s.ranges h.ranges.row_list
lawful_ordered s h Addresses = row_list_ordered address_id most_addresses s.addresses h.addresses.row_list

ordered_with : {T : Type 0} (id : T → ℕ) (rows : List T) (row : T) → IsOrdered id rows → 1 ≤ id row → id row < 4294967296 → IsFitting id rows row → IsOrdered id (with_row id rows row)
ordered_with id rows row h l u f = record { rises = rises_with id 0 rows row h.rises l f; low = below_with id 4294967296 rows row h.low u }

ordered_without : {T : Type 0} (id : T → ℕ) (rows : List T) (n : ℕ) → IsOrdered id rows → IsOrdered id (without id rows n)
ordered_without id rows n h = record { rises = rises_without id 0 n rows h.rises; low = below_without id 4294967296 n rows h.low }

pub ordered_put : (s : State) (view : View) → AreOrdered s → IsFit s view → AreOrdered (with_view s view)
ordered_put s (VrfView row) h f Vrfs = ordered_with vrf_id s.vrfs.rows row (h Vrfs) f.low f.high f.place
ordered_put s (VrfView row) h f kind = h kind
ordered_put s (RirView row) h f Rirs = ordered_with rir_id s.rirs.rows row (h Rirs) f.low f.high f.place
ordered_put s (RirView row) h f kind = h kind
ordered_put s (RoleView row) h f Roles = ordered_with role_id s.roles.rows row (h Roles) f.low f.high f.place
ordered_put s (RoleView row) h f kind = h kind
ordered_put s (AggregateView row) h f Aggregates = ordered_with aggregate_id s.aggregates.rows row (h Aggregates) f.low f.high f.place
ordered_put s (AggregateView row) h f kind = h kind
ordered_put s (PrefixView row depth children) h f Prefixes = ordered_with prefix_id s.prefixes.rows row (h Prefixes) f.low f.high f.place
ordered_put s (PrefixView row depth children) h f kind = h kind
ordered_put s (RangeView row) h f Ranges = ordered_with range_id s.ranges.rows row (h Ranges) f.low f.high f.place
ordered_put s (RangeView row) h f kind = h kind
ordered_put s (AddressView row) h f Addresses = ordered_with address_id s.addresses.rows row (h Addresses) f.low f.high f.place
ordered_put s (AddressView row) h f kind = h kind

pub ordered_cut : (s : State) (cut : Kind × ℕ) → AreOrdered s → AreOrdered (without_row s cut)
ordered_cut s (Vrfs, n) h Vrfs = ordered_without vrf_id s.vrfs.rows n (h Vrfs)
ordered_cut s (Vrfs, n) h kind = h kind
ordered_cut s (Rirs, n) h Rirs = ordered_without rir_id s.rirs.rows n (h Rirs)
ordered_cut s (Rirs, n) h kind = h kind
ordered_cut s (Roles, n) h Roles = ordered_without role_id s.roles.rows n (h Roles)
ordered_cut s (Roles, n) h kind = h kind
ordered_cut s (Aggregates, n) h Aggregates = ordered_without aggregate_id s.aggregates.rows n (h Aggregates)
ordered_cut s (Aggregates, n) h kind = h kind
ordered_cut s (Prefixes, n) h Prefixes = ordered_without prefix_id s.prefixes.rows n (h Prefixes)
ordered_cut s (Prefixes, n) h kind = h kind
ordered_cut s (Ranges, n) h Ranges = ordered_without range_id s.ranges.rows n (h Ranges)
ordered_cut s (Ranges, n) h kind = h kind
ordered_cut s (Addresses, n) h Addresses = ordered_without address_id s.addresses.rows n (h Addresses)
ordered_cut s (Addresses, n) h kind = h kind

segments : (s : State) → AreOrdered s → (kind : Kind) → IsSegment (kind_number kind) (stored_rows s kind)
segments s h Vrfs = segment vrf_id stored_vrf 1 (λ x. refl) s.vrfs.rows (h Vrfs).rises (h Vrfs).low
segments s h Rirs = segment rir_id stored_rir 2 (λ x. refl) s.rirs.rows (h Rirs).rises (h Rirs).low
segments s h Roles = segment role_id stored_role 3 (λ x. refl) s.roles.rows (h Roles).rises (h Roles).low
segments s h Aggregates = segment aggregate_id stored_aggregate 4 (λ x. refl) s.aggregates.rows (h Aggregates).rises (h Aggregates).low
segments s h Prefixes = segment prefix_id stored_prefix 5 (λ x. refl) s.prefixes.rows (h Prefixes).rises (h Prefixes).low
segments s h Ranges = segment range_id stored_range 6 (λ x. refl) s.ranges.rows (h Ranges).rises (h Ranges).low
segments s h Addresses = segment address_id stored_address 7 (λ x. refl) s.addresses.rows (h Addresses).rises (h Addresses).low

-- ---- one row, one id

-- a row of a kind is placed among the rows of all
module _ {T : Type 0} (id : T → ℕ) (stored : T → Row) where
  put_in : (s after : State) (rows : List T) (row : T) → AreOrdered s → ((x : T) → row_place (stored x) ≡ kind_number (stored row).kind * 4294967296 + id x)
      → IsOrdered id rows → 1 ≤ (stored row).id → (stored row).id < 4294967296 → IsFitting id rows row
      → stored_rows s (stored row).kind ≡ map stored rows → stored_rows after (stored row).kind ≡ map stored (with_row id rows row)
      → ((k : Kind) → kind_number k ≢ kind_number (stored row).kind → stored_rows after k ≡ stored_rows s k)
      → placed row_place (tables_of s).rows (stored row) ≡ (tables_of after).rows
  put_in s after rows row h at ordered low high fits old new others =
      placed_flat (stored_rows s) (stored_rows after) (stored row) 0 kinds kinds_rise (segments s h) (all_kinds (stored row).kind) low high
      (new ∙ sym (ap (λ (xs : List Row). placed row_place xs (stored row)) old ∙ map_placed id stored (kind_number (stored row).kind) at rows row ∙ ap (map stored) (placed_fits id 0 rows row ordered.rises fits)))
      others

rows_put : (s : State) (view : View) → AreOrdered s → IsFit s view → placed row_place (tables_of s).rows (stored_row view) ≡ (tables_of (with_view s view)).rows
rows_put s (VrfView row) h f = put_in vrf_id stored_vrf s (with_view s (VrfView row)) s.vrfs.rows row h (λ x. refl) (h Vrfs) f.low f.high f.place refl refl others
  where
    others : (k : Kind) → kind_number k ≢ 1 → stored_rows (with_view s (VrfView row)) k ≡ stored_rows s k
    others Vrfs d = absurd (d refl)
    others k d = refl
rows_put s (RirView row) h f = put_in rir_id stored_rir s (with_view s (RirView row)) s.rirs.rows row h (λ x. refl) (h Rirs) f.low f.high f.place refl refl others
  where
    others : (k : Kind) → kind_number k ≢ 2 → stored_rows (with_view s (RirView row)) k ≡ stored_rows s k
    others Rirs d = absurd (d refl)
    others k d = refl
rows_put s (RoleView row) h f = put_in role_id stored_role s (with_view s (RoleView row)) s.roles.rows row h (λ x. refl) (h Roles) f.low f.high f.place refl refl others
  where
    others : (k : Kind) → kind_number k ≢ 3 → stored_rows (with_view s (RoleView row)) k ≡ stored_rows s k
    others Roles d = absurd (d refl)
    others k d = refl
rows_put s (AggregateView row) h f = put_in aggregate_id stored_aggregate s (with_view s (AggregateView row)) s.aggregates.rows row h (λ x. refl) (h Aggregates) f.low f.high f.place refl refl others
  where
    others : (k : Kind) → kind_number k ≢ 4 → stored_rows (with_view s (AggregateView row)) k ≡ stored_rows s k
    others Aggregates d = absurd (d refl)
    others k d = refl
rows_put s (PrefixView row depth children) h f = put_in prefix_id stored_prefix s (with_view s (PrefixView row depth children)) s.prefixes.rows row h (λ x. refl) (h Prefixes) f.low f.high f.place refl refl others
  where
    others : (k : Kind) → kind_number k ≢ 5 → stored_rows (with_view s (PrefixView row depth children)) k ≡ stored_rows s k
    others Prefixes d = absurd (d refl)
    others k d = refl
rows_put s (RangeView row) h f = put_in range_id stored_range s (with_view s (RangeView row)) s.ranges.rows row h (λ x. refl) (h Ranges) f.low f.high f.place refl refl others
  where
    others : (k : Kind) → kind_number k ≢ 6 → stored_rows (with_view s (RangeView row)) k ≡ stored_rows s k
    others Ranges d = absurd (d refl)
    others k d = refl
rows_put s (AddressView row) h f = put_in address_id stored_address s (with_view s (AddressView row)) s.addresses.rows row h (λ x. refl) (h Addresses) f.low f.high f.place refl refl others
  where
    others : (k : Kind) → kind_number k ≢ 7 → stored_rows (with_view s (AddressView row)) k ≡ stored_rows s k
    others Addresses d = absurd (d refl)
    others k d = refl

rows_cut : (s : State) (cut : Kind × ℕ) → AreOrdered s → cut.1 < 4294967296 → without_stored (tables_of s).rows cut ≡ (tables_of (without_row s cut)).rows
rows_cut s cut h u = without_flat (stored_rows s) (stored_rows (without_row s cut)) (place_of cut.0 cut.1) kinds (each cut u)
  where
    out : (cut : Kind × ℕ) → cut.1 < 4294967296 → (k : Kind) → kind_number k ≢ kind_number cut.0 → stored_rows s k ≡ without row_place (stored_rows s k) (place_of cut.0 cut.1)
    out cut u k d = sym (without_other cut.0 k cut.1 (stored_rows s k) d u (segments s h k))

    each : (cut : Kind × ℕ) → cut.1 < 4294967296 → (k : Kind) → stored_rows (without_row s cut) k ≡ without row_place (stored_rows s k) (place_of cut.0 cut.1)
    each (Vrfs, n) u Vrfs = sym (map_without vrf_id stored_vrf 1 (λ x. refl) s.vrfs.rows n)
    each (Rirs, n) u Rirs = sym (map_without rir_id stored_rir 2 (λ x. refl) s.rirs.rows n)
    each (Roles, n) u Roles = sym (map_without role_id stored_role 3 (λ x. refl) s.roles.rows n)
    each (Aggregates, n) u Aggregates = sym (map_without aggregate_id stored_aggregate 4 (λ x. refl) s.aggregates.rows n)
    each (Prefixes, n) u Prefixes = sym (map_without prefix_id stored_prefix 5 (λ x. refl) s.prefixes.rows n)
    each (Ranges, n) u Ranges = sym (map_without range_id stored_range 6 (λ x. refl) s.ranges.rows n)
    each (Addresses, n) u Addresses = sym (map_without address_id stored_address 7 (λ x. refl) s.addresses.rows n)
    each (Vrfs, n) u k = out (Vrfs, n) u k (omega arith)
    each (Rirs, n) u k = out (Rirs, n) u k (omega arith)
    each (Roles, n) u k = out (Roles, n) u k (omega arith)
    each (Aggregates, n) u k = out (Aggregates, n) u k (omega arith)
    each (Prefixes, n) u k = out (Prefixes, n) u k (omega arith)
    each (Ranges, n) u k = out (Ranges, n) u k (omega arith)
    each (Addresses, n) u k = out (Addresses, n) u k (omega arith)

next_set : (s : State) (next : Kind × ℕ) → placed next_place (tables_of s).next next ≡ (tables_of (with_next s next)).next
next_set s next = placed_next (next_of s) (next_of (with_next s next)) next 0 kinds kinds_rise (all_kinds next.0) (here next) (others next)
  where
    here : (next : Kind × ℕ) → next_of (with_next s next) next.0 ≡ next.1
    here (Vrfs, n) = refl
    here (Rirs, n) = refl
    here (Roles, n) = refl
    here (Aggregates, n) = refl
    here (Prefixes, n) = refl
    here (Ranges, n) = refl
    here (Addresses, n) = refl

    others : (next : Kind × ℕ) → (k : Kind) → kind_number k ≢ kind_number next.0 → next_of (with_next s next) k ≡ next_of s k
    others (Vrfs, n) Vrfs d = absurd (d refl)
    others (Vrfs, n) k d = refl
    others (Rirs, n) Rirs d = absurd (d refl)
    others (Rirs, n) k d = refl
    others (Roles, n) Roles d = absurd (d refl)
    others (Roles, n) k d = refl
    others (Aggregates, n) Aggregates d = absurd (d refl)
    others (Aggregates, n) k d = refl
    others (Prefixes, n) Prefixes d = absurd (d refl)
    others (Prefixes, n) k d = refl
    others (Ranges, n) Ranges d = absurd (d refl)
    others (Ranges, n) k d = refl
    others (Addresses, n) Addresses d = absurd (d refl)
    others (Addresses, n) k d = refl

next_kept : (s : State) (next : Kind × ℕ) → (tables_of (with_next s next)).rows ≡ (tables_of s).rows
next_kept s (Vrfs, n) = refl
next_kept s (Rirs, n) = refl
next_kept s (Roles, n) = refl
next_kept s (Aggregates, n) = refl
next_kept s (Prefixes, n) = refl
next_kept s (Ranges, n) = refl
next_kept s (Addresses, n) = refl

put_next : (s : State) (view : View) → (tables_of (with_view s view)).next ≡ (tables_of s).next
put_next s (VrfView row) = refl
put_next s (RirView row) = refl
put_next s (RoleView row) = refl
put_next s (AggregateView row) = refl
put_next s (PrefixView row depth children) = refl
put_next s (RangeView row) = refl
put_next s (AddressView row) = refl

cut_next : (s : State) (cut : Kind × ℕ) → (tables_of (without_row s cut)).next ≡ (tables_of s).next
cut_next s (Vrfs, n) = refl
cut_next s (Rirs, n) = refl
cut_next s (Roles, n) = refl
cut_next s (Aggregates, n) = refl
cut_next s (Prefixes, n) = refl
cut_next s (Ranges, n) = refl
cut_next s (Addresses, n) = refl

-- ---- all of them

pub puts_told : (s : State) (views : List View) → AreOrdered s → AreFit s views → fold (placed row_place) (tables_of s).rows (map stored_row views) ≡ (tables_of (fold with_view s views)).rows
puts_told s [] h f = refl
puts_told s (view ∷ views) h f =
    ap (λ (rows : List Row). fold (placed row_place) rows (map stored_row views)) (rows_put s view h f.0) ∙ puts_told (with_view s view) views (ordered_put s view h f.0) f.1

puts_ordered : (s : State) (views : List View) → AreOrdered s → AreFit s views → AreOrdered (fold with_view s views)
puts_ordered s [] h f = h
puts_ordered s (view ∷ views) h f = puts_ordered (with_view s view) views (ordered_put s view h f.0) f.1

pub puts_next : (s : State) (views : List View) → (tables_of (fold with_view s views)).next ≡ (tables_of s).next
puts_next s [] = refl
puts_next s (view ∷ views) = puts_next (with_view s view) views ∙ put_next s view

cuts_told : (s : State) (cuts : List (Kind × ℕ)) → AreOrdered s → AreKept cuts → fold without_stored (tables_of s).rows cuts ≡ (tables_of (fold without_row s cuts)).rows
cuts_told s [] h f = refl
cuts_told s (cut ∷ cuts) h f =
    ap (λ (rows : List Row). fold without_stored rows cuts) (rows_cut s cut h f.0) ∙ cuts_told (without_row s cut) cuts (ordered_cut s cut h) f.1

cuts_next : (s : State) (cuts : List (Kind × ℕ)) → (tables_of (fold without_row s cuts)).next ≡ (tables_of s).next
cuts_next s [] = refl
cuts_next s (cut ∷ cuts) = cuts_next (without_row s cut) cuts ∙ cut_next s cut

nexts_told : (s : State) (nexts : List (Kind × ℕ)) → fold (placed next_place) (tables_of s).next nexts ≡ (tables_of (fold with_next s nexts)).next
nexts_told s [] = refl
nexts_told s (next ∷ nexts) =
    ap (λ (ids : List (Kind × ℕ)). fold (placed next_place) ids nexts) (next_set s next) ∙ nexts_told (with_next s next) nexts

nexts_rows : (s : State) (nexts : List (Kind × ℕ)) → (tables_of (fold with_next s nexts)).rows ≡ (tables_of s).rows
nexts_rows s [] = refl
nexts_rows s (next ∷ nexts) = nexts_rows (with_next s next) nexts ∙ next_kept s next

-- the tables after the change of an update are those of the updated state
pub change_told : (s : State) (u : Update) → AreOrdered s → CanUpdate s u → changed (change_of u) (tables_of s) ≡ tables_of (updated s u)
change_told s u h f =
    let put : State = fold with_view s u.puts in
    let cut : State = fold without_row put u.cuts in
    let rows : (changed (change_of u) (tables_of s)).rows ≡ (tables_of (updated s u)).rows =
    ap (λ (rows : List Row). fold without_stored rows u.cuts) (puts_told s u.puts h f.puts)
    ∙ cuts_told put u.cuts (puts_ordered s u.puts h f.puts) f.cuts ∙ sym (nexts_rows cut u.next) in
    let next : (changed (change_of u) (tables_of s)).next ≡ (tables_of (updated s u)).next =
    ap (λ (ids : List (Kind × ℕ)). fold (placed next_place) ids u.next) (sym (puts_next s u.puts) ∙ sym (cuts_next put u.cuts)) ∙ nexts_told cut u.next in
    rw (rows, next) refl

-- so where tables are told they go on being those of the state
pub told_after : (s : State) (u : Update) (told : Option Tables) → IsLawful s → CanUpdate s u → Tells told s → Tells (option_map (changed (change_of u)) told) (updated s u)
told_after s u None h f t = tt
told_after s u (Some tables) h f t = rw t (change_told s u (lawful_ordered s h) f)

pub told : ChangesAreTold
told s u h f = change_told s u (lawful_ordered s h) f
