-- Rows that break no rule beside those before them make a lawful state, whose tables are those that were opened.
use Rattle.std.proofs.Common.{Contains, cond, ◌≡◌, ℕ, ◌+◌, ◌<◌, ◌≤◌, ◌==◌, ◌&&◌, ◌||◌, nat_lt, Bool, true, false, not, List, [], ◌∷◌, ◌++◌, map, append-nil, append_assoc, length, Option, Some, None, option_map, find, fold, refl, ap, sym, ◌∙◌, arith, subst, inr}
use Rattle.std.specs.List.{list_any, count_by}
use Rattle.std.specs.Option.{option_or}
use Rattle.std.proofs.lemmas.Bool.Decides.{nat_tests}
use Rattle.std.proofs.lemmas.List.{length-append}
use Rattle.std.proofs.lemmas.List.Sums.{sum_by-cons}
use Rattle.ipam_data.specs.declared.kinds.Kind.{Kind}
use Rattle.ipam_data.specs.declared.kinds.Kind.TheVariants.{Vrfs, Rirs, Roles, Aggregates, Prefixes, Ranges, Addresses}
use Rattle.ipam_data.specs.declared.replies.Rule.{Rule}
use Rattle.ipam_data.specs.declared.replies.View.{View}
use Rattle.ipam_data.specs.declared.replies.View.TheVariants.{Vrf as VrfView, Rir as RirView, Role as RoleView, Aggregate as AggregateView, Prefix as PrefixView, IpRange as RangeView, IpAddress as AddressView}
use Rattle.ipam_data.specs.Rows.{HasVrfBounds, HasRirBounds, HasRoleBounds, HasAggregateBounds, HasPrefixBounds, HasRangeBounds, HasAddressBounds, vrf_id, rir_id, role_id, aggregate_id, prefix_id, range_id, address_id}
use Rattle.ipam_data.specs.RowList.{RowList, IsRowList, with_row, replaced, Rises, AllBelow, last_next, placed}
use Rattle.ipam_data.specs.Checks.{first}
use Rattle.ipam_data.specs.State.{State, empty_state}
use Rattle.stored_tables.specs.Order.{empty_tables}
use Rattle.ipam_data.specs.Plans.{KindRules, put_row}
use Rattle.ipam_data.specs.ByKind.{by_kind}
use Rattle.ipam_data.specs.Vrfs.{vrf_rules}
use Rattle.ipam_data.specs.Rirs.{rir_rules}
use Rattle.ipam_data.specs.Roles.{role_rules}
use Rattle.ipam_data.specs.Aggregates.{aggregate_rules}
use Rattle.ipam_data.specs.Prefixes.{prefix_rules}
use Rattle.ipam_data.specs.Ranges.{range_rules}
use Rattle.ipam_data.specs.Addresses.{address_rules}
use Rattle.ipam_data.specs.Updates.{with_view, IsFit, AreFit}
use Rattle.ipam_data.specs.Lawful.{IsLawful}
use Rattle.ipam_data.proofs.RowLists.{with_row_above, find_none, eq_true}
use Rattle.ipam_data.proofs.Kept.{none_above}
use Rattle.ipam_data.proofs.Placed.{rises_with, below_with, below_more, placed_behind}
use Rattle.ipam_data.proofs.Verdicts.{none_left, none_right}
use Rattle.ipam_data.proofs.Sound.{IsSound}
use Rattle.ipam_data.proofs.Ties.{views_spent}
use Rattle.ipam_data.proofs.VrfLaws.{vrfs_sound}
use Rattle.ipam_data.proofs.RirLaws.{rirs_sound}
use Rattle.ipam_data.proofs.RoleLaws.{roles_sound}
use Rattle.ipam_data.proofs.AggregateLaws.{aggregates_sound}
use Rattle.ipam_data.proofs.PrefixLaws.{prefixes_sound}
use Rattle.ipam_data.proofs.RangeLaws.{ranges_sound}
use Rattle.ipam_data.proofs.AddressLaws.{addresses_sound}
use Rattle.stored_tables.specs.declared.tables.Row.{Row}
use Rattle.stored_tables.specs.declared.opening.Breach.{Breach}
use Rattle.stored_tables.specs.Stored.{stored_row, tables_of, kinds, kind_number, place_of, row_place}
use Rattle.stored_tables.specs.Reading.{IsBare}
use Rattle.stored_tables.specs.Opening.{broken, breach_of, first_breach, told_next, bare_state, loaded, most_of, is_of_kind, is_overfull, is_past, is_bad_next, AllBare, AreNextIds, AcceptedAreOpened}
use Rattle.stored_tables.proofs.StoredLaws.{AreOrdered, puts_told, puts_next}
use Rattle.stored_tables.proofs.Nexts.{all_told}

-- ---- one row

-- a row that may be added: above all of its kind, below the next id, as its type keeps it, and there is room for it
pub record MayJoin {T : Type 0} (rules : KindRules T) (Bounds : T → Type 0) (s : State) (row : T) : Type 0 where
  pub low : 1 ≤ rules.id row
  pub before : rules.id row < (rules.row_list s).next
  pub few : length (rules.row_list s).rows + 1 ≤ rules.most
  pub above : AllBelow rules.id (rules.id row) (rules.row_list s).rows
  pub bounds : Bounds row

module _ {T : Type 0} (id : T → ℕ) where
  longer : (rows : List T) (row : T) → AllBelow id (id row) rows → length (with_row id rows row) ≡ length rows + 1
  longer rows row a = ap length (with_row_above id rows row a) ∙ rw length-append refl

  row_list_joined : (most : ℕ) (row_list : RowList T) (row : T) → IsRowList id most row_list → 1 ≤ id row → id row < row_list.next → length row_list.rows + 1 ≤ most → AllBelow id (id row) row_list.rows
      → IsRowList id most (replaced id row_list row)
  row_list_joined most row_list row h l u f a = record {
    ordered = rises_with id 0 row_list.rows row h.ordered l (inr a);
    below = below_with id row_list.next row_list.rows row h.below u;
    few = (let n = longer row_list.rows row a in omega arith);
    next_low = h.next_low;
    next_fits = h.next_fits;
  }

  below_push : (high : ℕ) (rows : List T) (row : T) → AllBelow id high rows → id row < high → AllBelow id high (rows ++ row ∷ [])
  below_push high [] row a h = (h, tt)
  below_push high (x ∷ xs) row a h = (a.0, below_push high xs row a.1 h)

module _ {T : Type 0} (rules : KindRules T) (Bounds : T → Type 0) (sound : IsSound rules Bounds) where
  joined_on : (s : State) (row : T) → IsLawful s → MayJoin rules Bounds s row → first (rules.references s row ++ rules.faults s None row) ≡ None → IsLawful (put_row rules s row)
  joined_on s row h j f =
      sound.put s None row (replaced rules.id (rules.row_list s) row) h j.bounds
      (none_above rules.id (rules.id row) (rules.id row) (rules.row_list s).rows j.above (omega arith))
      refl (row_list_joined rules.id rules.most (rules.row_list s) row (sound.row_list s h) j.low j.before j.few j.above)
      (none_left (rules.references s row) (rules.faults s None row) f) (none_right (rules.references s row) (rules.faults s None row) f)

abbrev pub CanJoin : State → View → Type 0
CanJoin s (VrfView row) = MayJoin vrf_rules HasVrfBounds s row
CanJoin s (RirView row) = MayJoin rir_rules HasRirBounds s row
CanJoin s (RoleView row) = MayJoin role_rules HasRoleBounds s row
CanJoin s (AggregateView row) = MayJoin aggregate_rules HasAggregateBounds s row
CanJoin s (PrefixView row depth children) = MayJoin prefix_rules HasPrefixBounds s row
CanJoin s (RangeView row) = MayJoin range_rules HasRangeBounds s row
CanJoin s (AddressView row) = MayJoin address_rules HasAddressBounds s row

joined : (s : State) (view : View) → IsLawful s → CanJoin s view → broken s view ≡ None → IsLawful (with_view s view)
joined s (VrfView row) h j f = joined_on vrf_rules HasVrfBounds vrfs_sound s row h j f
joined s (RirView row) h j f = joined_on rir_rules HasRirBounds rirs_sound s row h j f
joined s (RoleView row) h j f = joined_on role_rules HasRoleBounds roles_sound s row h j f
joined s (AggregateView row) h j f = joined_on aggregate_rules HasAggregateBounds aggregates_sound s row h j f
joined s (PrefixView row depth children) h j f = joined_on prefix_rules HasPrefixBounds prefixes_sound s row h j f
joined s (RangeView row) h j f = joined_on range_rules HasRangeBounds ranges_sound s row h j f
joined s (AddressView row) h j f = joined_on address_rules HasAddressBounds addresses_sound s row h j f

-- ---- rows one after another

abbrev pub AllJoin : State → List View → Type 0
AllJoin s [] = Unit {0}
AllJoin s (view ∷ views) = CanJoin s view × AllJoin (with_view s view) views

no_first : {A : Type 0} (a b : Option A) → option_or a b ≡ None → (a ≡ None) × (b ≡ None)
no_first None b e = (refl, e)
no_first (Some x) b e = cc

no_breach : (s : State) (view : View) → breach_of s view ≡ None → broken s view ≡ None
no_breach s view e = go (broken s view) e
  where
    go : (r : Option Rule) → option_map {U = Breach} (λ rule. record { kind = (stored_row view).kind; id = (stored_row view).id; rule = rule }) r ≡ None → r ≡ None
    go None e = refl
    go (Some rule) e = cc

-- rows that break no rule beside those before them leave a lawful state
all_joined : (s : State) (views : List View) → IsLawful s → AllJoin s views → first_breach s views ≡ None → IsLawful (fold with_view s views)
all_joined s [] h j f = h
all_joined s (view ∷ views) h j f =
    let none = no_first (breach_of s view) (first_breach (with_view s view) views) f in
    all_joined (with_view s view) views (joined s view h j.0 (no_breach s view none.0)) j.1 none.1

-- ---- rows in the order of their places

-- all rows of a kind have ids below this one
abbrev pub IsOver : State → Kind → ℕ → Type 0
IsOver s Vrfs n = AllBelow vrf_id n s.vrfs.rows
IsOver s Rirs n = AllBelow rir_id n s.rirs.rows
IsOver s Roles n = AllBelow role_id n s.roles.rows
IsOver s Aggregates n = AllBelow aggregate_id n s.aggregates.rows
IsOver s Prefixes n = AllBelow prefix_id n s.prefixes.rows
IsOver s Ranges n = AllBelow range_id n s.ranges.rows
IsOver s Addresses n = AllBelow address_id n s.addresses.rows

-- each id whose place is past this one is above all rows of its kind
abbrev pub IsUnder : State → ℕ → Type 0
IsUnder s p = (kind : Kind) (n : ℕ) → p < place_of kind n → IsOver s kind n

-- each row is above all of its kind that stand before it
abbrev pub AllAbove : State → List View → Type 0
AllAbove s [] = Unit {0}
AllAbove s (view ∷ views) = IsOver s (stored_row view).kind (stored_row view).id × AllAbove (with_view s view) views

under_next : (s : State) (p : ℕ) (view : View) → IsUnder s p → p < row_place (stored_row view) → IsUnder (with_view s view) (row_place (stored_row view))
under_next s p (VrfView row) h l Vrfs n q = below_with vrf_id n s.vrfs.rows row (h Vrfs n (omega arith)) (omega arith)
under_next s p (VrfView row) h l Rirs n q = h Rirs n (omega arith)
under_next s p (VrfView row) h l Roles n q = h Roles n (omega arith)
under_next s p (VrfView row) h l Aggregates n q = h Aggregates n (omega arith)
under_next s p (VrfView row) h l Prefixes n q = h Prefixes n (omega arith)
under_next s p (VrfView row) h l Ranges n q = h Ranges n (omega arith)
under_next s p (VrfView row) h l Addresses n q = h Addresses n (omega arith)
under_next s p (RirView row) h l Rirs n q = below_with rir_id n s.rirs.rows row (h Rirs n (omega arith)) (omega arith)
under_next s p (RirView row) h l Vrfs n q = h Vrfs n (omega arith)
under_next s p (RirView row) h l Roles n q = h Roles n (omega arith)
under_next s p (RirView row) h l Aggregates n q = h Aggregates n (omega arith)
under_next s p (RirView row) h l Prefixes n q = h Prefixes n (omega arith)
under_next s p (RirView row) h l Ranges n q = h Ranges n (omega arith)
under_next s p (RirView row) h l Addresses n q = h Addresses n (omega arith)
under_next s p (RoleView row) h l Roles n q = below_with role_id n s.roles.rows row (h Roles n (omega arith)) (omega arith)
under_next s p (RoleView row) h l Vrfs n q = h Vrfs n (omega arith)
under_next s p (RoleView row) h l Rirs n q = h Rirs n (omega arith)
under_next s p (RoleView row) h l Aggregates n q = h Aggregates n (omega arith)
under_next s p (RoleView row) h l Prefixes n q = h Prefixes n (omega arith)
under_next s p (RoleView row) h l Ranges n q = h Ranges n (omega arith)
under_next s p (RoleView row) h l Addresses n q = h Addresses n (omega arith)
under_next s p (AggregateView row) h l Aggregates n q = below_with aggregate_id n s.aggregates.rows row (h Aggregates n (omega arith)) (omega arith)
under_next s p (AggregateView row) h l Vrfs n q = h Vrfs n (omega arith)
under_next s p (AggregateView row) h l Rirs n q = h Rirs n (omega arith)
under_next s p (AggregateView row) h l Roles n q = h Roles n (omega arith)
under_next s p (AggregateView row) h l Prefixes n q = h Prefixes n (omega arith)
under_next s p (AggregateView row) h l Ranges n q = h Ranges n (omega arith)
under_next s p (AggregateView row) h l Addresses n q = h Addresses n (omega arith)
under_next s p (PrefixView row depth children) h l Prefixes n q = below_with prefix_id n s.prefixes.rows row (h Prefixes n (omega arith)) (omega arith)
under_next s p (PrefixView row depth children) h l Vrfs n q = h Vrfs n (omega arith)
under_next s p (PrefixView row depth children) h l Rirs n q = h Rirs n (omega arith)
under_next s p (PrefixView row depth children) h l Roles n q = h Roles n (omega arith)
under_next s p (PrefixView row depth children) h l Aggregates n q = h Aggregates n (omega arith)
under_next s p (PrefixView row depth children) h l Ranges n q = h Ranges n (omega arith)
under_next s p (PrefixView row depth children) h l Addresses n q = h Addresses n (omega arith)
under_next s p (RangeView row) h l Ranges n q = below_with range_id n s.ranges.rows row (h Ranges n (omega arith)) (omega arith)
under_next s p (RangeView row) h l Vrfs n q = h Vrfs n (omega arith)
under_next s p (RangeView row) h l Rirs n q = h Rirs n (omega arith)
under_next s p (RangeView row) h l Roles n q = h Roles n (omega arith)
under_next s p (RangeView row) h l Aggregates n q = h Aggregates n (omega arith)
under_next s p (RangeView row) h l Prefixes n q = h Prefixes n (omega arith)
under_next s p (RangeView row) h l Addresses n q = h Addresses n (omega arith)
under_next s p (AddressView row) h l Addresses n q = below_with address_id n s.addresses.rows row (h Addresses n (omega arith)) (omega arith)
under_next s p (AddressView row) h l Vrfs n q = h Vrfs n (omega arith)
under_next s p (AddressView row) h l Rirs n q = h Rirs n (omega arith)
under_next s p (AddressView row) h l Roles n q = h Roles n (omega arith)
under_next s p (AddressView row) h l Aggregates n q = h Aggregates n (omega arith)
under_next s p (AddressView row) h l Prefixes n q = h Prefixes n (omega arith)
under_next s p (AddressView row) h l Ranges n q = h Ranges n (omega arith)

all_above : (s : State) (p : ℕ) (views : List View) → IsUnder s p → Rises row_place p (map stored_row views) → AllAbove s views
all_above s p [] h r = tt
all_above s p (view ∷ views) h r = (h (stored_row view).kind (stored_row view).id r.0, all_above (with_view s view) (row_place (stored_row view)) views (under_next s p view h r.0) r.1)

is_fit : (s : State) (view : View) → IsOver s (stored_row view).kind (stored_row view).id → IsBare view → IsFit s view
is_fit s (VrfView row) a b = record { low = b.low; high = b.high; place = inr a }
is_fit s (RirView row) a b = record { low = b.low; high = b.high; place = inr a }
is_fit s (RoleView row) a b = record { low = b.low; high = b.high; place = inr a }
is_fit s (AggregateView row) a b = record { low = b.low; high = b.high; place = inr a }
is_fit s (PrefixView row depth children) a b = record { low = b.0.low; high = b.0.high; place = inr a }
is_fit s (RangeView row) a b = record { low = b.low; high = b.high; place = inr a }
is_fit s (AddressView row) a b = record { low = b.low; high = b.high; place = inr a }

all_fit : (s : State) (views : List View) → AllAbove s views → AllBare views → AreFit s views
all_fit s [] a b = tt
all_fit s (view ∷ views) a b = (is_fit s view a.0 b.0, all_fit (with_view s view) views a.1 b.1)

-- rows of rising places, each placed after those before it, are those rows
placed_all : (p : ℕ) (before rows : List Row) → AllBelow row_place (p + 1) before → Rises row_place p rows → fold (placed row_place) before rows ≡ before ++ rows
placed_all p before [] b r = sym (append-nil before)
placed_all p before (row ∷ rows) b r =
    let l = r.0 in
    let behind : placed row_place before row ≡ before ++ row ∷ [] =
    ap (λ (zs : List Row). placed row_place zs row) (sym (append-nil before)) ∙ placed_behind row_place before [] row (below_more row_place (p + 1) (row_place row) before (omega arith) b) in
    ap (λ (zs : List Row). fold (placed row_place) zs rows) behind
    ∙ placed_all (row_place row) (before ++ row ∷ []) rows (below_push row_place (row_place row + 1) before row (below_more row_place (p + 1) (row_place row + 1) before (omega arith) b) (omega arith)) r.1
    ∙ append_assoc before (row ∷ []) rows

-- ---- room and next ids

-- the next id of a kind, and how many rows it has
abbrev pub next_in : State → Kind → ℕ
next_in s kind = by_kind kind (λ T rules. (rules.row_list s).next)

abbrev pub count_in : State → Kind → ℕ
count_in s kind = by_kind kind (λ T rules. length (rules.row_list s).rows)

-- the rows of each kind and those to come are no more than there may be
abbrev pub HasPlaces : State → List View → Type 0
HasPlaces s views = (kind : Kind) → count_in s kind + count_by (is_of_kind kind) (map stored_row views) ≤ most_of kind

-- each row comes before the next id of its kind
abbrev pub AllBefore : (Kind → ℕ) → List View → Type 0
AllBefore next [] = Unit {0}
AllBefore next (view ∷ views) = ((stored_row view).id < next (stored_row view).kind) × AllBefore next views

next_stays : (s : State) (view : View) (kind : Kind) → next_in (with_view s view) kind ≡ next_in s kind
next_stays s (VrfView row) Vrfs = refl
next_stays s (VrfView row) kind = refl
next_stays s (RirView row) Rirs = refl
next_stays s (RirView row) kind = refl
next_stays s (RoleView row) Roles = refl
next_stays s (RoleView row) kind = refl
next_stays s (AggregateView row) Aggregates = refl
next_stays s (AggregateView row) kind = refl
next_stays s (PrefixView row depth children) Prefixes = refl
next_stays s (PrefixView row depth children) kind = refl
next_stays s (RangeView row) Ranges = refl
next_stays s (RangeView row) kind = refl
next_stays s (AddressView row) Addresses = refl
next_stays s (AddressView row) kind = refl

count_yes : {X : Type 0} (p : X → Bool) (x : X) (xs : List X) → p x ≡ true → count_by p (x ∷ xs) ≡ count_by p xs + 1
count_yes p x xs e = (let n : cond {A = ℕ} (p x) 1 0 ≡ 1 = ap (λ (t : Bool). let k : ℕ = cond t 1 0 in k) e in omega (arith, sum_by-cons (λ y. cond (p y) 1 0) x xs))

count_no : {X : Type 0} (p : X → Bool) (x : X) (xs : List X) → p x ≡ false → count_by p (x ∷ xs) ≡ count_by p xs
count_no p x xs e = (let n : cond {A = ℕ} (p x) 1 0 ≡ 0 = ap (λ (t : Bool). let k : ℕ = cond t 1 0 in k) e in omega (arith, sum_by-cons (λ y. cond (p y) 1 0) x xs))

-- one row more of its kind, and one fewer to come
module _ {T : Type 0} (id : T → ℕ) (kind : Kind) where
  count_here : (rows : List T) (row : T) (stored : Row) (rest : List Row) (most : ℕ) → AllBelow id (id row) rows → is_of_kind kind stored ≡ true
      → length rows + count_by (is_of_kind kind) (stored ∷ rest) ≤ most → length (with_row id rows row) + count_by (is_of_kind kind) rest ≤ most
  count_here rows row stored rest most a e h = let n = longer id rows row a in let y = count_yes (is_of_kind kind) stored rest e in omega arith

  room_here : (rows : List T) (stored : Row) (rest : List Row) (most : ℕ) → is_of_kind kind stored ≡ true → length rows + count_by (is_of_kind kind) (stored ∷ rest) ≤ most → length rows + 1 ≤ most
  room_here rows stored rest most e h = let y = count_yes (is_of_kind kind) stored rest e in omega arith

count_other : (kind : Kind) (count most : ℕ) (stored : Row) (rest : List Row) → is_of_kind kind stored ≡ false → count + count_by (is_of_kind kind) (stored ∷ rest) ≤ most → count + count_by (is_of_kind kind) rest ≤ most
count_other kind count most stored rest e h = let n = count_no (is_of_kind kind) stored rest e in omega arith

places_next : (s : State) (view : View) (views : List View) → IsOver s (stored_row view).kind (stored_row view).id → HasPlaces s (view ∷ views) → HasPlaces (with_view s view) views
places_next s (VrfView row) views a h Vrfs = count_here vrf_id Vrfs s.vrfs.rows row (stored_row (VrfView row)) (map stored_row views) (most_of Vrfs) a refl (h Vrfs)
places_next s (VrfView row) views a h kind = count_other kind (count_in s kind) (most_of kind) (stored_row (VrfView row)) (map stored_row views) refl (h kind)
places_next s (RirView row) views a h Rirs = count_here rir_id Rirs s.rirs.rows row (stored_row (RirView row)) (map stored_row views) (most_of Rirs) a refl (h Rirs)
places_next s (RirView row) views a h kind = count_other kind (count_in s kind) (most_of kind) (stored_row (RirView row)) (map stored_row views) refl (h kind)
places_next s (RoleView row) views a h Roles = count_here role_id Roles s.roles.rows row (stored_row (RoleView row)) (map stored_row views) (most_of Roles) a refl (h Roles)
places_next s (RoleView row) views a h kind = count_other kind (count_in s kind) (most_of kind) (stored_row (RoleView row)) (map stored_row views) refl (h kind)
places_next s (AggregateView row) views a h Aggregates = count_here aggregate_id Aggregates s.aggregates.rows row (stored_row (AggregateView row)) (map stored_row views) (most_of Aggregates) a refl (h Aggregates)
places_next s (AggregateView row) views a h kind = count_other kind (count_in s kind) (most_of kind) (stored_row (AggregateView row)) (map stored_row views) refl (h kind)
places_next s (PrefixView row depth children) views a h Prefixes = count_here prefix_id Prefixes s.prefixes.rows row (stored_row (PrefixView row depth children)) (map stored_row views) (most_of Prefixes) a refl (h Prefixes)
places_next s (PrefixView row depth children) views a h kind = count_other kind (count_in s kind) (most_of kind) (stored_row (PrefixView row depth children)) (map stored_row views) refl (h kind)
places_next s (RangeView row) views a h Ranges = count_here range_id Ranges s.ranges.rows row (stored_row (RangeView row)) (map stored_row views) (most_of Ranges) a refl (h Ranges)
places_next s (RangeView row) views a h kind = count_other kind (count_in s kind) (most_of kind) (stored_row (RangeView row)) (map stored_row views) refl (h kind)
places_next s (AddressView row) views a h Addresses = count_here address_id Addresses s.addresses.rows row (stored_row (AddressView row)) (map stored_row views) (most_of Addresses) a refl (h Addresses)
places_next s (AddressView row) views a h kind = count_other kind (count_in s kind) (most_of kind) (stored_row (AddressView row)) (map stored_row views) refl (h kind)

can_join : (s : State) (view : View) (views : List View) → IsOver s (stored_row view).kind (stored_row view).id → IsBare view → (stored_row view).id < next_in s (stored_row view).kind → HasPlaces s (view ∷ views)
    → CanJoin s view
can_join s (VrfView row) views a b n h = record { low = b.low; before = n; few = room_here vrf_id Vrfs s.vrfs.rows (stored_row (VrfView row)) (map stored_row views) (most_of Vrfs) refl (h Vrfs); above = a; bounds = b.bounds }
can_join s (RirView row) views a b n h = record { low = b.low; before = n; few = room_here rir_id Rirs s.rirs.rows (stored_row (RirView row)) (map stored_row views) (most_of Rirs) refl (h Rirs); above = a; bounds = b.bounds }
can_join s (RoleView row) views a b n h = record { low = b.low; before = n; few = room_here role_id Roles s.roles.rows (stored_row (RoleView row)) (map stored_row views) (most_of Roles) refl (h Roles); above = a; bounds = b.bounds }
can_join s (AggregateView row) views a b n h = record { low = b.low; before = n; few = room_here aggregate_id Aggregates s.aggregates.rows (stored_row (AggregateView row)) (map stored_row views) (most_of Aggregates) refl (h Aggregates); above = a; bounds = b.bounds }
can_join s (PrefixView row depth children) views a b n h = record { low = b.0.low; before = n; few = room_here prefix_id Prefixes s.prefixes.rows (stored_row (PrefixView row depth children)) (map stored_row views) (most_of Prefixes) refl (h Prefixes); above = a; bounds = b.0.bounds }
can_join s (RangeView row) views a b n h = record { low = b.low; before = n; few = room_here range_id Ranges s.ranges.rows (stored_row (RangeView row)) (map stored_row views) (most_of Ranges) refl (h Ranges); above = a; bounds = b.bounds }
can_join s (AddressView row) views a b n h = record { low = b.low; before = n; few = room_here address_id Addresses s.addresses.rows (stored_row (AddressView row)) (map stored_row views) (most_of Addresses) refl (h Addresses); above = a; bounds = b.bounds }

join_all : (s : State) (next : Kind → ℕ) (views : List View) → ((kind : Kind) → next_in s kind ≡ next kind) → AllAbove s views → AllBare views → AllBefore next views → HasPlaces s views → AllJoin s views
join_all s next [] e a b n h = tt
join_all s next (view ∷ views) e a b n h = (
  can_join s view views a.0 b.0 (subst (λ (m : ℕ). (stored_row view).id < m) (sym (e (stored_row view).kind)) n.0) h,
  join_all (with_view s view) next views (λ kind. next_stays s view kind ∙ e kind) a.1 b.1 n.1 (places_next s view views a.0 h),
)

-- ---- from tables to a lawful state

nothing_contained : {T : Type 0} (x : T) → Contains [] x → ⊥
nothing_contained x c = let h = c.1 in omega arith

bare_kept : {T : Type 0} (id : T → ℕ) (most next : ℕ) → 1 ≤ next → next ≤ last_next → IsRowList id most (record { rows = []; next = next })
bare_kept id most next l u = record { ordered = tt; below = tt; few = omega arith; next_low = l; next_fits = u }

module _ (nexts : List (Kind × ℕ)) (g : Bool) where
  bare_lawful : ((kind : Kind) → 1 ≤ told_next nexts kind) → AreNextIds nexts → IsLawful (bare_state nexts g)
  bare_lawful l u = record {
    vrfs = record { row_list = bare_kept vrf_id vrf_rules.most (told_next nexts Vrfs) (l Vrfs) (u Vrfs); each = λ x c. absurd (nothing_contained x c); distinguishers = λ x y c d k. absurd (nothing_contained x c) };
    rirs = record { row_list = bare_kept rir_id rir_rules.most (told_next nexts Rirs) (l Rirs) (u Rirs); each = λ x c. absurd (nothing_contained x c); names = λ x y c d k. absurd (nothing_contained x c); slugs = λ x y c d k. absurd (nothing_contained x c) };
    roles = record { row_list = bare_kept role_id role_rules.most (told_next nexts Roles) (l Roles) (u Roles); each = λ x c. absurd (nothing_contained x c); names = λ x y c d k. absurd (nothing_contained x c); slugs = λ x y c d k. absurd (nothing_contained x c) };
    aggregates = record { row_list = bare_kept aggregate_id aggregate_rules.most (told_next nexts Aggregates) (l Aggregates) (u Aggregates); each = λ x c. absurd (nothing_contained x c); registries = λ x n c e. absurd (nothing_contained x c); apart = λ x y c d k. absurd (nothing_contained x c) };
    prefixes = record { row_list = bare_kept prefix_id prefix_rules.most (told_next nexts Prefixes) (l Prefixes) (u Prefixes); each = λ x c. absurd (nothing_contained x c); tables = λ x n c e. absurd (nothing_contained x c); with_roles = λ x n c e. absurd (nothing_contained x c); blocks = λ x y c d k. absurd (nothing_contained x c) };
    ranges = record { row_list = bare_kept range_id range_rules.most (told_next nexts Ranges) (l Ranges) (u Ranges); each = λ x c. absurd (nothing_contained x c); tables = λ x n c e. absurd (nothing_contained x c); with_roles = λ x n c e. absurd (nothing_contained x c); apart = λ x y c d k. absurd (nothing_contained x c) };
    addresses = record { row_list = bare_kept address_id address_rules.most (told_next nexts Addresses) (l Addresses) (u Addresses); each = λ x c. absurd (nothing_contained x c); tables = λ x n c e. absurd (nothing_contained x c); hosts = λ x y c d k. absurd (nothing_contained x c) };
    spent = omega arith;
  }

  bare_ordered : AreOrdered (bare_state nexts g)
  bare_ordered Vrfs = record { rises = tt; low = tt }
  bare_ordered Rirs = record { rises = tt; low = tt }
  bare_ordered Roles = record { rises = tt; low = tt }
  bare_ordered Aggregates = record { rises = tt; low = tt }
  bare_ordered Prefixes = record { rises = tt; low = tt }
  bare_ordered Ranges = record { rises = tt; low = tt }
  bare_ordered Addresses = record { rises = tt; low = tt }

  bare_under : IsUnder (bare_state nexts g) 0
  bare_under Vrfs n q = tt
  bare_under Rirs n q = tt
  bare_under Roles n q = tt
  bare_under Aggregates n q = tt
  bare_under Prefixes n q = tt
  bare_under Ranges n q = tt
  bare_under Addresses n q = tt

  bare_next : (kind : Kind) → next_in (bare_state nexts g) kind ≡ told_next nexts kind
  bare_next Vrfs = refl
  bare_next Rirs = refl
  bare_next Roles = refl
  bare_next Aggregates = refl
  bare_next Prefixes = refl
  bare_next Ranges = refl
  bare_next Addresses = refl

  bare_count : (kind : Kind) → count_in (bare_state nexts g) kind ≡ 0
  bare_count Vrfs = refl
  bare_count Rirs = refl
  bare_count Roles = refl
  bare_count Aggregates = refl
  bare_count Prefixes = refl
  bare_count Ranges = refl
  bare_count Addresses = refl

  -- the rows of the tables for which the loaded state stands are the rows that were loaded
  loaded_rows : (views : List View) → Rises row_place 0 (map stored_row views) → AllBare views → (tables_of (loaded nexts g views)).rows ≡ map stored_row views
  loaded_rows views r b =
      sym (puts_told (bare_state nexts g) views bare_ordered (all_fit (bare_state nexts g) views (all_above (bare_state nexts g) 0 views bare_under r) b))
      ∙ placed_all 0 [] (map stored_row views) tt r

  -- putting rows leaves the setting and the items spent
  pub unique_stays : (s : State) (view : View) → (with_view s view).global_unique ≡ s.global_unique
  unique_stays s (VrfView row) = refl
  unique_stays s (RirView row) = refl
  unique_stays s (RoleView row) = refl
  unique_stays s (AggregateView row) = refl
  unique_stays s (PrefixView row depth children) = refl
  unique_stays s (RangeView row) = refl
  unique_stays s (AddressView row) = refl

  pub unique_kept : (s : State) (views : List View) → (fold with_view s views).global_unique ≡ s.global_unique
  unique_kept s [] = refl
  unique_kept s (view ∷ views) = unique_kept (with_view s view) views ∙ unique_stays s view

-- ---- what the passes say

in_kinds : (kind : Kind) → Contains kinds kind
in_kinds Vrfs = (0, omega arith, refl)
in_kinds Rirs = (1, omega arith, refl)
in_kinds Roles = (2, omega arith, refl)
in_kinds Aggregates = (3, omega arith, refl)
in_kinds Prefixes = (4, omega arith, refl)
in_kinds Ranges = (5, omega arith, refl)
in_kinds Addresses = (6, omega arith, refl)

-- a test that finds no kind fails of each
fails_of : (test : Kind → Bool) → find test kinds ≡ None → (kind : Kind) → test kind ≡ false
fails_of test e kind = find_none test kinds kind e (in_kinds kind)

few_of : (most count : ℕ) → nat_lt most count ≡ false → count ≤ most
few_of most count e = grind (arith, nat_tests, e)

or_false : (a b : Bool) → (a || b) ≡ false → (a ≡ false) × (b ≡ false)
or_false true b e = cc
or_false false b e = (refl, e)

low_of : (n : ℕ) → (n == 0) ≡ false → 1 ≤ n
low_of n e = grind (arith, nat_tests, e)

below_of : (kind : Kind) (next : ℕ) (row : Row) → kind_number row.kind ≡ kind_number kind → is_past kind next row ≡ false → row.id < next
below_of kind next row k e = go (nat_lt row.id next) refl (rw (eq_true (kind_number row.kind) (kind_number kind) k) at e)
  where
    go : (t : Bool) → nat_lt row.id next ≡ t → (true && not t) ≡ false → row.id < next
    go true t e = grind (arith, nat_tests, t)
    go false t e = cc

none_head_any : {X : Type 0} (p : X → Bool) (x : X) (xs : List X) → list_any p (x ∷ xs) ≡ false → (p x ≡ false) × (list_any p xs ≡ false)
none_head_any p x xs e = or_false (p x) (list_any p xs) e

all_before : (next : Kind → ℕ) (views : List View) → ((kind : Kind) → list_any (is_past kind (next kind)) (map stored_row views) ≡ false) → AllBefore next views
all_before next [] h = tt
all_before next (view ∷ views) h =
    let kind = (stored_row view).kind in (
      below_of kind (next kind) (stored_row view) refl (none_head_any (is_past kind (next kind)) (stored_row view) (map stored_row views) (h kind)).0,
      all_before next views (λ k. (none_head_any (is_past k (next k)) (stored_row view) (map stored_row views) (h k)).1),
    )

-- ---- the law

-- the register without rows is that of the empty tables, and is lawful
empty_low : (kind : Kind) → 1 ≤ told_next empty_tables.next kind
empty_low Vrfs = omega arith
empty_low Rirs = omega arith
empty_low Roles = omega arith
empty_low Aggregates = omega arith
empty_low Prefixes = omega arith
empty_low Ranges = omega arith
empty_low Addresses = omega arith

empty_fits : AreNextIds empty_tables.next
empty_fits Vrfs = omega arith
empty_fits Rirs = omega arith
empty_fits Roles = omega arith
empty_fits Aggregates = omega arith
empty_fits Prefixes = omega arith
empty_fits Ranges = omega arith
empty_fits Addresses = omega arith

pub empty_lawful : (g : Bool) → IsLawful (empty_state g)
empty_lawful g = bare_lawful empty_tables.next g empty_low empty_fits

-- rows that were read from tables in order fit, one after another
pub read_fit : (nexts : List (Kind × ℕ)) (g : Bool) (views : List View) → Rises row_place 0 (map stored_row views) → AllBare views → AreFit (bare_state nexts g) views
read_fit nexts g views r b = all_fit (bare_state nexts g) views (all_above (bare_state nexts g) 0 views (bare_under nexts g) r) b

pub accepted_are_opened : AcceptedAreOpened
accepted_are_opened tables g views order fits ok =
    let s = bare_state tables.next g in
    let stored = ok.rows.within.readable.stored in
    let bare = ok.rows.within.readable.bare in
    let bad = λ (kind : Kind). or_false (told_next tables.next kind == 0) (list_any (is_past kind (told_next tables.next kind)) tables.rows) (fails_of (is_bad_next tables.next tables.rows) ok.nexts kind) in
    let low = λ (kind : Kind). low_of (told_next tables.next kind) (bad kind).0 in
    let rises : Rises row_place 0 (map stored_row views) = subst (λ (rows : List Row). Rises row_place 0 rows) (sym stored) order.rows in
    let above = all_above s 0 views (bare_under tables.next g) rises in
    let before = all_before (told_next tables.next) views (λ kind. subst (λ (rows : List Row). list_any (is_past kind (told_next tables.next kind)) rows ≡ false) (sym stored) (bad kind).1) in
    let places : HasPlaces s views = λ kind.
    let few = few_of (most_of kind) (count_by (is_of_kind kind) tables.rows) (fails_of (is_overfull tables.rows) ok.rows.within.few kind) in
    let e = bare_count tables.next g kind in
    let same = ap (λ (rows : List Row). count_by (is_of_kind kind) rows) stored in
    omega arith in
    let join = join_all s (told_next tables.next) views (bare_next tables.next g) above bare before places in
    let rows : (tables_of (loaded tables.next g views)).rows ≡ tables.rows = loaded_rows tables.next g views rises bare ∙ stored in
    let next : (tables_of (loaded tables.next g views)).next ≡ tables.next = puts_next s views ∙ all_told tables.next order.next low in
    let version = ok.rows.within.readable.version in
    record {
      lawful = all_joined s views (bare_lawful tables.next g low fits) join ok.rows.unbroken;
      tables_are = rw (rows, next, ← version) refl;
      unique = unique_kept tables.next g s views;
      spent = views_spent s views;
    }
