-- The tables of a lawful state are accepted. So tables that open have no fault, and they open to one state.
use Rattle.std.proofs.Common.{Contains, cond, ◌≡◌, ℕ, ◌+◌, ◌-◌, ◌<◌, ◌≤◌, ◌==◌, ◌&&◌, ◌||◌, nat_lt, nat_le, Bool, true, false, not, List, [], ◌∷◌, ◌++◌, map, append-nil, append_assoc, length, Option, Some, None, IsSome, option_map, find, fold, bytes_eq, refl, ap, sym, ◌∙◌, arith, subst, inl, inr, if◌then◌else◌}
use Rattle.std.specs.List.{list_any, count_by, flat_map}
use Rattle.std.specs.Option.{option_or}
use Rattle.std.proofs.lemmas.Bool.Decides.{nat_tests}
use Rattle.std.proofs.lemmas.List.{map-append}
use Rattle.std.proofs.lemmas.List.Sums.{sum_by-append, sum_by-cons}
use Rattle.std.proofs.lemmas.List.Folds.{list_any-append}
use Rattle.std.proofs.lemmas.List.Elements.{Contains-append_left, Contains-append_right}
use Rattle.std.proofs.lemmas.Nat.{pow_pos}
use Rattle.std.proofs.lemmas.Slice.Eq.{bytes_eq-Decides}
use Rattle.inet_num.specs.Net.{Address, Cidr, IsInside, size_of, width_of, last_of}
use Rattle.inet_num.specs.Blocks.{same_family, same_block, same_address, is_block_inside}
use Rattle.inet_num.proofs.Insides.{both, one_family, same_family-refl}
use Rattle.inet_num.proofs.Numbers.{inside_by_ends, same_block as one_block}
use Rattle.ipam_data.specs.declared.vrf.Vrf.{Vrf}
use Rattle.ipam_data.specs.declared.rir.Rir.{Rir}
use Rattle.ipam_data.specs.declared.role.Role.{Role}
use Rattle.ipam_data.specs.declared.aggregate.Aggregate.{Aggregate}
use Rattle.ipam_data.specs.declared.prefix.Prefix.{Prefix}
use Rattle.ipam_data.specs.declared.range.IpRange.{IpRange}
use Rattle.ipam_data.specs.declared.address.IpAddress.{IpAddress}
use Rattle.ipam_data.specs.declared.kinds.Kind.{Kind}
use Rattle.ipam_data.specs.declared.kinds.Kind.TheVariants.{Vrfs, Rirs, Roles, Aggregates, Prefixes, Ranges, Addresses}
use Rattle.ipam_data.specs.declared.replies.Rule.TheVariants.{RdTaken, Duplicate}
use Rattle.ipam_data.specs.declared.replies.View.{View}
use Rattle.ipam_data.specs.declared.replies.View.TheVariants.{Vrf as VrfView, Rir as RirView, Role as RoleView, Aggregate as AggregateView, Prefix as PrefixView, IpRange as RangeView, IpAddress as AddressView}
use Rattle.ipam_data.specs.Rows.{vrf_id, rir_id, role_id, aggregate_id, prefix_id, range_id, address_id}
use Rattle.ipam_data.specs.RowList.{RowList, IsRowList, row_at, with_row, least, is_rival, least_rival, IsApart, Rises, AllBelow}
use Rattle.ipam_data.specs.Checks.{first}
use Rattle.ipam_data.specs.State.{State}
use Rattle.ipam_data.specs.ByKind.{by_kind}
use Rattle.ipam_data.specs.Updates.{with_view}
use Rattle.ipam_data.specs.Tables.{table_of, same_table, is_enforcing}
use Rattle.ipam_data.specs.Vrfs.{same_rd, ShareRd, vrf_fault}
use Rattle.ipam_data.specs.Rirs.{same_rir_name, same_rir_slug, ShareRirName, ShareRirSlug, rir_fault}
use Rattle.ipam_data.specs.Roles.{same_role_name, same_role_slug, ShareRoleName, ShareRoleSlug, role_fault}
use Rattle.ipam_data.specs.Aggregates.{overlaps, Overlap, aggregate_fault}
use Rattle.ipam_data.specs.Prefixes.{in_one_table, coincides, ShareBlock, prefix_fault}
use Rattle.ipam_data.specs.Ranges.{ShareAddress, crosses, most_of_range, range_fault}
use Rattle.ipam_data.specs.Addresses.{is_shared, clash, clashes, ShareHost, address_fault}
use Rattle.ipam_data.specs.Lawful.{IsRange, IsLawful}
use Rattle.ipam_data.proofs.RowLists.{eq_true, contains_head, contains_rest, contains_cases, with_row_above, id_below, rises_above}
use Rattle.ipam_data.proofs.ClaimLaws.{there_none}
use Rattle.ipam_data.proofs.Placed.{is_eq, lt_true, below_more}
use Rattle.stored_tables.specs.declared.tables.Row.{Row}
use Rattle.stored_tables.specs.declared.tables.Tables.{Tables}
use Rattle.stored_tables.specs.declared.opening.Breach.{Breach}
use Rattle.stored_tables.specs.Stored.{stored_row, stored_rows, tables_of, kinds, kind_number, next_of}
use Rattle.stored_tables.specs.Reading.{IsBare, IsWord, IsAbsentOr}
use Rattle.stored_tables.specs.Opening.{broken, breach_of, first_breach, told_next, bare_state, loaded, most_of, is_of_kind, is_overfull, is_past, is_bad_next, AllBare, IsAccepted, IsOpening}
use Rattle.stored_tables.proofs.Nexts.{one_kind}
use Rattle.stored_tables.proofs.OpenOne.{opening_is_one}
use Rattle.ipam_command.specs.Opened.{OpenedHaveNoFault, OpenedToOneState}

-- ---- tests that find nothing

module _ {T : Type 0} where
  -- a test that fails of each finds none
  none_found : (p : T → Bool) (xs : List T) → ((x : T) → Contains xs x → p x ≡ false) → find p xs ≡ None
  none_found p [] h = refl
  none_found p (x ∷ xs) h = rw (h x (contains_head x xs)) (none_found p xs (λ y c. h y (contains_rest x y xs c)))

  -- an id of rows below a number is below it
  below_there : (id : T → ℕ) (high : ℕ) (xs : List T) (x : T) → AllBelow id high xs → Contains xs x → id x < high
  below_there id high [] x a c = let h = c.1 in absurd (omega arith)
  below_there id high (y ∷ ys) x a c = elim (contains_cases y x ys c) [
    | inl e ↦ (let b = a.0 in let s = ap id e in omega arith)
    | inr d ↦ below_there id high ys x a.1 d
  ]

  below_push : (id : T → ℕ) (high : ℕ) (xs : List T) (x : T) → AllBelow id high xs → id x < high → AllBelow id high (xs ++ x ∷ [])
  below_push id high [] x a h = (h, tt)
  below_push id high (y ∷ ys) x a h = (a.0, below_push id high ys x a.1 h)

not_true : (t : Bool) → not t ≡ true → t ≡ false
not_true true e = cc
not_true false e = refl

-- ---- one of rows that are apart, beside some of them

-- each of these rows is one of those
abbrev AreAmong : {T : Type 0} → List T → List T → Type 0
AreAmong {T} some rows = (x : T) → Contains some x → Contains rows x

module _ {T : Type 0} (id : T → ℕ) (Clash : T → T → Type 0) (rows before : List T) (row : T) (apart : IsApart id Clash rows) (there : Contains rows row)
    (part : AreAmong before rows) where
  -- a test that only others meet that clash with it is met by none
  none_clashes : (p : T → Bool) → ((x : T) → Contains rows x → p x ≡ true → (not (id x == id row) ≡ true) × Clash row x) → find p before ≡ None
  none_clashes p told = none_found p before (λ x d. go x (part x d) (p x) refl)
    where
      go : (x : T) → Contains rows x → (t : Bool) → p x ≡ t → t ≡ false
      go x d false e = refl
      go x d true e =
          let k = told x d e in
          let same : id row ≡ id x = apart row x there d k.1 in
          let f : true ≡ false = sym (eq_true (id x) (id row) (sym same)) ∙ not_true (id x == id row) k.0 in
          cc

  none_rivals : (test : T → T → Bool) → ((x : T) → Contains rows x → test row x ≡ true → Clash row x) → least_rival id test before row ≡ None
  none_rivals test told = ap (option_map id) (none_clashes (is_rival id test row) (λ x d e.
      let h = both (not (id x == id row)) (test row x) e in
      (h.0, told x d h.1)))

-- ---- what the tests of two rows say

rd_shared : (row x : Vrf) → same_rd x.rd row.rd ≡ true → ShareRd row x
rd_shared row x t = go x.rd row.rd refl refl t
  where
    go : (a b : Option (List ℕ)) → x.rd ≡ a → row.rd ≡ b → same_rd a b ≡ true → ShareRd row x
    go None b p q t = cc
    go (Some a) None p q t = cc
    go (Some a) (Some b) p q t = let e : a ≡ b = (bytes_eq-Decides a b).0 t in (b, q, p ∙ ap (λ (rd : List ℕ). Some rd) e)

vrf_shared : (a b : Option ℕ) → same_table (table_of a) (table_of b) ≡ true → b ≡ a
vrf_shared None None t = refl
vrf_shared None (Some b) t = cc
vrf_shared (Some a) None t = cc
vrf_shared (Some a) (Some b) t = ap (λ (n : ℕ). Some n) (sym (is_eq a b t))

block_shared : (x y : Cidr) → same_block x y ≡ true → y ≡ x
block_shared x y e =
    let h = both (same_family x.family y.family && x.first == y.first) (x.len == y.len) e in
    let k = both (same_family x.family y.family) (x.first == y.first) h.0 in
    sym (one_block x y (one_family x.family y.family k.0) (is_eq x.first y.first k.1) (is_eq x.len y.len h.1))

address_shared : (a b : Address) → same_address a b ≡ true → b ≡ a
address_shared a b e =
    let h = both (same_family a.family b.family) (a.value == b.value) e in
    sym (ap (λ x. let c : Address = record { family = x; value = a.value } in c) (one_family a.family b.family h.0)
    ∙ ap (λ x. let c : Address = record { family = b.family; value = x } in c) (is_eq a.value b.value h.1))

le_of : (a b : ℕ) → nat_le a b ≡ true → a ≤ b
le_of a b e = grind (arith, nat_tests)

block_inside : (inner outer : Cidr) → is_block_inside inner outer ≡ true → IsInside inner outer
block_inside inner outer t =
    let families = same_family inner.family outer.family in
    let begins = nat_le outer.first inner.first in
    let h = both (families && begins) (nat_le (last_of inner).value (last_of outer).value) t in
    let k = both families begins h.0 in
    let low : outer.first ≤ inner.first = le_of outer.first inner.first k.1 in
    let ends : inner.first + size_of inner - 1 ≤ outer.first + size_of outer - 1 = le_of (last_of inner).value (last_of outer).value h.1 in
    let some : 0 < size_of inner = pow_pos (width_of inner.family - inner.len) in
    let some_outer : 0 < size_of outer = pow_pos (width_of outer.family - outer.len) in
    inside_by_ends inner outer (one_family inner.family outer.family k.0) low (omega arith)

overlap_told : (row x : Aggregate) → overlaps row x ≡ true → Overlap row x
overlap_told row x t = go (is_block_inside row.block x.block) refl t
  where
    go : (b : Bool) → is_block_inside row.block x.block ≡ b → (b || is_block_inside x.block row.block) ≡ true → Overlap row x
    go true e t = inl (block_inside row.block x.block e)
    go false e t = inr (block_inside x.block row.block t)

-- two ranges that cross share the greater of their first addresses
share_told : (row x : IpRange) → IsRange row → IsRange x → crosses row x ≡ true → ShareAddress row x
share_told row x h k t =
    let table = same_table (table_of x.vrf) (table_of row.vrf) in
    let family = same_family x.ends.start.family row.ends.start.family in
    let low = nat_le x.ends.start.value row.ends.end.value in
    let a = both (table && family && low) (nat_le row.ends.start.value x.ends.end.value) t in
    let b = both (table && family) low a.0 in
    let c = both table family b.0 in
    let same = one_family x.ends.start.family row.ends.start.family c.1 in
    let one = le_of x.ends.start.value row.ends.end.value b.1 in
    let two = le_of row.ends.start.value x.ends.end.value a.1 in
    go same one two (nat_le row.ends.start.value x.ends.start.value) refl (vrf_shared x.vrf row.vrf c.0)
  where
    go : x.ends.start.family ≡ row.ends.start.family → x.ends.start.value ≤ row.ends.end.value → row.ends.start.value ≤ x.ends.end.value
        → (later : Bool) → nat_le row.ends.start.value x.ends.start.value ≡ later → row.vrf ≡ x.vrf → ShareAddress row x
    go same one two true e v =
        let le = le_of row.ends.start.value x.ends.start.value e in
        let order = k.order in
        record {
          table = v;
          address = x.ends.start;
          in_first = record { family = same; from = le; to = one };
          in_second = record { family = refl; from = omega arith; to = omega arith };
        }
    go same one two false e v =
        let le : x.ends.start.value ≤ row.ends.start.value = grind (arith, nat_tests) in
        let order = h.order in
        record {
          table = v;
          address = row.ends.start;
          in_first = record { family = refl; from = omega arith; to = omega arith };
          in_second = record { family = sym same; from = le; to = two };
        }

text_shared : (a b : List ℕ) → bytes_eq a b ≡ true → b ≡ a
text_shared a b t = sym ((bytes_eq-Decides a b).0 t)

-- ---- rows of a lawful state break no rule beside some of the rows of their kind

some_mask : (n : ℕ) → 1 ≤ n → (n == 0) ≡ false
some_mask n h = grind (arith, nat_tests)

module _ (s : State) (h : IsLawful s) where
  vrf_faultless : (row : Vrf) (before : List Vrf) → Contains s.vrfs.rows row → AreAmong before s.vrfs.rows → vrf_fault before row ≡ None
  unfolding vrf_fault
  vrf_faultless row before c part =
      let rival = none_rivals vrf_id ShareRd s.vrfs.rows before row h.vrfs.distinguishers c part (λ row other. same_rd other.rd row.rd)
      (λ x d t. rd_shared row x t) in
      ap (option_map RdTaken) rival

  rir_faultless : (row : Rir) (before : List Rir) → Contains s.rirs.rows row → AreAmong before s.rirs.rows → rir_fault before row ≡ None
  unfolding rir_fault
  rir_faultless row before c part =
      let name = none_rivals rir_id ShareRirName s.rirs.rows before row h.rirs.names c part same_rir_name (λ x d t. text_shared x.name row.name t) in
      let slug = none_rivals rir_id ShareRirSlug s.rirs.rows before row h.rirs.slugs c part same_rir_slug (λ x d t. text_shared x.slug row.slug t) in
      rw (name, slug) refl

  role_faultless : (row : Role) (before : List Role) → Contains s.roles.rows row → AreAmong before s.roles.rows → role_fault before row ≡ None
  unfolding role_fault
  role_faultless row before c part =
      let name = none_rivals role_id ShareRoleName s.roles.rows before row h.roles.names c part same_role_name (λ x d t. text_shared x.name row.name t) in
      let slug = none_rivals role_id ShareRoleSlug s.roles.rows before row h.roles.slugs c part same_role_slug (λ x d t. text_shared x.slug row.slug t) in
      rw (name, slug) refl

  aggregate_faultless : (row : Aggregate) (before : List Aggregate) → Contains s.aggregates.rows row → AreAmong before s.aggregates.rows
      → aggregate_fault before row ≡ None
  unfolding aggregate_fault
  aggregate_faultless row before c part =
      let mask = some_mask row.block.len (h.aggregates.each row c).mask in
      let rival = none_rivals aggregate_id Overlap s.aggregates.rows before row h.aggregates.apart c part overlaps (λ x d t. overlap_told row x t) in
      rw (mask, rival) refl

  prefix_faultless : (row : Prefix) (before : List Prefix) → Contains s.prefixes.rows row → AreAmong before s.prefixes.rows
      → prefix_fault before row (is_enforcing s.global_unique s.vrfs.rows (table_of row.vrf)) ≡ None
  unfolding prefix_fault
  prefix_faultless row before c part = rw (some_mask row.block.len (h.prefixes.each row c).mask) (go enforcing refl)
    where
      enforcing : Bool
      enforcing = is_enforcing s.global_unique s.vrfs.rows (table_of row.vrf)

      share : enforcing ≡ true → (x : Prefix) → coincides row x ≡ true → (not (x.id == row.id) ≡ true) × ShareBlock s.global_unique s.vrfs.rows row x
      share on x t =
          let a = both (not (x.id == row.id) && in_one_table row x) (same_block x.block row.block) t in
          let b = both (not (x.id == row.id)) (in_one_table row x) a.0 in
          (b.0, (on, vrf_shared x.vrf row.vrf b.1, block_shared x.block row.block a.1))

      go : (on : Bool) → enforcing ≡ on → first ((if on then option_map Duplicate (least prefix_id (coincides row) before) else None) ∷ []) ≡ None
      go false e = refl
      go true e =
          let none = none_clashes prefix_id (ShareBlock s.global_unique s.vrfs.rows) s.prefixes.rows before row h.prefixes.blocks c part (coincides row)
          (λ x d t. share e x t) in
          rw none refl

  range_faultless : (row : IpRange) (before : List IpRange) → Contains s.ranges.rows row → AreAmong before s.ranges.rows → range_fault before row ≡ None
  unfolding range_fault
  range_faultless row before c part =
      let is = h.ranges.each row c in
      let order = is.order in
      let size = is.size in
      let one : same_family row.ends.start.family row.ends.end.family ≡ true = rw is.family (same_family-refl row.ends.end.family) in
      let two = some_mask row.ends.len is.mask in
      let three : nat_lt row.ends.start.value row.ends.end.value ≡ true = grind (arith, nat_tests) in
      let few : row.ends.end.value + 1 - row.ends.start.value ≤ most_of_range = omega arith in
      let four : nat_le (row.ends.end.value + 1 - row.ends.start.value) most_of_range ≡ true = grind (arith, nat_tests) in
      let rival = none_rivals range_id ShareAddress s.ranges.rows before row h.ranges.apart c part crosses
      (λ x d t. share_told row x is (h.ranges.each x d) t) in
      rw (one, two, three, four, rival) refl

  address_faultless : (row : IpAddress) (before : List IpAddress) → Contains s.addresses.rows row → AreAmong before s.addresses.rows
      → address_fault before row (is_enforcing s.global_unique s.vrfs.rows (table_of row.vrf)) ≡ None
  unfolding address_fault
  address_faultless row before c part =
      let is = h.addresses.each row c in
      rw (some_mask row.host.len is.mask, is.slaac, is.name) (go enforcing refl)
    where
      enforcing : Bool
      enforcing = is_enforcing s.global_unique s.vrfs.rows (table_of row.vrf)

      share : enforcing ≡ true → (x : IpAddress) → clashes row x ≡ true → ShareHost s.global_unique s.vrfs.rows row x
      share on x t =
          let a = both (same_table (table_of x.vrf) (table_of row.vrf)) (clash row x) t in
          let b = both (same_address x.host.addr row.host.addr) (not (is_shared row && is_shared x)) a.1 in
          record {
            enforcing = on;
            table = vrf_shared x.vrf row.vrf a.0;
            host = address_shared x.host.addr row.host.addr b.0;
            unshared = not_true (is_shared row && is_shared x) b.1;
          }

      go : (on : Bool) → enforcing ≡ on → first ((if on then option_map Duplicate (least_rival address_id clashes before row) else None) ∷ []) ≡ None
      go false e = refl
      go true e =
          let rival = none_rivals address_id (ShareHost s.global_unique s.vrfs.rows) s.addresses.rows before row h.addresses.hosts c part clashes
          (λ x d t. share e x t) in
          rw rival refl

-- ---- rows that are put one after another

-- none of them breaks a rule beside those before it, and this state is left
abbrev pub Passes : State → List View → State → Type 0
Passes s views after = (first_breach s views ≡ None) × (fold with_view s views ≡ after)

one_more : (s next after : State) (view : View) (views : List View) → broken s view ≡ None → with_view s view ≡ next → Passes next views after
    → Passes s (view ∷ views) after
one_more s next after view views n e p =
    let row = stored_row view in
    let one : breach_of s view ≡ None = ap (option_map {U = Breach} (λ rule. record { kind = row.kind; id = row.id; rule = rule })) n in (
      ap (λ (b : Option Breach). option_or b (first_breach (with_view s view) views)) one ∙ ap (λ (t : State). first_breach t views) e ∙ p.0,
      ap (λ (t : State). fold with_view t views) e ∙ p.1,
    )

no_first : {A : Type 0} (a b : Option A) → option_or a b ≡ None → (a ≡ None) × (b ≡ None)
no_first None b e = (refl, e)
no_first (Some x) b e = cc

then_others : (s mid after : State) (xs ys : List View) → Passes s xs mid → Passes mid ys after → Passes s (xs ++ ys) after
then_others s mid after [] ys p q = (ap (λ (t : State). first_breach t ys) p.1 ∙ q.0, ap (λ (t : State). fold with_view t ys) p.1 ∙ q.1)
then_others s mid after (x ∷ xs) ys p q =
    let n = no_first (breach_of s x) (first_breach (with_view s x) xs) p.0 in
    let rest = then_others (with_view s x) mid after xs ys (n.1, p.1) q in
    (ap (λ (b : Option Breach). option_or b (first_breach (with_view s x) (xs ++ ys))) n.0 ∙ rest.0, rest.1)

-- the rows of one kind, from a state with none of them: `state` has those that are put
module _ {T : Type 0} (id : T → ℕ) (view : T → View) (rows : List T) (state : List T → State)
    (put : (before : List T) (row : T) → with_view (state before) (view row) ≡ state (with_row id before row))
    (free : (row : T) (before : List T) → Contains rows row → AreAmong before rows → broken (state before) (view row) ≡ None) where
  kind_goes_on : (low : ℕ) (before rest : List T) → before ++ rest ≡ rows → AllBelow id (low + 1) before → Rises id low rest
      → Passes (state before) (map view rest) (state rows)
  kind_goes_on low before [] e b r = (refl, ap state (sym (append-nil before) ∙ e))
  kind_goes_on low before (row ∷ rest) e b r =
      let l = r.0 in
      let there : Contains rows row = subst (λ (xs : List T). Contains xs row) e (Contains-append_right before (row ∷ rest) row (contains_head row rest)) in
      let above : AllBelow id (id row) before = below_more id (low + 1) (id row) before (omega arith) b in
      let under : AllBelow id (id row + 1) before = below_more id (low + 1) (id row + 1) before (omega arith) b in
      let longer : AllBelow id (id row + 1) (before ++ row ∷ []) = below_push id (id row + 1) before row under (omega arith) in
      one_more (state before) (state (before ++ row ∷ [])) (state rows) (view row) (map view rest)
      (free row before there (λ x d. subst (λ (xs : List T). Contains xs x) e (Contains-append_left before (row ∷ rest) x d)))
      (put before row ∙ ap state (with_row_above id before row above))
      (kind_goes_on (id row) (before ++ row ∷ []) rest (append_assoc before (row ∷ []) rest ∙ e) longer r.1)

  kind_passes : Rises id 0 rows → Passes (state []) (map view rows) (state rows)
  kind_passes r = kind_goes_on 0 [] rows refl tt r

-- ---- the rows of a state

-- the rows of a kind as they are answered, without figures
abbrev pub kind_views : State → Kind → List View
kind_views s kind = by_kind kind (λ T rules. map rules.view (rules.row_list s).rows)

-- the rows of a state, by kind and id
abbrev pub views_of : State → List View
views_of s = flat_map (kind_views s) kinds

-- a kind with these rows, and with none
abbrev pub having : {T : Type 0} → RowList T → List T → RowList T
having kept rows = record { rows = rows; next = kept.next }

abbrev pub emptied : {T : Type 0} → RowList T → RowList T
emptied kept = record { rows = []; next = kept.next }

module _ (s : State) where
  -- the state with these rows of a kind, all rows of the kinds before it and none of those after it
  abbrev pub vrfs_to : List Vrf → State
  vrfs_to rows = record {
    vrfs = having s.vrfs rows;
    rirs = emptied s.rirs;
    roles = emptied s.roles;
    aggregates = emptied s.aggregates;
    prefixes = emptied s.prefixes;
    ranges = emptied s.ranges;
    addresses = emptied s.addresses;
    global_unique = s.global_unique;
    spent = 0;
  }

  abbrev pub rirs_to : List Rir → State
  rirs_to rows = record (vrfs_to s.vrfs.rows) { rirs = having s.rirs rows }

  abbrev pub roles_to : List Role → State
  roles_to rows = record (rirs_to s.rirs.rows) { roles = having s.roles rows }

  abbrev pub aggregates_to : List Aggregate → State
  aggregates_to rows = record (roles_to s.roles.rows) { aggregates = having s.aggregates rows }

  abbrev pub prefixes_to : List Prefix → State
  prefixes_to rows = record (aggregates_to s.aggregates.rows) { prefixes = having s.prefixes rows }

  abbrev pub ranges_to : List IpRange → State
  ranges_to rows = record (prefixes_to s.prefixes.rows) { ranges = having s.ranges rows }

  abbrev pub addresses_to : List IpAddress → State
  addresses_to rows = record (ranges_to s.ranges.rows) { addresses = having s.addresses rows }

module _ (s : State) (h : IsLawful s) where
  vrfs_pass : Passes (vrfs_to s []) (map VrfView s.vrfs.rows) (vrfs_to s s.vrfs.rows)
  vrfs_pass = kind_passes vrf_id VrfView s.vrfs.rows (vrfs_to s) (λ before row. refl) free h.vrfs.row_list.ordered
    where
      free : (row : Vrf) (before : List Vrf) → Contains s.vrfs.rows row → AreAmong before s.vrfs.rows → broken (vrfs_to s before) (VrfView row) ≡ None
      free row before c part = rw (vrf_faultless s h row before c part) refl

  rirs_pass : Passes (rirs_to s []) (map RirView s.rirs.rows) (rirs_to s s.rirs.rows)
  rirs_pass = kind_passes rir_id RirView s.rirs.rows (rirs_to s) (λ before row. refl) free h.rirs.row_list.ordered
    where
      free : (row : Rir) (before : List Rir) → Contains s.rirs.rows row → AreAmong before s.rirs.rows → broken (rirs_to s before) (RirView row) ≡ None
      free row before c part = rw (rir_faultless s h row before c part) refl

  roles_pass : Passes (roles_to s []) (map RoleView s.roles.rows) (roles_to s s.roles.rows)
  roles_pass = kind_passes role_id RoleView s.roles.rows (roles_to s) (λ before row. refl) free h.roles.row_list.ordered
    where
      free : (row : Role) (before : List Role) → Contains s.roles.rows row → AreAmong before s.roles.rows → broken (roles_to s before) (RoleView row) ≡ None
      free row before c part = rw (role_faultless s h row before c part) refl

  aggregates_pass : Passes (aggregates_to s []) (map AggregateView s.aggregates.rows) (aggregates_to s s.aggregates.rows)
  aggregates_pass = kind_passes aggregate_id AggregateView s.aggregates.rows (aggregates_to s) (λ before row. refl) free h.aggregates.row_list.ordered
    where
      free : (row : Aggregate) (before : List Aggregate) → Contains s.aggregates.rows row → AreAmong before s.aggregates.rows
          → broken (aggregates_to s before) (AggregateView row) ≡ None
      free row before c part =
          let rir = there_none Rirs (row_at rir_id s.rirs.rows) (Some row.rir) (λ n e. h.aggregates.registries row n c e) in
          rw (rir, aggregate_faultless s h row before c part) refl

  prefixes_pass : Passes (prefixes_to s []) (map (λ row. PrefixView row 0 0) s.prefixes.rows) (prefixes_to s s.prefixes.rows)
  prefixes_pass = kind_passes prefix_id (λ row. PrefixView row 0 0) s.prefixes.rows (prefixes_to s) (λ before row. refl) free h.prefixes.row_list.ordered
    where
      free : (row : Prefix) (before : List Prefix) → Contains s.prefixes.rows row → AreAmong before s.prefixes.rows
          → broken (prefixes_to s before) (PrefixView row 0 0) ≡ None
      free row before c part =
          let vrf = there_none Vrfs (row_at vrf_id s.vrfs.rows) row.vrf (λ n e. h.prefixes.tables row n c e) in
          let role = there_none Roles (row_at role_id s.roles.rows) row.role (λ n e. h.prefixes.with_roles row n c e) in
          rw (vrf, role, prefix_faultless s h row before c part) refl

  ranges_pass : Passes (ranges_to s []) (map RangeView s.ranges.rows) (ranges_to s s.ranges.rows)
  ranges_pass = kind_passes range_id RangeView s.ranges.rows (ranges_to s) (λ before row. refl) free h.ranges.row_list.ordered
    where
      free : (row : IpRange) (before : List IpRange) → Contains s.ranges.rows row → AreAmong before s.ranges.rows
          → broken (ranges_to s before) (RangeView row) ≡ None
      free row before c part =
          let vrf = there_none Vrfs (row_at vrf_id s.vrfs.rows) row.vrf (λ n e. h.ranges.tables row n c e) in
          let role = there_none Roles (row_at role_id s.roles.rows) row.role (λ n e. h.ranges.with_roles row n c e) in
          rw (vrf, role, range_faultless s h row before c part) refl

  addresses_pass : Passes (addresses_to s []) (map AddressView s.addresses.rows) (addresses_to s s.addresses.rows)
  addresses_pass = kind_passes address_id AddressView s.addresses.rows (addresses_to s) (λ before row. refl) free h.addresses.row_list.ordered
    where
      free : (row : IpAddress) (before : List IpAddress) → Contains s.addresses.rows row → AreAmong before s.addresses.rows
          → broken (addresses_to s before) (AddressView row) ≡ None
      free row before c part =
          let vrf = there_none Vrfs (row_at vrf_id s.vrfs.rows) row.vrf (λ n e. h.addresses.tables row n c e) in
          rw (vrf, address_faultless s h row before c part) refl

  -- the rows of a lawful state, put one after another, break no rule and leave that state
  all_pass : Passes (bare_state (tables_of s).next s.global_unique) (views_of s) (addresses_to s s.addresses.rows)
  all_pass =
      let rirs = rirs_to s [] in
      let roles = roles_to s [] in
      let aggregates = aggregates_to s [] in
      let prefixes = prefixes_to s [] in
      let ranges = ranges_to s [] in
      let addresses = addresses_to s [] in
      let all = addresses_to s s.addresses.rows in
      let from_addresses : List View = map AddressView s.addresses.rows ++ [] in
      let from_ranges : List View = map RangeView s.ranges.rows ++ from_addresses in
      let from_prefixes : List View = map (λ row. PrefixView row 0 0) s.prefixes.rows ++ from_ranges in
      let from_aggregates : List View = map AggregateView s.aggregates.rows ++ from_prefixes in
      let from_roles : List View = map RoleView s.roles.rows ++ from_aggregates in
      let from_rirs : List View = map RirView s.rirs.rows ++ from_roles in
      let seven = then_others addresses all all (map AddressView s.addresses.rows) [] addresses_pass (refl, refl) in
      let six = then_others ranges addresses all (map RangeView s.ranges.rows) from_addresses ranges_pass seven in
      let five = then_others prefixes ranges all (map (λ row. PrefixView row 0 0) s.prefixes.rows) from_ranges prefixes_pass six in
      let four = then_others aggregates prefixes all (map AggregateView s.aggregates.rows) from_prefixes aggregates_pass five in
      let three = then_others roles aggregates all (map RoleView s.roles.rows) from_aggregates roles_pass four in
      let two = then_others rirs roles all (map RirView s.rirs.rows) from_roles rirs_pass three in
      then_others (vrfs_to s []) rirs all (map VrfView s.vrfs.rows) from_rirs vrfs_pass two

-- ---- the rows as they are stored

stored_map : {T : Type 0} (view : T → View) (rows : List T) → map stored_row (map view rows) ≡ map (λ row. stored_row (view row)) rows
stored_map view [] = refl
stored_map view (row ∷ rows) = ap (λ (xs : List Row). stored_row (view row) ∷ xs) (stored_map view rows)

stored_kind : (s : State) (kind : Kind) → map stored_row (kind_views s kind) ≡ stored_rows s kind
stored_kind s Vrfs = stored_map VrfView s.vrfs.rows
stored_kind s Rirs = stored_map RirView s.rirs.rows
stored_kind s Roles = stored_map RoleView s.roles.rows
stored_kind s Aggregates = stored_map AggregateView s.aggregates.rows
stored_kind s Prefixes = stored_map (λ row. PrefixView row 0 0) s.prefixes.rows
stored_kind s Ranges = stored_map RangeView s.ranges.rows
stored_kind s Addresses = stored_map AddressView s.addresses.rows

stored_all : (s : State) (ks : List Kind) → map stored_row (flat_map (kind_views s) ks) ≡ flat_map (stored_rows s) ks
stored_all s [] = refl
stored_all s (kind ∷ ks) =
    map-append stored_row (kind_views s kind) (flat_map (kind_views s) ks)
    ∙ ap (λ (xs : List Row). xs ++ map stored_row (flat_map (kind_views s) ks)) (stored_kind s kind)
    ∙ ap (λ (xs : List Row). stored_rows s kind ++ xs) (stored_all s ks)

-- ---- the rows as their types keep them

bare_map : {T : Type 0} (view : T → View) (rows : List T) → ((row : T) → Contains rows row → IsBare (view row)) → AllBare (map view rows)
bare_map view [] h = tt
bare_map view (row ∷ rows) h = (h row (contains_head row rows), bare_map view rows (λ x c. h x (contains_rest row x rows c)))

bare_append : (xs ys : List View) → AllBare xs → AllBare ys → AllBare (xs ++ ys)
bare_append [] ys a b = b
bare_append (x ∷ xs) ys a b = (a.0, bare_append xs ys a.1 b)

-- ids are from 1; they, and those that a row names, are numbers of a u32
low_id : {T : Type 0} (id : T → ℕ) (most : ℕ) (kept : RowList T) (row : T) → IsRowList id most kept → Contains kept.rows row → 1 ≤ id row
low_id id most kept row h c = let a = rises_above id 0 kept.rows row h.ordered c in omega arith

high_id : {T : Type 0} (id : T → ℕ) (most : ℕ) (kept : RowList T) (row : T) → IsRowList id most kept → Contains kept.rows row → IsWord (id row)
high_id id most kept row h c = let a = below_there id kept.next kept.rows row h.below c in let b = h.next_fits in omega arith

high_name : {T : Type 0} (id : T → ℕ) (most : ℕ) (kept : RowList T) (n : ℕ) → IsRowList id most kept → IsSome (row_at id kept.rows n) → IsWord n
high_name id most kept n h c = let a = id_below id kept.next n kept.rows h.below c in let b = h.next_fits in omega arith

named_word : (named : Option ℕ) → ((n : ℕ) → named ≡ Some n → IsWord n) → IsAbsentOr IsWord named
named_word None h = tt
named_word (Some n) h = h n refl

module _ (s : State) (h : IsLawful s) where
  bare_kind : (kind : Kind) → AllBare (kind_views s kind)
  bare_kind Vrfs = bare_map VrfView s.vrfs.rows (λ row c. record {
    low = low_id vrf_id _ s.vrfs row h.vrfs.row_list c;
    high = high_id vrf_id _ s.vrfs row h.vrfs.row_list c;
    bounds = h.vrfs.each row c;
  })
  bare_kind Rirs = bare_map RirView s.rirs.rows (λ row c. record {
    low = low_id rir_id _ s.rirs row h.rirs.row_list c;
    high = high_id rir_id _ s.rirs row h.rirs.row_list c;
    bounds = h.rirs.each row c;
  })
  bare_kind Roles = bare_map RoleView s.roles.rows (λ row c. record {
    low = low_id role_id _ s.roles row h.roles.row_list c;
    high = high_id role_id _ s.roles row h.roles.row_list c;
    bounds = h.roles.each row c;
  })
  bare_kind Aggregates = bare_map AggregateView s.aggregates.rows (λ row c. record {
    low = low_id aggregate_id _ s.aggregates row h.aggregates.row_list c;
    high = high_id aggregate_id _ s.aggregates row h.aggregates.row_list c;
    rir = high_name rir_id _ s.rirs row.rir h.rirs.row_list (h.aggregates.registries row row.rir c refl);
    bounds = (h.aggregates.each row c).bounds;
  })
  bare_kind Prefixes = bare_map (λ row. PrefixView row 0 0) s.prefixes.rows (λ row c. (
    record {
      low = low_id prefix_id _ s.prefixes row h.prefixes.row_list c;
      high = high_id prefix_id _ s.prefixes row h.prefixes.row_list c;
      vrf = named_word row.vrf (λ n e. high_name vrf_id _ s.vrfs n h.vrfs.row_list (h.prefixes.tables row n c e));
      role = named_word row.role (λ n e. high_name role_id _ s.roles n h.roles.row_list (h.prefixes.with_roles row n c e));
      bounds = (h.prefixes.each row c).bounds;
    },
    refl,
    refl,
  ))
  bare_kind Ranges = bare_map RangeView s.ranges.rows (λ row c. record {
    low = low_id range_id _ s.ranges row h.ranges.row_list c;
    high = high_id range_id _ s.ranges row h.ranges.row_list c;
    vrf = named_word row.vrf (λ n e. high_name vrf_id _ s.vrfs n h.vrfs.row_list (h.ranges.tables row n c e));
    role = named_word row.role (λ n e. high_name role_id _ s.roles n h.roles.row_list (h.ranges.with_roles row n c e));
    bounds = (h.ranges.each row c).bounds;
  })
  bare_kind Addresses = bare_map AddressView s.addresses.rows (λ row c. record {
    low = low_id address_id _ s.addresses row h.addresses.row_list c;
    high = high_id address_id _ s.addresses row h.addresses.row_list c;
    vrf = named_word row.vrf (λ n e. high_name vrf_id _ s.vrfs n h.vrfs.row_list (h.addresses.tables row n c e));
    bounds = (h.addresses.each row c).bounds;
  })

  bare_all : (ks : List Kind) → AllBare (flat_map (kind_views s) ks)
  bare_all [] = tt
  bare_all (kind ∷ ks) = bare_append (kind_views s kind) (flat_map (kind_views s) ks) (bare_kind kind) (bare_all ks)

-- ---- how many rows there are of a kind

-- how many rows a kind has
abbrev pub count_in : State → Kind → ℕ
count_in s kind = by_kind kind (λ T rules. length (rules.row_list s).rows)

count_yes : {X : Type 0} (p : X → Bool) (x : X) (xs : List X) → p x ≡ true → count_by p (x ∷ xs) ≡ count_by p xs + 1
count_yes p x xs e =
    let n : cond {A = ℕ} (p x) 1 0 ≡ 1 = ap (λ (t : Bool). let k : ℕ = cond t 1 0 in k) e in
    omega (arith, sum_by-cons (λ y. cond (p y) 1 0) x xs)

count_no : {X : Type 0} (p : X → Bool) (x : X) (xs : List X) → p x ≡ false → count_by p (x ∷ xs) ≡ count_by p xs
count_no p x xs e =
    let n : cond {A = ℕ} (p x) 1 0 ≡ 0 = ap (λ (t : Bool). let k : ℕ = cond t 1 0 in k) e in
    omega (arith, sum_by-cons (λ y. cond (p y) 1 0) x xs)

count_by_append : {X : Type 0} (p : X → Bool) (xs ys : List X) → count_by p (xs ++ ys) ≡ count_by p xs + count_by p ys
count_by_append p xs ys = sum_by-append (λ x. cond (p x) 1 0) xs ys

count_map : {T : Type 0} (kind : Kind) (stored : T → Row) (t : Bool) (rows : List T) → ((row : T) → is_of_kind kind (stored row) ≡ t)
    → count_by (is_of_kind kind) (map stored rows) ≡ (if t then length rows else 0)
count_map kind stored true [] h = refl
count_map kind stored false [] h = refl
count_map kind stored true (row ∷ rows) h =
    let later : count_by (is_of_kind kind) (map stored rows) ≡ length rows = count_map kind stored true rows h in
    let one : length (row ∷ rows) ≡ length rows + 1 = omega arith in
    count_yes (is_of_kind kind) (stored row) (map stored rows) (h row) ∙ ap (λ (n : ℕ). n + 1) later ∙ sym one
count_map kind stored false (row ∷ rows) h = count_no (is_of_kind kind) (stored row) (map stored rows) (h row) ∙ count_map kind stored false rows h

count_kind : (s : State) (kind k : Kind) → count_by (is_of_kind kind) (stored_rows s k) ≡ (if kind_number k == kind_number kind then count_in s k else 0)
count_kind s kind Vrfs = count_map kind (λ row. stored_row (VrfView row)) (1 == kind_number kind) s.vrfs.rows (λ row. refl)
count_kind s kind Rirs = count_map kind (λ row. stored_row (RirView row)) (2 == kind_number kind) s.rirs.rows (λ row. refl)
count_kind s kind Roles = count_map kind (λ row. stored_row (RoleView row)) (3 == kind_number kind) s.roles.rows (λ row. refl)
count_kind s kind Aggregates = count_map kind (λ row. stored_row (AggregateView row)) (4 == kind_number kind) s.aggregates.rows (λ row. refl)
count_kind s kind Prefixes = count_map kind (λ row. stored_row (PrefixView row 0 0)) (5 == kind_number kind) s.prefixes.rows (λ row. refl)
count_kind s kind Ranges = count_map kind (λ row. stored_row (RangeView row)) (6 == kind_number kind) s.ranges.rows (λ row. refl)
count_kind s kind Addresses = count_map kind (λ row. stored_row (AddressView row)) (7 == kind_number kind) s.addresses.rows (λ row. refl)

-- those of a kind among the rows of these kinds
abbrev pub counted : State → Kind → List Kind → ℕ
counted s kind [] = 0
counted s kind (k ∷ ks) = (if kind_number k == kind_number kind then count_in s k else 0) + counted s kind ks

count_all : (s : State) (kind : Kind) (ks : List Kind) → count_by (is_of_kind kind) (flat_map (stored_rows s) ks) ≡ counted s kind ks
count_all s kind [] = refl
count_all s kind (k ∷ ks) =
    count_by_append (is_of_kind kind) (stored_rows s k) (flat_map (stored_rows s) ks)
    ∙ ap (λ (n : ℕ). n + count_by (is_of_kind kind) (flat_map (stored_rows s) ks)) (count_kind s kind k)
    ∙ ap (λ (n : ℕ). (if kind_number k == kind_number kind then count_in s k else 0) + n) (count_all s kind ks)

few_enough : (most count : ℕ) → count ≤ most → nat_lt most count ≡ false
few_enough most count h = grind (arith, nat_tests)

module _ (s : State) (h : IsLawful s) where
  few_of : (kind : Kind) → counted s kind kinds ≤ most_of kind
  few_of Vrfs = let a = h.vrfs.row_list.few in omega arith
  few_of Rirs = let a = h.rirs.row_list.few in omega arith
  few_of Roles = let a = h.roles.row_list.few in omega arith
  few_of Aggregates = let a = h.aggregates.row_list.few in omega arith
  few_of Prefixes = let a = h.prefixes.row_list.few in omega arith
  few_of Ranges = let a = h.ranges.row_list.few in omega arith
  few_of Addresses = let a = h.addresses.row_list.few in omega arith

  none_overfull : (kind : Kind) → is_overfull (tables_of s).rows kind ≡ false
  none_overfull kind =
      few_enough (most_of kind) (count_by (is_of_kind kind) (tables_of s).rows)
      (subst (λ (n : ℕ). n ≤ most_of kind) (sym (count_all s kind kinds)) (few_of kind))

-- ---- next ids are above all ids

or_both : (a b : Bool) → a ≡ false → b ≡ false → (a || b) ≡ false
or_both true b h k = cc
or_both false b h k = k

and_first : (a b : Bool) → a ≡ false → (a && b) ≡ false
and_first true b h = cc
and_first false b h = refl

and_last : (a b : Bool) → b ≡ true → (a && not b) ≡ false
and_last true true h = refl
and_last true false h = cc
and_last false b h = refl

past_map : {T : Type 0} (id : T → ℕ) (kind : Kind) (next : ℕ) (stored : T → Row) (rows : List T) → ((row : T) → (stored row).id ≡ id row)
    → AllBelow id next rows → list_any (is_past kind next) (map stored rows) ≡ false
past_map id kind next stored [] e a = refl
past_map id kind next stored (row ∷ rows) e a =
    let low : nat_lt (stored row).id next ≡ true = subst (λ (n : ℕ). nat_lt n next ≡ true) (sym (e row)) (lt_true (id row) next a.0) in
    or_both (is_past kind next (stored row)) (list_any (is_past kind next) (map stored rows))
    (and_last (is_of_kind kind (stored row)) (nat_lt (stored row).id next) low)
    (past_map id kind next stored rows e a.1)

-- rows of another kind are not past it
other_map : {T : Type 0} (kind : Kind) (next : ℕ) (stored : T → Row) (rows : List T) → ((row : T) → is_of_kind kind (stored row) ≡ false)
    → list_any (is_past kind next) (map stored rows) ≡ false
other_map kind next stored [] h = refl
other_map kind next stored (row ∷ rows) h =
    or_both (is_past kind next (stored row)) (list_any (is_past kind next) (map stored rows))
    (and_first (is_of_kind kind (stored row)) (not (nat_lt (stored row).id next)) (h row))
    (other_map kind next stored rows h)

next_past : (s : State) (kind k : Kind) → (kind_number k == kind_number kind) ≡ false → list_any (is_past kind (next_of s kind)) (stored_rows s k) ≡ false
next_past s kind Vrfs e = other_map kind (next_of s kind) (λ row. stored_row (VrfView row)) s.vrfs.rows (λ row. e)
next_past s kind Rirs e = other_map kind (next_of s kind) (λ row. stored_row (RirView row)) s.rirs.rows (λ row. e)
next_past s kind Roles e = other_map kind (next_of s kind) (λ row. stored_row (RoleView row)) s.roles.rows (λ row. e)
next_past s kind Aggregates e = other_map kind (next_of s kind) (λ row. stored_row (AggregateView row)) s.aggregates.rows (λ row. e)
next_past s kind Prefixes e = other_map kind (next_of s kind) (λ row. stored_row (PrefixView row 0 0)) s.prefixes.rows (λ row. e)
next_past s kind Ranges e = other_map kind (next_of s kind) (λ row. stored_row (RangeView row)) s.ranges.rows (λ row. e)
next_past s kind Addresses e = other_map kind (next_of s kind) (λ row. stored_row (AddressView row)) s.addresses.rows (λ row. e)

some_next : (n : ℕ) (b : Bool) → 1 ≤ n → b ≡ false → (n == 0 || b) ≡ false
some_next n b h e = or_both (n == 0) b (some_mask n h) e

module _ (s : State) (h : IsLawful s) where
  own_past : (kind : Kind) → list_any (is_past kind (next_of s kind)) (stored_rows s kind) ≡ false
  own_past Vrfs = past_map vrf_id Vrfs s.vrfs.next (λ row. stored_row (VrfView row)) s.vrfs.rows (λ row. refl) h.vrfs.row_list.below
  own_past Rirs = past_map rir_id Rirs s.rirs.next (λ row. stored_row (RirView row)) s.rirs.rows (λ row. refl) h.rirs.row_list.below
  own_past Roles = past_map role_id Roles s.roles.next (λ row. stored_row (RoleView row)) s.roles.rows (λ row. refl) h.roles.row_list.below
  own_past Aggregates =
      past_map aggregate_id Aggregates s.aggregates.next (λ row. stored_row (AggregateView row)) s.aggregates.rows (λ row. refl) h.aggregates.row_list.below
  own_past Prefixes =
      past_map prefix_id Prefixes s.prefixes.next (λ row. stored_row (PrefixView row 0 0)) s.prefixes.rows (λ row. refl) h.prefixes.row_list.below
  own_past Ranges = past_map range_id Ranges s.ranges.next (λ row. stored_row (RangeView row)) s.ranges.rows (λ row. refl) h.ranges.row_list.below
  own_past Addresses =
      past_map address_id Addresses s.addresses.next (λ row. stored_row (AddressView row)) s.addresses.rows (λ row. refl) h.addresses.row_list.below

  kind_past : (kind k : Kind) → list_any (is_past kind (next_of s kind)) (stored_rows s k) ≡ false
  kind_past kind k = go (kind_number k == kind_number kind) refl
    where
      go : (t : Bool) → (kind_number k == kind_number kind) ≡ t → list_any (is_past kind (next_of s kind)) (stored_rows s k) ≡ false
      go true t =
          let same : kind ≡ k = sym (one_kind k kind (is_eq (kind_number k) (kind_number kind) t)) in
          subst (λ (j : Kind). list_any (is_past kind (next_of s kind)) (stored_rows s j) ≡ false) same (own_past kind)
      go false t = next_past s kind k t

  all_past : (kind : Kind) (ks : List Kind) → list_any (is_past kind (next_of s kind)) (flat_map (stored_rows s) ks) ≡ false
  all_past kind [] = refl
  all_past kind (k ∷ ks) =
      let past = is_past kind (next_of s kind) in
      list_any-append past (stored_rows s k) (flat_map (stored_rows s) ks)
      ∙ or_both (list_any past (stored_rows s k)) (list_any past (flat_map (stored_rows s) ks)) (kind_past kind k) (all_past kind ks)

  next_low : (kind : Kind) → 1 ≤ next_of s kind
  next_low Vrfs = h.vrfs.row_list.next_low
  next_low Rirs = h.rirs.row_list.next_low
  next_low Roles = h.roles.row_list.next_low
  next_low Aggregates = h.aggregates.row_list.next_low
  next_low Prefixes = h.prefixes.row_list.next_low
  next_low Ranges = h.ranges.row_list.next_low
  next_low Addresses = h.addresses.row_list.next_low

  told : (kind : Kind) → told_next (tables_of s).next kind ≡ next_of s kind
  told Vrfs = refl
  told Rirs = refl
  told Roles = refl
  told Aggregates = refl
  told Prefixes = refl
  told Ranges = refl
  told Addresses = refl

  none_bad : (kind : Kind) → is_bad_next (tables_of s).next (tables_of s).rows kind ≡ false
  none_bad kind =
      subst (λ (n : ℕ). (n == 0 || list_any (is_past kind n) (tables_of s).rows) ≡ false) (sym (told kind))
      (some_next (next_of s kind) (list_any (is_past kind (next_of s kind)) (tables_of s).rows) (next_low kind) (all_past kind kinds))

  -- the tables of a lawful state are accepted
  lawful_accepted : IsAccepted (tables_of s) s.global_unique (views_of s)
  lawful_accepted = record {
    rows = record {
      within = record {
        readable = record { version = refl; stored = stored_all s kinds; bare = bare_all s h kinds };
        few = none_found (is_overfull (tables_of s).rows) kinds (λ kind c. none_overfull s h kind);
      };
      unbroken = (all_pass s h).0;
    };
    nexts = none_found (is_bad_next (tables_of s).next (tables_of s).rows) kinds (λ kind c. none_bad kind);
  }

-- ---- the laws

-- tables that open are accepted, with the rows of the state
pub opened_are_accepted : (tables : Tables) (global_unique : Bool) (state : State) → IsOpening tables global_unique state
    → IsAccepted tables global_unique (views_of state)
opened_are_accepted tables global_unique state h =
    subst (λ (t : Tables). IsAccepted t global_unique (views_of state)) h.tables_are
    (subst (λ (g : Bool). IsAccepted (tables_of state) g (views_of state)) h.unique (lawful_accepted state h.lawful))

-- and stand for the state of these rows
pub opened_is_loaded : (tables : Tables) (global_unique : Bool) (state : State) → IsOpening tables global_unique state
    → loaded tables.next global_unique (views_of state) ≡ state
opened_is_loaded tables global_unique state h =
    let whole : addresses_to state state.addresses.rows ≡ state = ap (λ (n : ℕ). let t : State = record state { spent = n } in t) (sym h.spent) in
    subst (λ (t : Tables). loaded t.next global_unique (views_of state) ≡ state) h.tables_are
    (subst (λ (g : Bool). loaded (tables_of state).next g (views_of state) ≡ state) h.unique ((all_pass state h.lawful).1 ∙ whole))

-- tables that open have no fault
pub opened_have_no_fault : OpenedHaveNoFault
opened_have_no_fault tables global_unique state fault h t =
    opening_is_one.apart tables global_unique (views_of state) fault t (opened_are_accepted tables global_unique state h)

-- tables open to one state
pub opened_to_one_state : OpenedToOneState
opened_to_one_state tables global_unique one other h k =
    let first_read = (opened_are_accepted tables global_unique one h).rows.within.readable in
    let second_read = (opened_are_accepted tables global_unique other k).rows.within.readable in
    let same : views_of one ≡ views_of other = opening_is_one.views tables (views_of one) (views_of other) first_read second_read in
    sym (opened_is_loaded tables global_unique one h)
    ∙ ap (λ (views : List View). loaded tables.next global_unique views) same
    ∙ opened_is_loaded tables global_unique other k
