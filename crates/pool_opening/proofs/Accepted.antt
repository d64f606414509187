-- The tables of lawful pools have no fault.
use Rattle.std.proofs.Common.{◌≡◌, ℕ, ◌<◌, ◌≤◌, ◌==◌, ◌||◌, ◌&&◌, ◌++◌, ◌⊎◌, nat_le, Bool, true, false, not, List, [], ◌∷◌, append_assoc, fold, Option, Some, None, option_map, refl, ap, sym, ◌∙◌, subst, arith, inl, inr, Contains, if◌then◌else◌}
use Rattle.std.specs.List.{list_any}
use Rattle.std.proofs.lemmas.Bool.Decides.{nat_tests}
use Rattle.std.proofs.lemmas.Slice.Eq.{bytes_eq-Decides}
use Rattle.ipam_data.specs.Checks.{first}
use Rattle.ipam_data.specs.RowList.{AllBelow, Rises, row_at}
use Rattle.ipam_data.proofs.RowLists.{contains_cases, contains_head, contains_rest}
use Rattle.number_pools.specs.declared.rows.PoolKind.{PoolKind}
use Rattle.number_pools.specs.declared.rows.PoolKind.TheVariants.{Asn, Vlan}
use Rattle.number_pools.specs.declared.rows.NumberRange.{NumberRange}
use Rattle.number_pools.specs.declared.rows.Member.{Member}
use Rattle.number_pools.specs.Rows.{Pools, member_id, most_of, range_id}
use Rattle.number_pools.specs.Free.{is_held, pool_at}
use Rattle.number_pools.specs.Lawful.{AreNumbered, HaveOneName, HoldOneNumber, IsInBounds, IsInRange, IsLawfulPools}
use Rattle.number_pools.specs.Steps.{has_name, in_bounds, same_kind}
use Rattle.pool_keeper.specs.Stored.{tables_of}
use Rattle.pool_rows.proofs.Filling.{next_below}
use Rattle.pool_keeper.specs.declared.tables.PoolTables.{PoolTables}
use Rattle.pool_opening.specs.declared.faults.PoolFault.{PoolFault}
use Rattle.pool_opening.specs.declared.faults.PoolFault.TheVariants.{BadRange, BadMember, BadNext}
use Rattle.pool_opening.specs.Faults.{breaks_member, breaks_range, fault_of, greater, is_bad_next, is_not_above, is_out_of_order, is_outside, least_broken, lesser_if}
use Rattle.pool_opening.specs.Laws.{LawfulHaveNoFault}

-- ---- tests

none_true : (a b c : Bool) → a ≡ false → b ≡ false → c ≡ false → (a || b || c) ≡ false
none_true a b c ea eb ec = rw (ea, eb, ec) refl

both : (a b : Bool) → (a && b) ≡ true → (a ≡ true) × (b ≡ true)
both true b e = (refl, e)
both false b e = cc

none_any : {T : Type 0} (p : T → Bool) (xs : List T) → ((y : T) → Contains xs y → p y ≡ true → ⊥) → list_any p xs ≡ false
none_any p [] h = refl
none_any {T} p (y ∷ ys) h = go (p y) refl (none_any p ys (λ z c e. h z (contains_rest y z ys c) e))
  where
    go : (t : Bool) → p y ≡ t → list_any p ys ≡ false → (t || list_any p ys) ≡ false
    go true e ih = absurd (h y (contains_head y ys) e)
    go false e ih = ih

-- ---- a row of a list, and those before it

contains_before : {T : Type 0} (before rest : List T) (y : T) → Contains before y → Contains (before ++ rest) y
contains_before [] rest y c = absurd (let n = c.1 in omega arith)
contains_before {T} (z ∷ zs) rest y c =
    elim (contains_cases z y zs c) [
      | inl e ↦ subst (λ (w : T). Contains (z ∷ (zs ++ rest)) w) e (contains_head z (zs ++ rest))
      | inr d ↦ contains_rest z y (zs ++ rest) (contains_before zs rest y d)
    ]

contains_here : {T : Type 0} (before rest : List T) (x : T) → Contains (before ++ x ∷ rest) x
contains_here [] rest x = contains_head x rest
contains_here (z ∷ zs) rest x = contains_rest z x (zs ++ x ∷ rest) (contains_here zs rest x)

module _ {T : Type 0} (id : T → ℕ) where
  none_broken : (breaks : List T → T → Bool) (all : List T) → ((before : List T) (x : T) (rest : List T) → before ++ x ∷ rest ≡ all → breaks before x ≡ false)
      → (before xs : List T) → before ++ xs ≡ all → least_broken id breaks before None xs ≡ None
  none_broken breaks all h before [] e = refl
  none_broken breaks all h before (x ∷ xs) e =
      ap (λ (t : Bool). least_broken id breaks (before ++ x ∷ []) (lesser_if t (id x) None) xs) (h before x xs e)
      ∙ none_broken breaks all h (before ++ x ∷ []) xs (append_assoc before (x ∷ []) xs ∙ e)

  greater_under : (n top k : ℕ) → top < n → k < n → greater top k < n
  greater_under n top k t lt = go (nat_le k top)
    where
      go : (b : Bool) → (if b then top else k) < n
      go true = t
      go false = lt

  top_under : (n top : ℕ) (xs : List T) → top < n → AllBelow id n xs → fold (λ most y. greater most (id y)) top xs < n
  top_under n top [] t below = t
  top_under n top (x ∷ xs) t below = top_under n (greater top (id x)) xs (greater_under n top (id x) t below.0) below.1

  in_order : (all before : List T) (x : T) (rest : List T) → Rises id 0 all → before ++ x ∷ rest ≡ all → is_out_of_order id before x ≡ false
  in_order all before x rest r e =
      let below = next_below id all before (x ∷ rest) x rest r e refl in
      let top = top_under (id x) 0 before below.1 below.0 in
      grind (arith, nat_tests, top)

  all_under : (n : ℕ) (xs : List T) → AllBelow id n xs → (y : T) → Contains xs y → id y < n
  all_under n [] below y c = absurd (let k = c.1 in omega arith)
  all_under n (x ∷ xs) below y c = elim (contains_cases x y xs c) [ inl e ↦ subst (λ (w : T). id w < n) e below.0 | inr d ↦ all_under n xs below.1 y d ]

  earlier : (all before : List T) (x : T) (rest : List T) → Rises id 0 all → before ++ x ∷ rest ≡ all → (y : T) → Contains before y → id y < id x
  earlier all before x rest r e y c = all_under (id x) before (next_below id all before (x ∷ rest) x rest r e refl).0 y c

  row_in : (all before : List T) (x : T) (rest : List T) → before ++ x ∷ rest ≡ all → Contains all x
  row_in all before x rest e = subst (λ (xs : List T). Contains xs x) e (contains_here before rest x)

  row_before : (all before : List T) (x : T) (rest : List T) → before ++ x ∷ rest ≡ all → (y : T) → Contains before y → Contains all y
  row_before all before x rest e y c = subst (λ (xs : List T). Contains xs y) e (contains_before before (x ∷ rest) y c)

  all_above : (rows : List T) (next : ℕ) → AllBelow id next rows → list_any (is_not_above id next) rows ≡ false
  all_above rows next below = none_any (is_not_above id next) rows (λ y c e. let lt = all_under next rows below y c in absurd (grind (arith, nat_tests, e, lt)))

  next_good : (rows : List T) (next : ℕ) → AreNumbered id (record { rows = rows; next = next }) → is_bad_next id rows next ≡ false
  next_good rows next h =
      let low = h.next_low in
      let z : (next == 0) ≡ false = grind (arith, nat_tests, low) in
      rw (z, all_above rows next h.below) refl

-- ---- ranges

one_kind : (a b : PoolKind) → same_kind a b ≡ true → a ≡ b
one_kind Asn Asn e = refl
one_kind Asn Vlan e = cc
one_kind Vlan Asn e = cc
one_kind Vlan Vlan e = refl

one_name : (x y : NumberRange) → has_name y.kind y.name x ≡ true → HaveOneName x y
one_name x y e = (let h = both (same_kind x.kind y.kind) _ e in (one_kind x.kind y.kind h.0, (bytes_eq-Decides x.name y.name).0 h.1))

bounds_pass : (r : NumberRange) → IsInBounds r → not (in_bounds r.kind r.first r.last) ≡ false
bounds_pass r h =
    let low = h.0 in let order = h.1 in let high = h.2 in
    let a : nat_le 1 r.first ≡ true = grind (arith, nat_tests, low) in
    let b : nat_le r.first r.last ≡ true = grind (arith, nat_tests, order) in
    let c : nat_le r.last (most_of r.kind) ≡ true = grind (arith, nat_tests, high) in
    rw (a, b, c) refl

module _ (s : Pools) (h : IsLawfulPools s) where
  range_good : (before : List NumberRange) (r : NumberRange) (rest : List NumberRange) → before ++ r ∷ rest ≡ s.ranges.rows → breaks_range before r ≡ false
  range_good before r rest e =
      let name_free = none_any (has_name r.kind r.name) before (λ y c named.
      let same : range_id y ≡ range_id r = h.names y r (row_before range_id s.ranges.rows before r rest e y c) (row_in range_id s.ranges.rows before r rest e) (one_name y r named) in
      let less = earlier range_id s.ranges.rows before r rest h.ranges.ordered e y c in absurd (omega arith)) in
      none_true (is_out_of_order range_id before r) (list_any (has_name r.kind r.name) before) (not (in_bounds r.kind r.first r.last))
      (in_order range_id s.ranges.rows before r rest h.ranges.ordered e) name_free (bounds_pass r (h.bounds r (row_in range_id s.ranges.rows before r rest e)))

  -- ---- members

  inside_passes : (m : Member) → IsInRange s.ranges.rows m → is_outside (row_at range_id s.ranges.rows m.range) m.number ≡ false
  inside_passes m w =
      let low = w.2 in let high = w.3 in
      let a : nat_le w.0.first m.number ≡ true = grind (arith, nat_tests, low) in
      let b : nat_le m.number w.0.last ≡ true = grind (arith, nat_tests, high) in
      ap (λ (o : Option NumberRange). is_outside o m.number) w.1 ∙ rw (a, b) refl

  one_number : (x y : Member) → (pool_at s.ranges.rows x == pool_at s.ranges.rows y && x.number == y.number) ≡ true → HoldOneNumber s.ranges.rows x y
  one_number x y e =
      let k = both (pool_at s.ranges.rows x == pool_at s.ranges.rows y) (x.number == y.number) e in
      let a = k.0 in let b = k.1 in
      (grind (arith, nat_tests, a), grind (arith, nat_tests, b))

  member_good : (before : List Member) (m : Member) (rest : List Member) → before ++ m ∷ rest ≡ s.members.rows → breaks_member s.ranges.rows before m ≡ false
  member_good before m rest e =
      let number_free : is_held s.ranges.rows before (pool_at s.ranges.rows m) m.number ≡ false =
      none_any (λ y. pool_at s.ranges.rows y == pool_at s.ranges.rows m && y.number == m.number) before (λ y c held.
      let same : member_id y ≡ member_id m = h.numbers y m (row_before member_id s.members.rows before m rest e y c) (row_in member_id s.members.rows before m rest e) (one_number y m held) in
      let less = earlier member_id s.members.rows before m rest h.members.ordered e y c in absurd (omega arith)) in
      none_true (is_out_of_order member_id before m) (is_outside (row_at range_id s.ranges.rows m.range) m.number) (is_held s.ranges.rows before (pool_at s.ranges.rows m) m.number)
      (in_order member_id s.members.rows before m rest h.members.ordered e) (inside_passes m (h.within m (row_in member_id s.members.rows before m rest e))) number_free

-- ---- the law

neither_bad : (a b : Bool) → a ≡ false → b ≡ false → (a || b) ≡ false
neither_bad a b ea eb = rw (ea, eb) refl

no_fault : (a b : Option ℕ) (t : Bool) → a ≡ None → b ≡ None → t ≡ false → first (option_map BadRange a ∷ option_map BadMember b ∷ (if t then Some BadNext else None) ∷ []) ≡ None
no_fault a b t ea eb et = rw (ea, eb, et) refl

pub lawful_faultless : LawfulHaveNoFault
lawful_faultless s h =
    no_fault (least_broken range_id breaks_range [] None s.ranges.rows) (least_broken member_id (breaks_member s.ranges.rows) [] None s.members.rows)
    (is_bad_next range_id s.ranges.rows s.ranges.next || is_bad_next member_id s.members.rows s.members.next)
    (none_broken range_id breaks_range s.ranges.rows (range_good s h) [] s.ranges.rows refl)
    (none_broken member_id (breaks_member s.ranges.rows) s.members.rows (member_good s h) [] s.members.rows refl)
    (neither_bad (is_bad_next range_id s.ranges.rows s.ranges.next) (is_bad_next member_id s.members.rows s.members.next)
    (next_good range_id s.ranges.rows s.ranges.next h.ranges) (next_good member_id s.members.rows s.members.next h.members))

pub never_refused : (tables : PoolTables) (s : Pools) (fault : PoolFault) → IsLawfulPools s → tables ≡ tables_of s → fault_of tables ≡ Some fault → ⊥
never_refused tables s fault h e f = (let none : None ≡ Some fault = sym (ap fault_of e ∙ lawful_faultless s h) ∙ f in cc)
