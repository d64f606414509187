-- The pools of tables without a fault are lawful.
use Rattle.std.proofs.Common.{◌≡◌, ◌≢◌, ℕ, ◌<◌, ◌≤◌, ◌==◌, ◌||◌, ◌&&◌, ◌++◌, ◌⊎◌, nat_le, Bool, true, false, not, List, [], ◌∷◌, append-nil, append_assoc, fold, length, Option, Some, None, option_map, refl, ap, sym, ◌∙◌, subst, arith, inl, inr, Contains, if◌then◌else◌}
use Rattle.std.specs.List.{list_any}
use Rattle.std.proofs.lemmas.Bool.Decides.{nat_tests}
use Rattle.std.proofs.lemmas.List.Sums.{fold_push}
use Rattle.std.proofs.lemmas.Slice.Eq.{bytes_eq-Decides}
use Rattle.ipam_data.specs.Checks.{first}
use Rattle.ipam_data.specs.RowList.{AllAre, AllBelow, IsApart, Rises, last_next, row_at}
use Rattle.ipam_data.proofs.Kept.{none_from_map}
use Rattle.ipam_data.proofs.RowLists.{contains_cases, contains_rest, eq_true}
use Rattle.ipam_data.proofs.Verdicts.{none_head, none_rest}
use Rattle.number_pools.specs.declared.rows.PoolKind.{PoolKind}
use Rattle.number_pools.specs.declared.rows.PoolKind.TheVariants.{Asn, Vlan}
use Rattle.number_pools.specs.declared.rows.NumberRange.{NumberRange}
use Rattle.number_pools.specs.declared.rows.Member.{Member}
use Rattle.number_pools.specs.Rows.{Pools, member_id, most_of, range_id}
use Rattle.number_pools.specs.Free.{is_held, pool_at}
use Rattle.number_pools.specs.Lawful.{AreNumbered, HaveOneName, HoldOneNumber, IsInBounds, IsInRange, IsLawfulPools}
use Rattle.number_pools.specs.Steps.{has_name, in_bounds, same_kind}
use Rattle.number_pools.proofs.Lists.{none_passes}
use Rattle.pool_keeper.specs.declared.tables.PoolTables.{PoolTables}
use Rattle.pool_opening.specs.declared.faults.PoolFault.{PoolFault}
use Rattle.pool_opening.specs.declared.faults.PoolFault.TheVariants.{BadRange, BadMember, BadNext}
use Rattle.pool_opening.specs.Faults.{breaks_member, breaks_range, fault_of, greater, is_bad_next, is_not_above, is_out_of_order, is_outside, least_broken, lesser_if, loaded, top_of}

-- ---- tests that fail

neither : (a b : Bool) → (a || b) ≡ false → (a ≡ false) × (b ≡ false)
neither true b e = cc
neither false b e = (refl, e)

none_of : (a b c : Bool) → (a || b || c) ≡ false → (a ≡ false) × (b ≡ false) × (c ≡ false)
none_of true b c e = cc
none_of false true c e = cc
none_of false false c e = (refl, refl, e)

both_true : (a b : Bool) → not (a && b) ≡ false → (a ≡ true) × (b ≡ true)
both_true true true e = (refl, refl)
both_true true false e = cc
both_true false b e = cc

all_true : (a b c : Bool) → not (a && b && c) ≡ false → (a ≡ true) × (b ≡ true) × (c ≡ true)
all_true true true true e = (refl, refl, refl)
all_true true true false e = cc
all_true true false c e = cc
all_true false b c e = cc

is_test : (t : Bool) (fault : PoolFault) → (if t then Some fault else None) ≡ None → t ≡ false
is_test true fault e = cc
is_test false fault e = refl

-- ---- lists without a row that breaks a rule beside those before it

module _ {T : Type 0} (id : T → ℕ) (breaks : List T → T → Bool) where
  abbrev AreGood : List T → List T → Type 0
  AreGood before [] = Unit {0}
  AreGood before (x ∷ xs) = (breaks before x ≡ false) × AreGood (before ++ x ∷ []) xs

  some_lesser : (n : ℕ) (found : Option ℕ) → lesser_if true n found ≡ None → ⊥
  some_lesser n None e = cc
  some_lesser n (Some m) e = cc

  none_broken : (before : List T) (found : Option ℕ) (xs : List T) → least_broken id breaks before found xs ≡ None → (found ≡ None) × AreGood before xs
  none_broken before found [] e = (e, tt)
  none_broken before found (x ∷ xs) e = go (breaks before x) refl (none_broken (before ++ x ∷ []) (lesser_if (breaks before x) (id x) found) xs e)
    where
      go : (t : Bool) → breaks before x ≡ t → (lesser_if t (id x) found ≡ None) × AreGood (before ++ x ∷ []) xs → (found ≡ None) × ((breaks before x ≡ false) × AreGood (before ++ x ∷ []) xs)
      go true t ih = absurd (some_lesser (id x) found ih.0)
      go false t ih = (ih.0, (t, ih.1))

  top_more : (before : List T) (x : T) → top_of id before < id x → top_of id (before ++ x ∷ []) ≡ id x
  top_more before x h =
      let above : nat_le (id x) (top_of id before) ≡ false = grind (arith, nat_tests) in
      fold_push (λ top y. greater top (id y)) 0 before x ∙ ap (λ (t : Bool). if t then top_of id before else id x) above

  good_rises : ((before : List T) (x : T) → breaks before x ≡ false → is_out_of_order id before x ≡ false) → (before xs : List T) → AreGood before xs → Rises id (top_of id before) xs
  good_rises h before [] g = tt
  good_rises h before (x ∷ xs) g =
      let order = h before x g.0 in
      let low : top_of id before < id x = grind (arith, nat_tests, order) in
      (low, subst (λ (n : ℕ). Rises id n xs) (top_more before x low) (good_rises h (before ++ x ∷ []) xs g.1))

  good_all : (Is : T → Type 0) → ((before : List T) (x : T) → breaks before x ≡ false → Is x) → (before xs : List T) → AreGood before xs → AllAre Is xs
  good_all Is h before [] g = λ y c. absurd (let n = c.1 in omega arith)
  good_all Is h before (x ∷ xs) g = λ y c. elim (contains_cases x y xs c) [ inl e ↦ subst Is e (h before x g.0) | inr d ↦ good_all Is h (before ++ x ∷ []) xs g.1 y d ]

  contains_last : (before : List T) (x y : T) → Contains (before ++ x ∷ []) y → Contains before y ⊎ (x ≡ y)
  contains_last [] x y c = elim (contains_cases x y [] c) [ inl e ↦ inr e | inr d ↦ absurd (let n = d.1 in omega arith) ]
  contains_last (z ∷ zs) x y c = go (contains_cases z y (zs ++ x ∷ []) c) (contains_last zs x y)
    where
      go : (z ≡ y) ⊎ Contains (zs ++ x ∷ []) y → (Contains (zs ++ x ∷ []) y → Contains zs y ⊎ (x ≡ y)) → Contains (z ∷ zs) y ⊎ (x ≡ y)
      go (inl e) ih = inl (0, omega arith, e)
      go (inr d) ih = elim (ih d) [ inl b ↦ inl (contains_rest z y zs b) | inr e ↦ inr e ]

  apart_more : (Clash : T → T → Type 0) → ((u v : T) → Clash u v → Clash v u) → (before : List T) (x : T) → ((y : T) → Contains before y → Clash x y → ⊥) → IsApart id Clash before → IsApart id Clash (before ++ x ∷ [])
  apart_more Clash turn before x none apart = λ u v a b k. go u v k (contains_last before x u a) (contains_last before x v b)
    where
      go : (u v : T) → Clash u v → Contains before u ⊎ (x ≡ u) → Contains before v ⊎ (x ≡ v) → id u ≡ id v
      go u v k (inl a) (inl b) = apart u v a b k
      go u v k (inl a) (inr f) = absurd (none u a (subst (λ (w : T). Clash w u) (sym f) (turn u v k)))
      go u v k (inr e) (inl b) = absurd (none v b (subst (λ (w : T). Clash w v) (sym e) k))
      go u v k (inr e) (inr f) = ap id (sym e ∙ f)

  good_apart : (Clash : T → T → Type 0) → ((u v : T) → Clash u v → Clash v u) → ((before : List T) (x y : T) → breaks before x ≡ false → Contains before y → Clash x y → ⊥)
      → (before xs : List T) → AreGood before xs → IsApart id Clash before → IsApart id Clash (before ++ xs)
  good_apart Clash turn none before [] g apart = subst (IsApart id Clash) (sym (append-nil before)) apart
  good_apart Clash turn none before (x ∷ xs) g apart =
      subst (IsApart id Clash) (append_assoc before (x ∷ []) xs)
      (good_apart Clash turn none (before ++ x ∷ []) xs g.1 (apart_more Clash turn before x (λ y c k. none before x y g.0 c k) apart))

  no_rows_apart : (Clash : T → T → Type 0) → IsApart id Clash []
  no_rows_apart Clash = λ u v a b k. absurd (let n = a.1 in omega arith)

-- ---- next ids

module _ {T : Type 0} (id : T → ℕ) where
  below_next : (next : ℕ) (xs : List T) → list_any (is_not_above id next) xs ≡ false → AllBelow id next xs
  below_next next [] e = tt
  below_next next (x ∷ xs) e =
      let h = neither (nat_le next (id x)) (list_any (is_not_above id next) xs) e in
      let a = h.0 in
      (grind (arith, nat_tests, a), below_next next xs h.1)

  pub numbered_from : (rows : List T) (next : ℕ) → Rises id 0 rows → is_bad_next id rows next ≡ false → next ≤ last_next → AreNumbered id (record { rows = rows; next = next })
  numbered_from rows next r e fits =
      let h = neither (next == 0) (list_any (is_not_above id next) rows) e in
      let z = h.0 in
      record { ordered = r; below = below_next next rows h.1; next_low = grind (arith, nat_tests, z); next_fits = fits }

-- ---- ranges

kind_is : (kind : PoolKind) → same_kind kind kind ≡ true
kind_is Asn = refl
kind_is Vlan = refl

range_order : (before : List NumberRange) (r : NumberRange) → breaks_range before r ≡ false → is_out_of_order range_id before r ≡ false
range_order before r e = (none_of (is_out_of_order range_id before r) (list_any (has_name r.kind r.name) before) (not (in_bounds r.kind r.first r.last)) e).0

range_bounds : (before : List NumberRange) (r : NumberRange) → breaks_range before r ≡ false → IsInBounds r
range_bounds before r e =
    let h = (none_of (is_out_of_order range_id before r) (list_any (has_name r.kind r.name) before) (not (in_bounds r.kind r.first r.last)) e).2 in
    let k = all_true (nat_le 1 r.first) (nat_le r.first r.last) (nat_le r.last (most_of r.kind)) h in
    let a = k.0 in let b = k.1 in let c = k.2 in
    (grind (arith, nat_tests, a), grind (arith, nat_tests, b), grind (arith, nat_tests, c))

range_name : (before : List NumberRange) (r x : NumberRange) → breaks_range before r ≡ false → Contains before x → HaveOneName r x → ⊥
range_name before r x e c k =
    let h = (none_of (is_out_of_order range_id before r) (list_any (has_name r.kind r.name) before) (not (in_bounds r.kind r.first r.last)) e).1 in
    let named : has_name r.kind r.name x ≡ true = rw (← k.0, ← k.1, kind_is r.kind) ((bytes_eq-Decides r.name r.name).1 refl) in
    let q : true ≡ false = sym named ∙ none_passes (has_name r.kind r.name) before x h c in cc

-- ranges of which none breaks a rule are in the order of their ids
pub ranges_rise : (ranges : List NumberRange) → least_broken range_id breaks_range [] None ranges ≡ None → Rises range_id 0 ranges
ranges_rise ranges e = good_rises range_id breaks_range range_order [] ranges (none_broken range_id breaks_range [] None ranges e).1

-- ---- members

module _ (ranges : List NumberRange) where
  parts : (before : List Member) (m : Member) → breaks_member ranges before m ≡ false
      → (is_out_of_order member_id before m ≡ false) × (is_outside (row_at range_id ranges m.range) m.number ≡ false) × (is_held ranges before (pool_at ranges m) m.number ≡ false)
  parts before m e = none_of (is_out_of_order member_id before m) (is_outside (row_at range_id ranges m.range) m.number) (is_held ranges before (pool_at ranges m) m.number) e

  inside : (m : Member) → is_outside (row_at range_id ranges m.range) m.number ≡ false → IsInRange ranges m
  inside m e = go (row_at range_id ranges m.range) refl e
    where
      go : (o : Option NumberRange) → row_at range_id ranges m.range ≡ o → is_outside o m.number ≡ false → IsInRange ranges m
      go None f h = cc
      go (Some r) f h =
          let k = both_true (nat_le r.first m.number) (nat_le m.number r.last) h in
          let a = k.0 in let b = k.1 in
          (r, f, grind (arith, nat_tests, a), grind (arith, nat_tests, b))

  held_once : (before : List Member) (m x : Member) → breaks_member ranges before m ≡ false → Contains before x → HoldOneNumber ranges m x → ⊥
  held_once before m x e c k =
      let test : Member → Bool = λ y. pool_at ranges y == pool_at ranges m && y.number == m.number in
      let passes : (pool_at ranges x == pool_at ranges m && x.number == m.number) ≡ true = rw (eq_true (pool_at ranges x) (pool_at ranges m) (sym k.0), eq_true x.number m.number (sym k.1)) refl in
      let q : true ≡ false = sym passes ∙ none_passes (λ y. pool_at ranges y == pool_at ranges m && y.number == m.number) before x (parts before m e).2 c in cc

-- ---- the law

pub faultless_is_lawful : (tables : PoolTables) → tables.next_range ≤ last_next → tables.next_member ≤ last_next → fault_of tables ≡ None → IsLawfulPools (loaded tables)
faultless_is_lawful tables fits_range fits_member e =
    let ranges = option_map BadRange (least_broken range_id breaks_range [] None tables.ranges) in
    let members = option_map BadMember (least_broken member_id (breaks_member tables.ranges) [] None tables.members) in
    let bad = is_bad_next range_id tables.ranges tables.next_range || is_bad_next member_id tables.members tables.next_member in
    let next : Option PoolFault = if bad then Some BadNext else None in
    let e1 = none_rest ranges (members ∷ next ∷ []) e in
    let e2 = none_rest members (next ∷ []) e1 in
    let good_ranges = (none_broken range_id breaks_range [] None tables.ranges (none_from_map BadRange (least_broken range_id breaks_range [] None tables.ranges) (none_head ranges (members ∷ next ∷ []) e))).1 in
    let good_members = (none_broken member_id (breaks_member tables.ranges) [] None tables.members (none_from_map BadMember (least_broken member_id (breaks_member tables.ranges) [] None tables.members) (none_head members (next ∷ []) e1))).1 in
    let nexts = neither (is_bad_next range_id tables.ranges tables.next_range) (is_bad_next member_id tables.members tables.next_member) (is_test bad BadNext (none_head next [] e2)) in
    record {
      ranges = numbered_from range_id tables.ranges tables.next_range (good_rises range_id breaks_range range_order [] tables.ranges good_ranges) nexts.0 fits_range;
      members = numbered_from member_id tables.members tables.next_member
          (good_rises member_id (breaks_member tables.ranges) (λ before m h. (parts tables.ranges before m h).0) [] tables.members good_members) nexts.1 fits_member;
      names = good_apart range_id breaks_range HaveOneName (λ u v k. (sym k.0, sym k.1)) range_name [] tables.ranges good_ranges (no_rows_apart range_id breaks_range HaveOneName);
      bounds = good_all range_id breaks_range IsInBounds range_bounds [] tables.ranges good_ranges;
      within = good_all member_id (breaks_member tables.ranges) (IsInRange tables.ranges) (λ before m h. inside tables.ranges m (parts tables.ranges before m h).1) [] tables.members good_members;
      numbers = good_apart member_id (breaks_member tables.ranges) (HoldOneNumber tables.ranges) (λ u v k. (sym k.0, sym k.1)) (held_once tables.ranges) [] tables.members good_members
          (no_rows_apart member_id (breaks_member tables.ranges) (HoldOneNumber tables.ranges));
      spent = omega arith;
    }
