-- A claim of numbers gets the least free ones of its range, in the words of the law.
use Rattle.std.proofs.Common.{◌≡◌, ◌⊎◌, ◌↔◌, ℕ, zero, suc, ◌+◌, ◌-◌, ◌<◌, ◌≤◌, ◌==◌, ◌&&◌, not, nat_le, Bool, true, false, Contains, List, [], ◌∷◌, length, fold, take, Option, Some, None, refl, ap, sym, ◌∙◌, subst, arith, if◌then◌else◌, inl, inr}
use Rattle.std.specs.List.{slice_get}
use Rattle.std.proofs.lemmas.Bool.Decides.{nat_tests}
use Rattle.inet_num.specs.Count.{numbers_from}
use Rattle.ipam_data.specs.Checks.{first as first_of}
use Rattle.ipam_data.specs.RowList.{RowList, appended, row_at, with_row}
use Rattle.ipam_data.proofs.AddressClaims.{Ups}
use Rattle.ipam_data.proofs.Kept.{found_there}
use Rattle.ipam_data.proofs.RowLists.{contains_cases, contains_head, contains_rest, contains_with, eq_false, eq_true, rises_above}
use Rattle.ipam_data.proofs.Verdicts.{none_head, none_rest, test_holds}
use Rattle.number_pools.specs.declared.calls.TheConstants.{MOST_CLAIMED, MOST_MEMBERS}
use Rattle.number_pools.specs.declared.calls.PoolRefusal.{PoolRefusal}
use Rattle.number_pools.specs.declared.calls.PoolRefusal.TheVariants.{Absent, NoSpace}
use Rattle.number_pools.specs.declared.calls.PoolReply.TheVariants.{Claimed, Refused}
use Rattle.number_pools.specs.declared.calls.Quantity.TheVariants.{Claims, Members as MemberCount}
use Rattle.number_pools.specs.declared.rows.PoolKind.{PoolKind}
use Rattle.number_pools.specs.declared.rows.PoolKind.TheVariants.{Asn, Vlan}
use Rattle.number_pools.specs.declared.rows.NumberRange.{NumberRange}
use Rattle.number_pools.specs.declared.rows.Member.{Member}
use Rattle.number_pools.specs.Rows.{Pools, member_id, range_id}
use Rattle.number_pools.specs.Free.{free_numbers, is_held, numbers_in, pool_at, pool_by, pool_found, pool_of}
use Rattle.number_pools.specs.Lawful.{IsLawfulPools}
use Rattle.number_pools.specs.Steps.{Check, claim_checks, claim_step, claimed, is_short, made_members, no_ids, no_log, of_kind, range_at, same_kind, too_many, unless, with_claim}
use Rattle.number_pools.proofs.Lists.{none_passes}
use Rattle.claim_laws.proofs.LeastAddresses.{ups_above, ups_places}
use Rattle.claim_laws.proofs.Lemmas.{not_that, rising}
use Rattle.claim_laws.proofs.Lists.{any_false, filter_has, filtered, place_contains}
use Rattle.number_laws.specs.Claims.{AreTheLeast, ClaimsAreNew, GotNumbers, HaveNewIds, IsFreeIn, IsOfPool}
use Rattle.number_laws.proofs.Meetings.{asn_pool}
use Rattle.number_laws.proofs.Made.{made_each, made_new, made_stored, many_made, one, row_at_place, row_of}

is_equal : (a b : ℕ) → (a == b) ≡ true → a ≡ b
is_equal a b t = grind (arith, nat_tests, t)

both : (a b : Bool) → (a && b) ≡ true → (a ≡ true) × (b ≡ true)
both true b e = (refl, e)
both false b e = cc

-- ---- numbers of a range

in_numbers : (from many n : ℕ) → from ≤ n → n < from + many → Contains (numbers_from from many) n
unfolding numbers_from
in_numbers from zero n low high = absurd (omega arith)
in_numbers from (suc many) n low high = go (from == n) refl (λ l. in_numbers (from + 1) many n l (omega arith))
  where
    go : (t : Bool) → (from == n) ≡ t → (from + 1 ≤ n → Contains (numbers_from (from + 1) many) n) → Contains (from ∷ numbers_from (from + 1) many) n
    go true t ih = (0, omega arith, is_equal from n t)
    go false t ih = contains_rest from n (numbers_from (from + 1) many) (ih (grind (arith, nat_tests, t)))

are_between : (from many n : ℕ) → Contains (numbers_from from many) n → (from ≤ n) × (n < from + many)
unfolding numbers_from
are_between from zero n c = let l = c.1 in absurd (omega arith)
are_between from (suc many) n c = elim (contains_cases from n (numbers_from (from + 1) many) c) [
  | inl e ↦ (omega arith, omega arith)
  | inr d ↦ (let k = are_between (from + 1) many n d in let a = k.0 in let b = k.1 in (omega arith, omega arith))
]

-- ---- which members share a pool with a range, and which of its numbers are free

module _ (s : Pools) (r : NumberRange) (h : IsLawfulPools s) (there : row_at range_id s.ranges.rows r.id ≡ Some r) where
  pub one_pool : (m : Member) → IsOfPool s r m → pool_at s.ranges.rows m ≡ pool_of r
  one_pool m (inl own) = ap (λ (n : ℕ). pool_found (row_at range_id s.ranges.rows n) n) own ∙ ap (λ (o : Option NumberRange). pool_found o r.id) there
  one_pool m (inr asns) = asn_pool s m asns.1 ∙ sym (ap (λ (k : PoolKind). pool_by k r.id) asns.0)

  by_kinds : (m : Member) (q : NumberRange) (k l : PoolKind) → row_at range_id s.ranges.rows m.range ≡ Some q → q.kind ≡ k → r.kind ≡ l → 0 < q.id → 0 < r.id → q.id ≡ m.range
      → pool_by k q.id ≡ pool_by l r.id → IsOfPool s r m
  by_kinds m q Asn Asn at a b lq lr own e = inr (b, (q, at, a))
  by_kinds m q Asn Vlan at a b lq lr own e = absurd (omega arith)
  by_kinds m q Vlan Asn at a b lq lr own e = absurd (omega arith)
  by_kinds m q Vlan Vlan at a b lq lr own e = inl (sym own ∙ e)

  id_low : (n : ℕ) (q : NumberRange) → row_at range_id s.ranges.rows n ≡ Some q → 0 < q.id
  id_low n q at = rises_above range_id 0 s.ranges.rows q h.ranges.ordered (found_there range_id s.ranges.rows n q at).0

  of_pool : (m : Member) → Contains s.members.rows m → pool_at s.ranges.rows m ≡ pool_of r → IsOfPool s r m
  of_pool m c e =
      let w = h.within m c in
      by_kinds m w.0 w.0.kind r.kind w.1 refl refl (id_low m.range w.0 w.1) (id_low r.id r there) (found_there range_id s.ranges.rows m.range w.0 w.1).1
      (sym (ap (λ (o : Option NumberRange). pool_found o m.range) w.1) ∙ e)

  abbrev held : ℕ → Bool
  held n = is_held s.ranges.rows s.members.rows (pool_of r) n

  free_if : (n : ℕ) → r.first ≤ n → n ≤ r.last → held n ≡ false → IsFreeIn s r n
  free_if n low high e = record { low = low; high = high; unheld = unheld }
    where
      unheld : (m : Member) → Contains s.members.rows m → IsOfPool s r m → m.number ≡ n → ⊥
      unheld m c p q =
          let f : (pool_at s.ranges.rows m == pool_of r && m.number == n) ≡ false = none_passes (λ x. pool_at s.ranges.rows x == pool_of r && x.number == n) s.members.rows m e c in
          let t : (pool_at s.ranges.rows m == pool_of r && m.number == n) ≡ true = rw (eq_true (pool_at s.ranges.rows m) (pool_of r) (one_pool m p), eq_true m.number n q) refl in
          let b : true ≡ false = sym t ∙ f in cc

  not_held : (n : ℕ) → IsFreeIn s r n → held n ≡ false
  not_held n f = any_false (λ x. pool_at s.ranges.rows x == pool_of r && x.number == n) s.members.rows (λ m c t. (
      let b = both (pool_at s.ranges.rows m == pool_of r) (m.number == n) t in
      f.unheld m c (of_pool m c (is_equal (pool_at s.ranges.rows m) (pool_of r) b.0)) (is_equal m.number n b.1)))

  is_among : (n : ℕ) → IsFreeIn s r n → Contains (free_numbers s r) n
  is_among n f =
      let low = f.low in
      let high = f.high in
      filter_has (λ x. not (held x)) (numbers_in r) n (in_numbers r.first (r.last + 1 - r.first) n low (omega arith)) (rw (not_held n f) refl)

  among_is : (n : ℕ) → Contains (free_numbers s r) n → IsFreeIn s r n
  among_is n c =
      let k = filtered (λ x. not (held x)) (numbers_in r) n c in
      let b = are_between r.first (r.last + 1 - r.first) n k.0 in
      let high = b.1 in
      let low = b.0 in
      free_if n low (omega arith) (not_that (held n) k.1)

  they_rise : Ups r.first (free_numbers s r)
  they_rise = rising (λ x. not (held x)) r.first (r.last + 1 - r.first)

-- ---- the members that are made

-- the numbers past the names are not looked at
untaken : (next range : ℕ) (ns : List ℕ) (names : List (List ℕ)) → made_members next range (take (length names) ns) names ≡ made_members next range ns names
untaken next range [] [] = refl
untaken next range [] (name ∷ names) = refl
untaken next range (n ∷ ns) [] = refl
untaken next range (n ∷ ns) (name ∷ names) = ap (λ (rest : List Member). record { id = next; range = range; number = n; name = name } ∷ rest) (untaken (next + 1) range ns names)

module _ (range : ℕ) where
  abbrev Has : List Member → ℕ → Type 0
  Has rows n = (y : Member) × Contains rows y × (y.number ≡ n)

  none_skipped : (next low : ℕ) (ns : List ℕ) (names : List (List ℕ)) (x : Member) (n : ℕ) → Ups low ns → Contains (made_members next range ns names) x → Contains ns n → n < x.number
      → Has (made_members next range ns names) n
  none_skipped next low [] names x n u c d l = let k = c.1 in absurd (omega arith)
  none_skipped next low (m ∷ ns) [] x n u c d l = let k = c.1 in absurd (omega arith)
  none_skipped next low (m ∷ ns) (name ∷ names) x n u c d l =
      go (contains_cases (one range next m name) x (made_members (next + 1) range ns names) c) (contains_cases m n ns d) (λ p q. none_skipped (next + 1) (m + 1) ns names x n u.1 p q l)
    where
      go : (one range next m name ≡ x) ⊎ Contains (made_members (next + 1) range ns names) x → (m ≡ n) ⊎ Contains ns n
          → (Contains (made_members (next + 1) range ns names) x → Contains ns n → Has (made_members (next + 1) range ns names) n) → Has (one range next m name ∷ made_members (next + 1) range ns names) n
      go p (inl b) ih = (one range next m name, contains_head (one range next m name) (made_members (next + 1) range ns names), b)
      go (inl p) (inr b) ih = let v = ap (λ (y : Member). y.number) p in let k = ups_above (m + 1) ns n u.1 b in absurd (omega arith)
      go (inr p) (inr b) ih = let f = ih p b in (f.0, contains_rest (one range next m name) f.0 (made_members (next + 1) range ns names) f.1, f.2)

-- ---- a claim

module _ (s : Pools) (kind : PoolKind) (id : ℕ) (names : List (List ℕ)) (r : NumberRange) (h : IsLawfulPools s) (there : row_at range_id s.ranges.rows r.id ≡ Some r) where
  abbrev given : List Member
  given = made_members s.members.next r.id (free_numbers s r) names

  made_least : AreTheLeast s r given
  made_least = record {
    free = λ x c. (let w = row_at_place s r.id (free_numbers s r) names h x c in
        among_is s r h there x.number (subst (λ (n : ℕ). Contains (free_numbers s r) n) (sym w.1.has) (place_contains (free_numbers s r) w.0 w.1.number w.1.picked)));
    rise = λ i j x y p q l. (
        let a = row_of r.id s.members.next (free_numbers s r) names i x p in
        let b = row_of r.id s.members.next (free_numbers s r) names j y q in
        let v = a.has in let w = b.has in
        let less = ups_places r.first (free_numbers s r) i j a.number b.number (they_rise s r h there) a.picked b.picked l in
        omega arith);
    none_passed = λ x n c f l. none_skipped r.id s.members.next r.first (free_numbers s r) names x n (they_rise s r h there) c (is_among s r h there n f) l;
  }

  got_numbers : row_at range_id s.ranges.rows id ≡ Some r → r.kind ≡ kind → r.id ≡ id → length names ≤ length (free_numbers s r)
      → GotNumbers s kind id names (with_claim s r names, Claimed (claimed s r names))
  got_numbers at k own enough = record {
    range = r;
    there = at;
    is_of = k;
    rows = claimed s r names;
    told = refl;
    stored = subst (λ (rows : List Member). (x : Member) → Contains (fold (appended member_id) s.members rows).rows x ↔ (Contains s.members.rows x ⊎ Contains rows x)) same (made_stored s r.id (free_numbers s r) names h);
    many = ap length (sym same) ∙ many_made r.id s.members.next (free_numbers s r) names enough;
    each = λ n name x p q. (let w = made_each s r.id (free_numbers s r) names h n name x p (subst (λ (rows : List Member). slice_get rows n ≡ Some x) (sym same) q) in (w.0, w.1 ∙ own));
    least = subst (AreTheLeast s r) same made_least;
    ids = subst (HaveNewIds s) same (made_new s r.id (free_numbers s r) names h);
  }
    where
      same : given ≡ claimed s r names
      same = sym (untaken s.members.next r.id (free_numbers s r) names)

-- ---- the range that is named

one_kind : (a b : PoolKind) → same_kind a b ≡ true → a ≡ b
one_kind Asn Asn e = refl
one_kind Asn Vlan e = cc
one_kind Vlan Asn e = cc
one_kind Vlan Vlan e = refl

pub found : (o : Option NumberRange) (kind : PoolKind) (r : NumberRange) → of_kind kind o ≡ Some r → (o ≡ Some r) × (r.kind ≡ kind)
found None kind r e = cc
found (Some x) kind r e = go (same_kind x.kind kind) refl e
  where
    go : (t : Bool) → same_kind x.kind kind ≡ t → (if t then Some x else None) ≡ Some r → (Some x ≡ Some r) × (r.kind ≡ kind)
    go true t e = (e, (let is : x ≡ r = cc in subst (λ (q : NumberRange). q.kind ≡ kind) is (one_kind x.kind kind t)))
    go false t e = cc

got_of : (s : Pools) (kind : PoolKind) (id : ℕ) (names : List (List ℕ)) (o : Option NumberRange) → range_at s.ranges.rows kind id ≡ o → IsLawfulPools s
    → ((why : PoolRefusal) → ¬ ((claim_step s id names o).1 ≡ Refused why)) → GotNumbers s kind id names (claim_step s id names o)
got_of s kind id names None at h fine = absurd (fine (Absent id) refl)
got_of s kind id names (Some r) at h fine = go (first_of (claim_checks s r (length names))) refl fine
  where
    enough : first_of (claim_checks s r (length names)) ≡ None → length names ≤ length (free_numbers s r)
    enough e =
        let large = too_many Claims MOST_CLAIMED (length names) in
        let rest = too_many MemberCount MOST_MEMBERS (length s.members.rows + length names) ∷ no_ids s.members.next (length names) ∷ no_log s (length names) ∷ [] in
        let none = none_head (is_short (length (free_numbers s r)) (length names)) rest (none_rest large (is_short (length (free_numbers s r)) (length names) ∷ rest) e) in
        let t = test_holds (nat_le (length names) (length (free_numbers s r))) (NoSpace (length (free_numbers s r))) none in
        grind (arith, nat_tests)

    go : (why : Check) → first_of (claim_checks s r (length names)) ≡ why → ((w : PoolRefusal) → ¬ ((unless why s (with_claim s r names) (Claimed (claimed s r names))).1 ≡ Refused w))
        → GotNumbers s kind id names (unless why s (with_claim s r names) (Claimed (claimed s r names)))
    go (Some w) e fine = absurd (fine w refl)
    go None e fine =
        let f = found (row_at range_id s.ranges.rows id) kind r at in
        let own : r.id ≡ id = (found_there range_id s.ranges.rows id r f.0).1 in
        got_numbers s kind id names r h (ap (row_at range_id s.ranges.rows) own ∙ f.0) f.0 f.1 own (enough e)

pub claims_are_new : ClaimsAreNew
claims_are_new s kind id list names h fine = got_of s kind id names (range_at s.ranges.rows kind id) refl h fine
