-- Members that hold free numbers of a range, each its own, are lawful beside those that are there; so are those that hold the least ones.
use Rattle.std.proofs.Common.{◌≡◌, ◌≢◌, ℕ, zero, suc, ◌+◌, ◌<◌, ◌≤◌, ◌==◌, ◌&&◌, Bool, true, false, not, cond, List, [], ◌∷◌, filter, take, length, Option, Some, refl, ap, sym, ◌∙◌, arith, ⊎_elim, Contains}
use Rattle.std.specs.List.{fold}
use Rattle.inet_num.specs.Count.{numbers_from}
use Rattle.ipam_data.specs.RowList.{RowList, appended, row_at, with_row, AllAre, IsApart, last_next}
use Rattle.ipam_data.proofs.RowLists.{eq_true, contains_with}
use Rattle.ipam_data.proofs.Kept.{all-with, apart-with}
use Rattle.number_pools.specs.declared.rows.NumberRange.{NumberRange}
use Rattle.number_pools.specs.declared.rows.Member.{Member}
use Rattle.number_pools.specs.Rows.{member_id, range_id}
use Rattle.number_pools.specs.Free.{holds, is_held, pool_at, pool_found, pool_of}
use Rattle.number_pools.specs.Lawful.{AreNumbered, HoldOneNumber, IsInRange}
use Rattle.number_pools.specs.Steps.{made_members}
use Rattle.number_pools.proofs.Lists.{none_passes, numbered-appended}

module _ (ranges : List NumberRange) where
  -- what the law says of members
  pub record AreMembers (kept : RowList Member) : Type 0 where
    pub numbered : AreNumbered member_id kept
    pub within : AllAre (IsInRange ranges) kept.rows
    pub numbers : IsApart member_id (HoldOneNumber ranges) kept.rows

  -- no member holds the number of the pool
  abbrev pub IsFree : List Member → ℕ → ℕ → Type 0
  IsFree members pool n = (x : Member) → Contains members x → pool_at ranges x ≡ pool → x.number ≢ n

  -- free numbers of a range, from this one on, in order
  abbrev pub AreFree : List Member → NumberRange → ℕ → List ℕ → Type 0
  AreFree members range low [] = Unit {0}
  AreFree members range low (n ∷ ns) = (low ≤ n) × (n ≤ range.last) × IsFree members (pool_of range) n × AreFree members range (n + 1) ns

  -- more of them, from below
  lower : (members : List Member) (range : NumberRange) (low high : ℕ) (ns : List ℕ) → low ≤ high → AreFree members range high ns → AreFree members range low ns
  lower members range low high [] le f = tt
  lower members range low high (n ∷ ns) le f = let a = f.0 in (omega arith, f.1, f.2, f.3)

  pub some_free : (members : List Member) (range : NumberRange) (k low : ℕ) (ns : List ℕ) → AreFree members range low ns → AreFree members range low (take k ns)
  some_free members range zero low ns f = tt
  some_free members range (suc k) low [] f = tt
  some_free members range (suc k) low (n ∷ ns) f = (f.0, f.1, f.2, some_free members range k (n + 1) ns f.3)

  -- what no member passes the test for is free
  pub none_hold : (members : List Member) (pool n : ℕ) → ((x : Member) → Contains members x → holds ranges pool n x ≡ false) → IsFree members pool n
  none_hold members pool n h x c p q =
      let t : (pool_at ranges x == pool && x.number == n) ≡ true = rw (eq_true (pool_at ranges x) pool p, eq_true x.number n q) refl in
      let b : true ≡ false = sym t ∙ h x c in cc

  is_free : (members : List Member) (pool n : ℕ) → is_held ranges members pool n ≡ false → IsFree members pool n
  is_free members pool n e = none_hold members pool n (λ x c. none_passes (holds ranges pool n) members x e c)

  pub free_from : (members : List Member) (range : NumberRange) (k low : ℕ) → low + k ≤ range.last + 1
      → AreFree members range low (filter (λ n. not (is_held ranges members (pool_of range) n)) (numbers_from low k))
  unfolding numbers_from
  free_from members range zero low le = tt
  free_from members range (suc k) low le = go (is_held ranges members (pool_of range) low) refl (free_from members range k (low + 1) (omega arith))
    where
      go : (t : Bool) → is_held ranges members (pool_of range) low ≡ t
          → AreFree members range (low + 1) (filter (λ n. not (is_held ranges members (pool_of range) n)) (numbers_from (low + 1) k))
          → AreFree members range low (cond (not t) (low ∷ filter (λ n. not (is_held ranges members (pool_of range) n)) (numbers_from (low + 1) k)) (filter (λ n. not (is_held ranges members (pool_of range) n)) (numbers_from (low + 1) k)))
      go true t ih = lower members range low (low + 1) (filter (λ n. not (is_held ranges members (pool_of range) n)) (numbers_from (low + 1) k)) (omega arith) ih
      go false t ih = (omega arith, omega arith, is_free members (pool_of range) low t, ih)

  -- the number is none of these
  abbrev pub IsNoneOf : ℕ → List ℕ → Type 0
  IsNoneOf n [] = Unit {0}
  IsNoneOf n (m ∷ ms) = (n ≢ m) × IsNoneOf n ms

  -- free numbers of a range, each once
  abbrev pub AreOpen : List Member → NumberRange → List ℕ → Type 0
  AreOpen members range [] = Unit {0}
  AreOpen members range (n ∷ ns) = (range.first ≤ n) × (n ≤ range.last) × IsFree members (pool_of range) n × IsNoneOf n ns × AreOpen members range ns

  -- those from another one on are above a lesser one
  none_above : (members : List Member) (range : NumberRange) (n low : ℕ) (ns : List ℕ) → n < low → AreFree members range low ns → IsNoneOf n ns
  none_above members range n low [] lt f = tt
  none_above members range n low (m ∷ ms) lt f = let a = f.0 in (λ e. omega arith, none_above members range n (m + 1) ms (omega arith) f.3)

  -- numbers in order are each there once
  pub free_open : (members : List Member) (range : NumberRange) (low : ℕ) (ns : List ℕ) → range.first ≤ low → AreFree members range low ns → AreOpen members range ns
  free_open members range low [] first f = tt
  free_open members range low (n ∷ ns) first f =
      let a = f.0 in (omega arith, f.1, f.2, none_above members range n (n + 1) ns (omega arith) f.3, free_open members range (n + 1) ns (omega arith) f.3)

  -- those beside a number that is given are free still
  still_open : (members : List Member) (range : NumberRange) (m : Member) (ns : List ℕ) → IsNoneOf m.number ns → AreOpen members range ns
      → AreOpen (with_row member_id members m) range ns
  still_open members range m [] other f = tt
  still_open members range m (n ∷ ns) other f = (
    f.0,
    f.1,
    (λ x c p q. ⊎_elim (λ e. let b = ap (λ (y : Member). y.number) e in absurd (other.0 (b ∙ q))) (λ d. f.2 x d p q) (contains_with member_id members m x c)),
    f.3,
    still_open members range m ns other.1 f.4,
  )

  -- one more member, with a free number of its range
  one_given : (kept : RowList Member) (m : Member) (range : NumberRange) → AreMembers kept → row_at range_id ranges m.range ≡ Some range → m.id ≡ kept.next → kept.next + 1 ≤ last_next
      → range.first ≤ m.number → m.number ≤ range.last → IsFree kept.rows (pool_of range) m.number → AreMembers (appended member_id kept m)
  one_given kept m range h there id fits low high free = record {
    numbered = numbered-appended member_id kept m h.numbered id fits;
    within = all-with member_id (IsInRange ranges) kept.rows m h.within (range, there, low, high);
    numbers = apart-with member_id (HoldOneNumber ranges) kept.rows m (λ x y k. (sym k.0, sym k.1))
        (λ x c k. absurd (free x c (sym k.0 ∙ ap (λ (o : Option NumberRange). pool_found o m.range) there) (sym k.1))) h.numbers;
  }

  pub all_given : (kept : RowList Member) (range : NumberRange) (ns : List ℕ) (names : List (List ℕ)) → AreMembers kept → row_at range_id ranges range.id ≡ Some range
      → kept.next + length names ≤ last_next → AreOpen kept.rows range ns
      → AreMembers (fold (appended member_id) kept (made_members kept.next range.id ns names))
  all_given kept range [] names h there fits each_free = h
  all_given kept range (n ∷ ns) [] h there fits each_free = h
  all_given kept range (n ∷ ns) (name ∷ names) h there fits each_free =
      let m : Member = record { id = kept.next; range = range.id; number = n; name = name } in
      all_given (appended member_id kept m) range ns names (one_given kept m range h there refl (omega arith) each_free.0 each_free.1 each_free.2) there (omega arith)
      (still_open kept.rows range m ns each_free.3 each_free.4)
