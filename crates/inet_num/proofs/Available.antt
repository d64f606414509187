-- The list that the tests pick out is the available blocks, and no other list is.
use Rattle.std.proofs.Common.{◌≡◌, ℕ, zero, suc, ◌+◌, ◌-◌, ◌%◌, ◌^◌, ◌<◌, ◌≤◌, refl, sym, ◌∙◌, ap, subst, arith, inl, inr, Bool, true, false, not, cond, ◌&&◌, nat_lt, List, [], ◌∷◌, ◌++◌, filter, map}
use Rattle.std.specs.List.{list_any, flat_map, AllByRecursion}
use Rattle.std.proofs.lemmas.Bool.{cases_lt}
use Rattle.std.proofs.lemmas.Bool.Decides.{nat_tests}
use Rattle.std.proofs.lemmas.Nat.{pow_pos}
use Rattle.inet_num.specs.declared.Family.{Family}
use Rattle.inet_num.specs.Net.{width_of, Cidr, IsBlock, size_of, IsInside, enclosing_of}
use Rattle.inet_num.specs.Count.{numbers_from, addresses_of}
use Rattle.inet_num.specs.Free.{IsFree, is_free, meets, is_inside, is_aligned, is_available, IsAvailable, blocks_at, picked_at, available_blocks_of, InOrder, ListsAvailable, AvailableBlocksAreThose}
use Rattle.inet_num.proofs.Numbers.{inside_by_ends, ends_of_inside, block_fits}
use Rattle.inet_num.proofs.Frees.{free_by_test, not_free_by_test}
use Rattle.inet_num.proofs.Nested.{available_apart}
use Rattle.inet_num.proofs.Unique.{Member, Contains-from_Member, one_list}

-- ---- the tests mean what they are named for

pub inside_test : (b w : Cidr) → b.family ≡ w.family → is_inside b w ≡ true → IsInside b w
inside_test b w same t = inside_by_ends b w same (grind (arith, nat_tests)) (grind (arith, nat_tests))

pub inside_tested : (b w : Cidr) → IsInside b w → is_inside b w ≡ true
inside_tested b w h = let ends = ends_of_inside b w h in let low = ends.0 in let high = ends.1 in grind (arith, nat_tests)

free_test : (blocks : List Cidr) (b : Cidr) → is_free blocks b ≡ true → IsFree blocks b
free_test blocks b t = free_by_test blocks b (go (list_any (meets b) blocks) t) where
  go : (u : Bool) → not u ≡ true → u ≡ false
  go true e = cc
  go false e = refl

free_tested : (blocks : List Cidr) (b : Cidr) → IsFree blocks b → is_free blocks b ≡ true
free_tested blocks b h = go (list_any (meets b) blocks) refl where
  go : (u : Bool) → list_any (meets b) blocks ≡ u → not u ≡ true
  go true e = absurd (not_free_by_test blocks b e h)
  go false e = refl

both : (p q : Bool) → (p && q) ≡ true → (p ≡ true) × (q ≡ true)
both true q h = (refl, h)
both false q h = cc

both_true : (p q : Bool) → p ≡ true → q ≡ true → (p && q) ≡ true
both_true p q h k = rw (h, k) refl

-- what the test finds is available
pub available_test : (within : Cidr) (blocks : List Cidr) (b : Cidr) → IsBlock within → b.family ≡ within.family → b.len ≤ width_of b.family → is_available within blocks b ≡ true → IsAvailable within blocks b
available_test within blocks b hw same short t =
    let all = both _ _ t in
    let three = both _ _ all.0 in
    let two = both _ _ three.0 in
    let inside = inside_test b within same two.1 in
    let ends = ends_of_inside b within inside in
    let some = pow_pos (width_of b.family - b.len) in
    let w_is : 2 ^ width_of b.family ≡ 2 ^ width_of within.family = ap (λ (f : Family). 2 ^ width_of f) same in
    let fits = block_fits within hw in
    let al : b.first % size_of b ≡ 0 = (let e : is_aligned b ≡ true = two.0 in grind (arith, nat_tests)) in
    record {
      lawful = record { short = short; aligned = al; in_range = omega arith };
      inside = inside;
      free = free_test blocks b three.1;
      largest = λ some_len outer free.
          let e : nat_lt 0 b.len ≡ true = grind (arith, nat_tests) in
          let f : is_inside (enclosing_of b) within ≡ true = inside_tested (enclosing_of b) within outer in
          let g : is_free blocks (enclosing_of b) ≡ true = free_tested blocks (enclosing_of b) free in
          let no : not (nat_lt 0 b.len && is_inside (enclosing_of b) within && is_free blocks (enclosing_of b)) ≡ true = all.1 in
          let yes : (nat_lt 0 b.len && is_inside (enclosing_of b) within && is_free blocks (enclosing_of b)) ≡ true = both_true _ _ (both_true _ _ e f) g in
          let wrong : not true ≡ true = sym (ap not yes) ∙ no in
          cc;
    }

-- what is available passes the test
pub available_tested : (within : Cidr) (blocks : List Cidr) (b : Cidr) → IsAvailable within blocks b → is_available within blocks b ≡ true
available_tested within blocks b h =
    let al : is_aligned b ≡ true = (let e = h.lawful.aligned in grind (arith, nat_tests)) in
    let last : not (nat_lt 0 b.len && is_inside (enclosing_of b) within && is_free blocks (enclosing_of b)) ≡ true =
    go (nat_lt 0 b.len) refl (is_inside (enclosing_of b) within) refl (is_free blocks (enclosing_of b)) refl in
    both_true _ _ (both_true _ _ (both_true _ _ al (inside_tested b within h.inside)) (free_tested blocks b h.free)) last
  where
    go : (p : Bool) → nat_lt 0 b.len ≡ p → (q : Bool) → is_inside (enclosing_of b) within ≡ q → (r : Bool) → is_free blocks (enclosing_of b) ≡ r → not (p && q && r) ≡ true
    go true e true f true g = absurd (h.largest (grind (arith, nat_tests)) (inside_test (enclosing_of b) within h.inside.family f) (free_test blocks (enclosing_of b) g))
    go true e true f false g = refl
    go true e false f r g = refl
    go false e q f r g = refl

-- ---- at most one available block begins at an address

block_of : Family → ℕ → ℕ → Cidr
block_of family a len = record { family = family; first = a; len = len }

-- what is picked out among the lengths from l on at one address: nothing, or one available block
data Picked (within : Cidr) (blocks : List Cidr) (a : ℕ) (bs : List Cidr) : Type 0 where
  nothing : bs ≡ [] → Picked within blocks a bs
  one : (b : Cidr) → bs ≡ b ∷ [] → b.first ≡ a → IsAvailable within blocks b → Picked within blocks a bs

-- the lengths from l on, as blocks at the address, that pass
abbrev picked_from : Cidr → List Cidr → ℕ → ℕ → ℕ → List Cidr
picked_from within blocks a l n = filter (is_available within blocks) (map (λ k. record { family = within.family; first = a; len = k }) (numbers_from l n))

-- beside an available block at the address no longer one is
none_after : (within : Cidr) (blocks : List Cidr) (a : ℕ) (b : Cidr) → IsBlock within → IsAvailable within blocks b → b.first ≡ a → (l n : ℕ) → b.len < l → l + n ≤ width_of within.family + 1 → picked_from within blocks a l n ≡ []
unfolding numbers_from
none_after within blocks a b hw hb at l zero above top = refl
none_after within blocks a b hw hb at l (suc n) above top = go (is_available within blocks c) refl (none_after within blocks a b hw hb at (l + 1) n (omega arith) (omega arith)) where
  c : Cidr
  c = record { family = within.family; first = a; len = l }

  go : (t : Bool) → is_available within blocks c ≡ t → picked_from within blocks a (l + 1) n ≡ [] → cond t (c ∷ picked_from within blocks a (l + 1) n) (picked_from within blocks a (l + 1) n) ≡ []
  go false e rest = rest
  go true e rest =
      let hc = available_test within blocks c hw refl (omega arith) e in
      let some_b = pow_pos (width_of b.family - b.len) in
      let some_c = pow_pos (width_of c.family - c.len) in
      let same : b ≡ c = available_apart within blocks b c a hb hc (omega arith, omega arith) (omega arith, omega arith) in
      let len : b.len ≡ l = ap (λ (x : Cidr). x.len) same in
      absurd (omega arith)

pick : (within : Cidr) (blocks : List Cidr) (a : ℕ) → IsBlock within → (l n : ℕ) → l + n ≤ width_of within.family + 1 → Picked within blocks a (picked_from within blocks a l n)
unfolding numbers_from
pick within blocks a hw l zero top = nothing refl
pick within blocks a hw l (suc n) top = go (is_available within blocks c) refl (pick within blocks a hw (l + 1) n (omega arith)) where
  c : Cidr
  c = record { family = within.family; first = a; len = l }

  go : (t : Bool) → is_available within blocks c ≡ t → Picked within blocks a (picked_from within blocks a (l + 1) n) → Picked within blocks a (cond t (c ∷ picked_from within blocks a (l + 1) n) (picked_from within blocks a (l + 1) n))
  go false e rest = rest
  go true e rest =
      let hc = available_test within blocks c hw refl (omega arith) e in
      one c (ap (λ (bs : List Cidr). c ∷ bs) (none_after within blocks a c hw hc refl (l + 1) n (omega arith) (omega arith))) refl hc

picked : (within : Cidr) (blocks : List Cidr) (a : ℕ) → IsBlock within → Picked within blocks a (picked_at within blocks a)
unfolding picked_at blocks_at
picked within blocks a hw = pick within blocks a hw 0 (width_of within.family + 1) (omega arith)

-- ---- the list is in order

-- each block begins past the one before it
abbrev Rising : ℕ → List Cidr → Type 0
Rising from [] = Unit {0}
Rising from (b ∷ bs) = (from ≤ b.first) × Rising (b.first + 1) bs

rising_below : (m n : ℕ) (bs : List Cidr) → m ≤ n → Rising n bs → Rising m bs
rising_below m n [] le h = tt
rising_below m n (b ∷ bs) le h = (let l = h.0 in omega arith, h.1)

-- available blocks that rise are apart
in_order : (within : Cidr) (blocks : List Cidr) (from : ℕ) (bs : List Cidr) → AllByRecursion (IsAvailable within blocks) bs → Rising from bs → InOrder from bs
in_order within blocks from [] each h = tt
in_order within blocks from (b ∷ []) each h = (h.0, tt)
in_order within blocks from (b ∷ c ∷ bs) each h =
    let later = in_order within blocks (b.first + 1) (c ∷ bs) each.1 h.1 in
    let past = h.1.0 in
    let some_c = pow_pos (width_of c.family - c.len) in (
      h.0,
      (
        elim (cases_lt c.first (b.first + size_of b)) [
          | inr apart ↦ apart
          | inl within_b ↦
              let same : b ≡ c = available_apart within blocks b c c.first each.0 each.1.0 (omega arith, within_b) (omega arith, omega arith) in
              let first : b.first ≡ c.first = ap (λ (x : Cidr). x.first) same in
              absurd (omega arith)
        ],
        later.1,
      ),
    )

-- what is listed from n addresses on: available, rising, and all that begins there
record Listing (within : Cidr) (blocks : List Cidr) (a n : ℕ) (bs : List Cidr) : Type 0 where
  each : AllByRecursion (IsAvailable within blocks) bs
  rising : Rising a bs

listing : (within : Cidr) (blocks : List Cidr) → IsBlock within → (a n : ℕ) → Listing within blocks a n (flat_map (picked_at within blocks) (numbers_from a n))
unfolding numbers_from
listing within blocks hw a zero = record { each = tt; rising = tt }
listing within blocks hw a (suc n) = go (picked_at within blocks a) (picked within blocks a hw) (listing within blocks hw (a + 1) n) where
  rest : List Cidr
  rest = flat_map (picked_at within blocks) (numbers_from (a + 1) n)

  go : (bs : List Cidr) → Picked within blocks a bs → Listing within blocks (a + 1) n rest → Listing within blocks a (suc n) (bs ++ rest)
  go bs (nothing e) later = rw e (record { each = later.each; rising = rising_below a (a + 1) rest (omega arith) later.rising })
  go bs (one b e at hb) later = rw e (record { each = (hb, later.each); rising = (omega arith, rising_below (b.first + 1) (a + 1) rest (omega arith) later.rising) })

-- ---- the list is whole

passes : (within : Cidr) (blocks xs : List Cidr) (m : Cidr) → is_available within blocks m ≡ true → Member xs m → Member (filter (is_available within blocks) xs) m
passes within blocks [] m t h = h
passes within blocks (x ∷ xs) m t h = go (is_available within blocks x) refl h (passes within blocks xs m t) where
  go : (u : Bool) → is_available within blocks x ≡ u → Member (x ∷ xs) m → (Member xs m → Member (filter (is_available within blocks) xs) m) → Member (cond u (x ∷ filter (is_available within blocks) xs) (filter (is_available within blocks) xs)) m
  go true e (inl same) later = inl same
  go true e (inr there) later = inr (later there)
  go false e (inl same) later = (let wrong : true ≡ false = sym t ∙ ap (is_available within blocks) same ∙ e in cc)
  go false e (inr there) later = later there

among_lengths : (family : Family) (a l n len : ℕ) → l ≤ len → len < l + n → Member (map (λ k. record { family = family; first = a; len = k }) (numbers_from l n)) (record { family = family; first = a; len = len })
unfolding numbers_from
among_lengths family a l zero len low high = absurd (omega arith)
among_lengths family a l (suc n) len low high = elim (cases_lt l len) [
  | inl past ↦ inr (among_lengths family a (l + 1) n len (omega arith) (omega arith))
  | inr here ↦ inl (let e : len ≡ l = omega arith in ap (λ (k : ℕ). let b : Cidr = record { family = family; first = a; len = k } in b) e)
]

more_left : (xs ys : List Cidr) (m : Cidr) → Member xs m → Member (xs ++ ys) m
more_left [] ys m h = elim h [ ]
more_left (x ∷ xs) ys m (inl e) = inl e
more_left (x ∷ xs) ys m (inr h) = inr (more_left xs ys m h)

more_right : (xs ys : List Cidr) (m : Cidr) → Member ys m → Member (xs ++ ys) m
more_right [] ys m h = h
more_right (x ∷ xs) ys m h = inr (more_right xs ys m h)

among_addresses : (f : ℕ → List Cidr) (a n x : ℕ) (m : Cidr) → a ≤ x → x < a + n → Member (f x) m → Member (flat_map f (numbers_from a n)) m
unfolding numbers_from
among_addresses f a zero x m low high h = absurd (omega arith)
among_addresses f a (suc n) x m low high h = elim (cases_lt a x) [
  | inl past ↦ more_right (f a) (flat_map f (numbers_from (a + 1) n)) m (among_addresses f (a + 1) n x m (omega arith) (omega arith) h)
  | inr here ↦ more_left (f a) (flat_map f (numbers_from (a + 1) n)) m (let e : x ≡ a = omega arith in subst (λ (y : ℕ). Member (f y) m) e h)
]

whole : (within : Cidr) (blocks : List Cidr) (m : Cidr) → IsAvailable within blocks m → Member (available_blocks_of within blocks) m
unfolding available_blocks_of addresses_of picked_at blocks_at
whole within blocks m h =
    let ends = ends_of_inside m within h.inside in
    let some = pow_pos (width_of m.family - m.len) in
    let w_is : width_of m.family ≡ width_of within.family = ap width_of h.inside.family in
    let short = h.lawful.short in
    let low = ends.0 in
    let high = ends.1 in
    let named : Member (blocks_at within m.first) m = subst (λ (f : Family). Member (map (λ k. record { family = f; first = m.first; len = k }) (numbers_from 0 (width_of within.family + 1))) m) h.inside.family (among_lengths m.family m.first 0 (width_of within.family + 1) m.len (omega arith) (omega arith)) in
    among_addresses (picked_at within blocks) within.first (size_of within) m.first m low (omega arith)
    (passes within blocks (blocks_at within m.first) m (available_tested within blocks m h) named)

-- the definition lists the available blocks
pub available_lists : (within : Cidr) (blocks : List Cidr) → IsBlock within → ListsAvailable within blocks (available_blocks_of within blocks)
unfolding available_blocks_of addresses_of
available_lists within blocks hw =
    let l = listing within blocks hw within.first (size_of within) in
    record {
      each = l.each;
      complete = λ m h. Contains-from_Member _ m (whole within blocks m h);
      ordered = in_order within blocks within.first _ l.each l.rising;
    }

-- and nothing else does
pub available_only : (within : Cidr) (blocks bs : List Cidr) → IsBlock within → ListsAvailable within blocks bs → bs ≡ available_blocks_of within blocks
available_only within blocks bs hw h = one_list within blocks bs (available_blocks_of within blocks) h (available_lists within blocks hw)

pub available_are_those : AvailableBlocksAreThose
available_are_those = record { lists = available_lists; only = available_only }
