-- The tests of the plain search for available blocks, and its loops.
use Rattle.std.proofs.Common.{◌≡◌, ◌↔◌, IsTrue, ℕ, ◌+◌, ◌<◌, ◌≤◌, refl, ◌∙◌, ap, arith, Bool, true, false, cond, nat_lt, List, [], ◌∷◌, ◌++◌, filter, map}
use Rattle.std.specs.List.{list_any, flat_map}
use Rattle.std.proofs.lemmas.Bool.Decides.{nat_tests}
use Rattle.std.proofs.lemmas.Grind.{flat_map-append}
use Rattle.std.proofs.lemmas.List.{append-nil, map-append}
use Rattle.std.proofs.lemmas.List.Elements.{filter-append}
use Rattle.inet_num.specs.Net.{width_of, Cidr, IsBlock, size_of, IsInside, enclosing_of}
use Rattle.inet_num.specs.Count.{numbers_from, addresses_of}
use Rattle.inet_num.specs.Free.{is_available, is_inside, is_aligned, meets, blocks_at, picked_of, picked_at, available_blocks_of}
use Rattle.inet_num.proofs.Counts.{numbers_from-append}
use Rattle.inet_num.proofs.Available.{inside_test, inside_tested, available_test}

-- what `contains` answers is the test of the ends
pub contains_is : (r : Bool) (b w : Cidr) → b.family ≡ w.family → IsTrue r ↔ IsInside b w → is_inside b w ≡ r
contains_is true b w same h = inside_tested b w (h.0 refl)
contains_is false b w same h = go (is_inside b w) refl where
  go : (t : Bool) → is_inside b w ≡ t → t ≡ false
  go false e = refl
  go true e = (let wrong : IsTrue false = h.1 (inside_test b w same e) in cc)

aligned_is : (b : Cidr) → IsBlock b → is_aligned b ≡ true
aligned_is b h = let e = h.aligned in grind (arith, nat_tests)

pub not_inside : (w : Cidr) (children : List Cidr) (b : Cidr) → is_inside b w ≡ false → false ≡ is_available w children b
not_inside w children b e = go (is_aligned b) refl where
  go : (t : Bool) → is_aligned b ≡ t → false ≡ is_available w children b
  go true k = rw (k, e) refl
  go false k = rw k refl

pub of_length_0 : (w : Cidr) (children : List Cidr) (b : Cidr) → IsBlock b → is_inside b w ≡ true → list_any (meets b) children ≡ false → (0 < b.len → ⊥) → true ≡ is_available w children b
of_length_0 w children b h e f none =
    let al = aligned_is b h in
    let g : nat_lt 0 b.len ≡ false = grind (arith, nat_tests) in
    rw (al, e, f, g) refl

pub enclosing_outside : (w : Cidr) (children : List Cidr) (b : Cidr) → IsBlock b → is_inside b w ≡ true → list_any (meets b) children ≡ false → is_inside (enclosing_of b) w ≡ false → true ≡ is_available w children b
enclosing_outside w children b h e f g = go (nat_lt 0 b.len) refl where
  go : (t : Bool) → nat_lt 0 b.len ≡ t → true ≡ is_available w children b
  go true k = (let al = aligned_is b h in rw (al, e, f, k, g) refl)
  go false k = (let al = aligned_is b h in rw (al, e, f, k) refl)

pub by_enclosing : (w : Cidr) (children : List Cidr) (b : Cidr) (r : Bool) → IsBlock b → is_inside b w ≡ true → list_any (meets b) children ≡ false → 0 < b.len → is_inside (enclosing_of b) w ≡ true → list_any (meets (enclosing_of b)) children ≡ r → r ≡ is_available w children b
by_enclosing w children b r h e f some g k = go r k where
  go : (t : Bool) → list_any (meets (enclosing_of b)) children ≡ t → t ≡ is_available w children b
  go true m = (let al = aligned_is b h in let l : nat_lt 0 b.len ≡ true = grind (arith, nat_tests) in rw (al, e, f, l, g, m) refl)
  go false m = (let al = aligned_is b h in let l : nat_lt 0 b.len ≡ true = grind (arith, nat_tests) in rw (al, e, f, l, g, m) refl)

-- ---- the loops

-- the available blocks of the lengths below n at an address
unfoldable pub picked_below : Cidr → List Cidr → ℕ → ℕ → List Cidr
picked_below within blocks a n = filter (is_available within blocks) (map (λ k. record { family = within.family; first = a; len = k }) (numbers_from 0 n))

pub picked_none : (within : Cidr) (blocks : List Cidr) (a : ℕ) → picked_below within blocks a 0 ≡ []
unfolding picked_below numbers_from
picked_none within blocks a = refl

pub picked_more : (within : Cidr) (blocks : List Cidr) (a n : ℕ) → picked_below within blocks a (n + 1) ≡ picked_below within blocks a n ++ picked_of within blocks (record { family = within.family; first = a; len = n })
unfolding picked_below numbers_from
picked_more within blocks a n =
    let g : ℕ → Cidr = λ k. record { family = within.family; first = a; len = k } in
    ap (λ (ns : List ℕ). filter (is_available within blocks) (map g ns)) (numbers_from-append 0 n 1)
    ∙ ap (filter (is_available within blocks)) (map-append g (numbers_from 0 n) (numbers_from (0 + n) 1))
    ∙ filter-append (is_available within blocks) (map g (numbers_from 0 n)) (map g (numbers_from (0 + n) 1))
    ∙ ap (λ (k : ℕ). filter (is_available within blocks) (map g (numbers_from 0 n)) ++ picked_of within blocks (g k)) (let e : 0 + n ≡ n = omega arith in e)

pub picked_all : (within : Cidr) (blocks : List Cidr) (a n : ℕ) → n ≡ width_of within.family + 1 → picked_below within blocks a n ≡ picked_at within blocks a
unfolding picked_below picked_at blocks_at
picked_all within blocks a n e = ap (λ (k : ℕ). filter (is_available within blocks) (map (λ (l : ℕ). let b : Cidr = record { family = within.family; first = a; len = l } in b) (numbers_from 0 k))) e

-- no block begins there with that length: nothing is picked
pub none_picked : (within : Cidr) (blocks : List Cidr) (b : Cidr) → IsBlock within → b.family ≡ within.family → b.len ≤ width_of b.family → ¬ IsBlock b → picked_of within blocks b ≡ []
none_picked within blocks b hw same short none = go (is_available within blocks b) refl where
  go : (t : Bool) → is_available within blocks b ≡ t → cond t (b ∷ []) [] ≡ []
  go false e = refl
  go true e = absurd (none (available_test within blocks b hw same short e).lawful)

-- the available blocks that begin at the first n addresses
unfoldable pub listed_below : Cidr → List Cidr → ℕ → List Cidr
listed_below within blocks n = flat_map (picked_at within blocks) (numbers_from within.first n)

pub listed_none : (within : Cidr) (blocks : List Cidr) → listed_below within blocks 0 ≡ []
unfolding listed_below numbers_from
listed_none within blocks = refl

pub listed_more : (within : Cidr) (blocks : List Cidr) (n : ℕ) → listed_below within blocks (n + 1) ≡ listed_below within blocks n ++ picked_at within blocks (within.first + n)
unfolding listed_below numbers_from
listed_more within blocks n =
    ap (flat_map (picked_at within blocks)) (numbers_from-append within.first n 1)
    ∙ flat_map-append (picked_at within blocks) (numbers_from within.first n) (numbers_from (within.first + n) 1)
    ∙ ap (λ (bs : List Cidr). flat_map (picked_at within blocks) (numbers_from within.first n) ++ bs) (append-nil (picked_at within blocks (within.first + n)))

pub listed_all : (within : Cidr) (blocks : List Cidr) → listed_below within blocks (size_of within) ≡ available_blocks_of within blocks
unfolding listed_below available_blocks_of addresses_of
listed_all within blocks = refl
