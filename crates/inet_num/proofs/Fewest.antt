-- Each largest block of a set needs a block of its own in any list of blocks that has just the set's addresses.
use Rattle.std.proofs.Common.{◌≡◌, ◌⊎◌, ℕ, ◌+◌, ◌-◌, ◌<◌, ◌≤◌, refl, sym, ◌∙◌, subst, arith, inl, inr, Bool, true, false, cond, IsTrue, List, [], ◌∷◌, length}
use Rattle.std.specs.List.{AllByRecursion}
use Rattle.std.proofs.lemmas.Bool.{cases_lt}
use Rattle.std.proofs.lemmas.Bool.Decides.{nat_tests}
use Rattle.std.proofs.lemmas.Nat.{pow_pos}
use Rattle.inet_num.specs.declared.Family.{Family}
use Rattle.inet_num.specs.Net.{width_of, Cidr, size_of, HasAddress}
use Rattle.inet_num.specs.Free.{InOrder, is_taken, has_address}
use Rattle.inet_num.specs.Fewest.{IsWithin, IsLargest, HaveJust, LargestAreFewest}
use Rattle.inet_num.proofs.Aligned.{enclosing_inside, nested}
use Rattle.inet_num.proofs.Nested.{same_by_len}

-- a block of the list begins in the block
abbrev Begins : List Cidr → Cidr → Type 0
Begins [] b = ⊥
Begins (c ∷ cs) b = HasAddress b c.first ⊎ Begins cs b

-- the blocks of the list that do not begin in the block
abbrev others : Cidr → List Cidr → List Cidr
others b [] = []
others b (c ∷ cs) = cond (has_address b c.first) (others b cs) (c ∷ others b cs)

no_longer : (t : Bool) (c : Cidr) (xs : List Cidr) (n : ℕ) → length xs ≤ n → length (cond t xs (c ∷ xs)) ≤ n + 1
no_longer true c xs n h = omega arith
no_longer false c xs n h = omega arith

others_no_longer : (b : Cidr) (cs : List Cidr) → length (others b cs) ≤ length cs
others_no_longer b [] = omega arith
others_no_longer b (c ∷ cs) = (let k = no_longer (has_address b c.first) c (others b cs) (length cs) (others_no_longer b cs) in omega arith)

left_out : (t : Bool) (c : Cidr) (xs : List Cidr) (n : ℕ) → t ≡ true → length xs ≤ n → length (cond t xs (c ∷ xs)) ≤ n
left_out true c xs n e h = h
left_out false c xs n e h = cc

has_as_test : (b : Cidr) (a : ℕ) → HasAddress b a → has_address b a ≡ true
has_as_test b a (low, high) = grind (arith, nat_tests)

has_not_as_test : (b : Cidr) (a : ℕ) → b.first + size_of b ≤ a → has_address b a ≡ false
has_not_as_test b a h = grind (arith, nat_tests)

-- where one begins in the block, the others are fewer
others_fewer : (b : Cidr) (cs : List Cidr) → Begins cs b → length (others b cs) < length cs
others_fewer b [] h = absurd h
others_fewer b (c ∷ cs) (inl i) = (let k = left_out (has_address b c.first) c (others b cs) (length cs) (has_as_test b c.first i) (others_no_longer b cs) in omega arith)
others_fewer b (c ∷ cs) (inr h) =
    let less = others_fewer b cs h in
    let k = no_longer (has_address b c.first) c (others b cs) (length cs - 1) (omega arith) in
    omega arith

stays_front : (t : Bool) (c m : Cidr) (xs : List Cidr) → t ≡ false → HasAddress m c.first → Begins (cond t xs (c ∷ xs)) m
stays_front true c m xs e h = cc
stays_front false c m xs e h = inl h

stays_behind : (t : Bool) (c m : Cidr) (xs : List Cidr) → Begins xs m → Begins (cond t xs (c ∷ xs)) m
stays_behind true c m xs h = h
stays_behind false c m xs h = inr h

-- what begins in a block behind this one is one of the others
stays : (b m : Cidr) (cs : List Cidr) → b.first + size_of b ≤ m.first → Begins cs m → Begins (others b cs) m
stays b m [] apart h = absurd h
stays b m (c ∷ cs) apart (inl i) = stays_front (has_address b c.first) c m (others b cs) (has_not_as_test b c.first (omega (arith, i.0))) i
stays b m (c ∷ cs) apart (inr h) = stays_behind (has_address b c.first) c m (others b cs) (stays b m cs apart h)

all_stay : (b : Cidr) (from : ℕ) (bs cs : List Cidr) → b.first + size_of b ≤ from → InOrder from bs → AllByRecursion (Begins cs) bs → AllByRecursion (Begins (others b cs)) bs
all_stay b from [] cs low order h = tt
all_stay b from (m ∷ bs) cs low order h =
    (stays b m cs (omega (arith, order.0)) h.0, all_stay b (m.first + size_of m) bs cs (omega (arith, order.0)) order.1 h.1)

-- a list with a block that begins in each of these is not shorter
not_shorter : (from : ℕ) (bs cs : List Cidr) → InOrder from bs → AllByRecursion (Begins cs) bs → length bs ≤ length cs
not_shorter from [] cs order h = omega arith
not_shorter from (b ∷ bs) cs order h =
    let less = others_fewer b cs h.0 in
    let rest = not_shorter (b.first + size_of b) bs (others b cs) order.1 (all_stay b (b.first + size_of b) bs cs (omega arith) order.1 h.1) in
    omega arith

-- a block of the set with the first address of a largest block begins in it
begins_here : (family : Family) (set : ℕ → Type 0) (b c : Cidr) → IsLargest family set b → IsWithin family set c → HasAddress c b.first → HasAddress b c.first
begins_here family set b c h k i =
    let some_b = pow_pos (width_of b.family - b.len) in
    let some_c = pow_pos (width_of c.family - c.len) in
    elim (nested b c h.lawful k.lawful (h.family_is ∙ sym k.family_is) b.first (omega arith, omega arith) i) [
      | inr inside ↦ inside.each c.first (omega arith, omega arith)
      | inl inside ↦ elim (cases_lt c.len b.len) [
        | inl longer ↦
            let outer = enclosing_inside c b k.lawful h.lawful inside longer in
            absurd (h.largest (omega arith) (λ a in_outer. k.inside a (outer.each a in_outer)))
        | inr le ↦
            let same = same_by_len b c inside le h.lawful.short k.lawful.short in
            subst (λ (m : Cidr). HasAddress b m.first) same (omega arith, omega arith)
      ]
    ]

begins : (family : Family) (set : ℕ → Type 0) (b : Cidr) (cs : List Cidr) → IsLargest family set b → AllByRecursion (IsWithin family set) cs → is_taken cs b.first ≡ true → Begins cs b
begins family set b [] h each taken = cc
begins family set b (c ∷ cs) h each taken = go (has_address c b.first) refl (begins family set b cs h each.1) where
  go : (t : Bool) → has_address c b.first ≡ t → (is_taken cs b.first ≡ true → Begins cs b) → Begins (c ∷ cs) b
  go true here later =
      let low : c.first ≤ b.first = grind (arith, nat_tests) in
      let high : b.first < c.first + size_of c = grind (arith, nat_tests) in
      inl (begins_here family set b c h each.0 (low, high))
  go false apart later = (let rest : is_taken cs b.first ≡ true = grind arith in inr (later rest))

all_begin : (family : Family) (set : ℕ → Type 0) (bs cs : List Cidr) → AllByRecursion (IsLargest family set) bs → HaveJust family set cs → AllByRecursion (Begins cs) bs
all_begin family set [] cs h just = tt
all_begin family set (b ∷ bs) cs h just =
    let some = pow_pos (width_of b.family - b.len) in
    (begins family set b cs h.0 just.each (taken (just.covers b.first (h.0.inside b.first (omega arith, omega arith)))), all_begin family set bs cs h.1 just) where
      taken : IsTrue (is_taken cs b.first) → is_taken cs b.first ≡ true
      taken i = cc

pub largest_are_fewest : LargestAreFewest
largest_are_fewest family is_in bs cs h order just = not_shorter 0 bs cs order (all_begin family (λ a. IsTrue (is_in a)) bs cs h just)
