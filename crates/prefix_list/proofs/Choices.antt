-- The entries that are kept of some in order let in the same routes, and none of them covers another.
use Rattle.std.proofs.Common.{◌≡◌, ◌≢◌, ◌⊎◌, inl, inr, ℕ, zero, suc, ◌+◌, ◌-◌, ◌<◌, ◌≤◌, ◌==◌, refl, sym, ◌∙◌, ap, subst, arith, Bool, true, false, ◌&&◌, ◌||◌, nat_le, List, [], ◌∷◌, length, map, get_or}
use Rattle.std.specs.declared.cmp.Ordering.{Ordering}
use Rattle.std.specs.declared.cmp.Ordering.TheVariants.{Less, Equal, Greater}
use Rattle.std.specs.Ordering.{ordering_then, nat_cmp, is_lt, MatchOrdering}
use Rattle.std.specs.List.{AllByRecursion, list_any, filter}
use Rattle.std.specs.List.Sorted.{IsSortedByKey}
use Rattle.std.proofs.lemmas.Cmp.{ranked}
use Rattle.std.proofs.lemmas.Bool.{and_parts}
use Rattle.std.proofs.lemmas.Bool.Decides.{nat_tests}
use Rattle.std.proofs.lemmas.Nat.{pow_pos}
use Rattle.inet_num.specs.declared.Family.{Family}
use Rattle.inet_num.specs.Net.{Cidr, IsBlock, IsInside, HasAddress, width_of, size_of, last_of}
use Rattle.inet_num.specs.Blocks.{same_family, same_block, is_block_inside}
use Rattle.inet_num.specs.Free.{InOrder}
use Rattle.inet_num.proofs.Insides.{same_family-refl, one_family, same_block-refl, inside_tested}
use Rattle.inet_num.proofs.Numbers as numbers
use Rattle.inet_num.proofs.Numbers.{inside_by_ends, ends_of_inside}
use Rattle.inet_num.proofs.Nested.{same_by_len}
use Rattle.inet_num.proofs.Aligned.{inside_by_start, nested, not_longer}
use Rattle.prefix_list.specs.declared.routes.Entry.{Entry}
use Rattle.prefix_list.specs.Lists.{AreOf}
use Rattle.prefix_list.specs.Routes.{lets_in, let_in_by, is_among, is_within, exactly, blocks_of, IsBefore, RisesFrom, IsRising}
use Rattle.prefix_list.specs.Choices.{covers, kept_after, kept_of, upto_of, place_of, place_cmp}

-- ---- blocks inside blocks

pub at_most : (m n : ℕ) → nat_le m n ≡ true → m ≤ n
at_most m n e = grind (arith, nat_tests)

pub at_most_test : (m n : ℕ) → m ≤ n → nat_le m n ≡ true
at_most_test m n h = grind (arith, nat_tests)

pub inside_of : (a b : Cidr) → is_block_inside a b ≡ true → IsInside a b
inside_of a b e =
    let p = and_parts (same_family a.family b.family && nat_le b.first a.first) (nat_le (last_of a).value (last_of b).value) e in
    let q = and_parts (same_family a.family b.family) (nat_le b.first a.first) p.0 in
    let low = at_most b.first a.first q.1 in
    let high = at_most (last_of a).value (last_of b).value p.1 in
    let some_a = pow_pos (width_of a.family - a.len) in
    let some_b = pow_pos (width_of b.family - b.len) in
    inside_by_ends a b (one_family a.family b.family q.0) low (omega arith)

inside_trans : (a b c : Cidr) → is_block_inside a b ≡ true → is_block_inside b c ≡ true → is_block_inside a c ≡ true
inside_trans a b c h k =
    let x = inside_of a b h in
    let y = inside_of b c k in
    inside_tested a c (record { family = x.family ∙ y.family; each = λ n in_a. y.each n (x.each n in_a) })

-- ---- the same routes

pub and_true : (a b : Bool) → a ≡ true → b ≡ true → (a && b) ≡ true
and_true true true h k = refl
and_true true false h k = k
and_true false b h k = h

covered : (e other : Entry) (r : Cidr) → covers e other ≡ true → lets_in other r ≡ true → lets_in e r ≡ true
covered e other r c l =
    let p = and_parts (is_block_inside other.block e.block) (nat_le other.most e.most) c in
    let q = and_parts (is_block_inside r other.block) (nat_le r.len other.most) l in
    let low = at_most other.most e.most p.1 in
    let lower = at_most r.len other.most q.1 in
    and_true (is_block_inside r e.block) (nat_le r.len e.most) (inside_trans r other.block e.block q.0 p.0) (at_most_test r.len e.most (omega arith))

absorbed : (a b rest : Bool) → (b ≡ true → a ≡ true) → (a || (b || rest)) ≡ (a || rest)
absorbed true b rest h = refl
absorbed false false rest h = refl
absorbed false true rest h = (let k = h refl in cc)

same_after : (last : Entry) (es : List Entry) (r : Cidr) → let_in_by (last ∷ kept_after last es) r ≡ let_in_by (last ∷ es) r
same_after last [] r = refl
same_after last (e ∷ es) r = go (covers last e) refl (same_after last es r) (same_after e es r)
  where
    go : (t : Bool) → covers last e ≡ t → let_in_by (last ∷ kept_after last es) r ≡ let_in_by (last ∷ es) r → let_in_by (e ∷ kept_after e es) r ≡ let_in_by (e ∷ es) r
        → let_in_by (last ∷ kept_after last (e ∷ es)) r ≡ let_in_by (last ∷ e ∷ es) r
    go true c skip keep = rw c (skip ∙ sym (absorbed (lets_in last r) (lets_in e r) (let_in_by es r) (covered last e r c)))
    go false c skip keep = rw c (ap (λ (t : Bool). lets_in last r || t) keep)

pub same_routes : (es : List Entry) (r : Cidr) → let_in_by (kept_of es) r ≡ let_in_by es r
same_routes [] r = refl
same_routes (e ∷ es) r = same_after e es r

-- ---- what all have, those that are kept have

all_after : (P : Entry → Type 0) (last : Entry) (es : List Entry) → AllByRecursion P es → AllByRecursion P (kept_after last es)
all_after P last [] h = tt
all_after P last (e ∷ es) h = go (covers last e) refl (all_after P last es h.1) (all_after P e es h.1)
  where
    go : (t : Bool) → covers last e ≡ t → AllByRecursion P (kept_after last es) → AllByRecursion P (kept_after e es) → AllByRecursion P (kept_after last (e ∷ es))
    go true c skip keep = rw c skip
    go false c skip keep = rw c (h.0, keep)

pub all_kept : (P : Entry → Type 0) (es : List Entry) → AllByRecursion P es → AllByRecursion P (kept_of es)
all_kept P [] h = tt
all_kept P (e ∷ es) h = (h.0, all_after P e es h.1)

-- ---- the order

-- the block of the first entry does not come after that of the second one
abbrev pub NotAfter : Entry → Entry → Type 0
NotAfter x y = (x.block.first < y.block.first) ⊎ ((x.block.first ≡ y.block.first) × (x.block.len ≤ y.block.len))

abbrev pub Ascends : Entry → List Entry → Type 0
Ascends last [] = Unit {0}
Ascends last (e ∷ es) = NotAfter last e × Ascends e es

not_after_trans : (x y z : Entry) → NotAfter x y → NotAfter y z → NotAfter x z
not_after_trans x y z (inl h) (inl k) = inl (omega arith)
not_after_trans x y z (inl h) (inr k) = (let e = k.0 in inl (omega arith))
not_after_trans x y z (inr h) (inl k) = (let e = h.0 in inl (omega arith))
not_after_trans x y z (inr h) (inr k) = (let a = h.1 in let b = k.1 in inr (h.0 ∙ k.0, omega arith))

pub skipped : (last e : Entry) (es : List Entry) → NotAfter last e → Ascends e es → Ascends last es
skipped last e [] h k = tt
skipped last e (f ∷ es) h k = (not_after_trans last e f h k.0, k.1)

no_less : (x y : ℕ × ℕ) → is_lt (place_cmp y x) ≡ false → (x.0 < y.0) ⊎ ((x.0 ≡ y.0) × (x.1 ≤ y.1))
no_less x y h = go (nat_cmp y.0 x.0) (ranked y.0 x.0 _ refl) h
  where
    last : (o : Ordering) → MatchOrdering o (y.1 < x.1) (y.1 ≡ x.1) (x.1 < y.1) → is_lt o ≡ false → x.1 ≤ y.1
    last Less l h = absurd (cc)
    last Equal l h = omega arith
    last Greater l h = omega arith

    go : (o : Ordering) → MatchOrdering o (y.0 < x.0) (y.0 ≡ x.0) (x.0 < y.0) → is_lt (ordering_then o (nat_cmp y.1 x.1)) ≡ false
        → (x.0 < y.0) ⊎ ((x.0 ≡ y.0) × (x.1 ≤ y.1))
    go Less l h = absurd (cc)
    go Equal l h = inr (sym l, last (nat_cmp y.1 x.1) (ranked y.1 x.1 _ refl) h)
    go Greater l h = inl l

one_on : (k : ℕ) → suc k + 1 ≡ suc (k + 1)
one_on k = omega arith

sorted_rest : (x y : Entry) (ys : List Entry) → IsSortedByKey place_of place_cmp (x ∷ y ∷ ys) → IsSortedByKey place_of place_cmp (y ∷ ys)
sorted_rest x y ys s = λ k d h m.
    subst (λ (j : ℕ). is_lt (place_cmp (place_of (get_or (x ∷ y ∷ ys) j d)) (place_of (get_or (y ∷ ys) k d))) ≡ false) (one_on k)
    (s (suc k) d (omega arith) (omega arith))

pub ascends : (x : Entry) (xs : List Entry) → IsSortedByKey place_of place_cmp (x ∷ xs) → Ascends x xs
ascends x [] s = tt
ascends x (y ∷ ys) s = (no_less (place_of x) (place_of y) (s 0 x (omega arith) (omega arith)), ascends y ys (sorted_rest x y ys s))

-- ---- entries of one length

pub record IsAlone (family : Family) (e : Entry) : Type 0 where
  pub alone : e.most ≡ e.block.len
  pub own : e.block.family ≡ family

same_place : (family : Family) (last e : Entry) → IsAlone family last → IsAlone family e → last.block.first ≡ e.block.first → last.block.len ≡ e.block.len → covers last e ≡ true
same_place family last e l k first len =
    let one = numbers.same_block last.block e.block (l.own ∙ sym k.own) first len in
    let inside : is_block_inside e.block last.block ≡ true =
    subst (λ (b : Cidr). is_block_inside e.block b ≡ true) (sym one) (inside_tested e.block e.block (record { family = refl; each = λ n h. h })) in
    let most : e.most ≤ last.most = (let a = l.alone in let b = k.alone in omega arith) in
    and_true (is_block_inside e.block last.block) (nat_le e.most last.most) inside (at_most_test e.most last.most most)

before : (family : Family) (last e : Entry) → IsAlone family last → IsAlone family e → NotAfter last e → covers last e ≡ false → IsBefore last.block e.block
before family last e l k (inl h) c = inl h
before family last e l k (inr h) c = inr (h.0, shorter (last.block.len == e.block.len) refl)
  where
    shorter : (t : Bool) → (last.block.len == e.block.len) ≡ t → last.block.len < e.block.len
    shorter true q =
        let len : last.block.len ≡ e.block.len = grind (arith, nat_tests) in
        let covered_so = same_place family last e l k h.0 len in
        absurd (cc)
    shorter false q =
        let most = h.1 in
        let other : last.block.len ≢ e.block.len = λ same. (let yes : (last.block.len == e.block.len) ≡ true = grind (arith, nat_tests) in cc) in
        omega (arith, other)

rises_after : (family : Family) (last : Entry) (es : List Entry) → IsAlone family last → AllByRecursion (IsAlone family) es → Ascends last es → RisesFrom last.block (blocks_of (kept_after last es))
rises_after family last [] l all up = tt
rises_after family last (e ∷ es) l all up =
    go (covers last e) refl (rises_after family last es l all.1 (skipped last e es up.0 up.1)) (rises_after family e es all.0 all.1 up.1)
  where
    go : (t : Bool) → covers last e ≡ t → RisesFrom last.block (blocks_of (kept_after last es)) → RisesFrom e.block (blocks_of (kept_after e es))
        → RisesFrom last.block (blocks_of (kept_after last (e ∷ es)))
    go true c skip keep = rw c skip
    go false c skip keep = rw c (before family last e l all.0 up.0 c, keep)

pub rises : (family : Family) (es : List Entry) → AllByRecursion (IsAlone family) es → IsSortedByKey place_of place_cmp es → IsRising (blocks_of (kept_of es))
rises family [] all sorted = tt
rises family (e ∷ es) all sorted = rises_after family e es all.0 all.1 (ascends e es sorted)
