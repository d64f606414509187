-- Which routes the entries of blocks let in, alone or up to a length; and that those up to a length that are kept have no address in common.
use Rattle.std.proofs.Common.{◌≡◌, ◌⊎◌, inl, inr, ℕ, ◌+◌, ◌-◌, ◌<◌, ◌≤◌, ◌==◌, refl, sym, ◌∙◌, ap, subst, arith, Bool, true, false, ◌&&◌, ◌||◌, nat_le, List, [], ◌∷◌, map}
use Rattle.std.specs.List.{AllByRecursion, list_any, filter}
use Rattle.std.specs.List.Sorted.{IsSortedByKey, IsPermutation}
use Rattle.std.proofs.lemmas.Bool.{and_parts}
use Rattle.std.proofs.lemmas.Bool.Decides.{nat_tests}
use Rattle.std.proofs.lemmas.Nat.{pow_pos}
use Rattle.inet_num.specs.declared.Family.{Family}
use Rattle.inet_num.specs.Net.{Cidr, IsBlock, IsInside, HasAddress, width_of, size_of}
use Rattle.inet_num.specs.Blocks.{same_family, same_block, is_block_inside}
use Rattle.inet_num.specs.Free.{InOrder}
use Rattle.inet_num.proofs.Insides.{same_family-refl, one_family, same_block-refl, inside_tested}
use Rattle.inet_num.proofs.Numbers as numbers
use Rattle.inet_num.proofs.Numbers.{ends_of_inside}
use Rattle.inet_num.proofs.Nested.{same_by_len}
use Rattle.inet_num.proofs.Aligned.{inside_by_start, nested, not_longer}
use Rattle.prefix_list.specs.declared.routes.Entry.{Entry}
use Rattle.prefix_list.specs.Lists.{AreOf}
use Rattle.prefix_list.specs.Routes.{lets_in, let_in_by, is_among, is_within, exactly, blocks_of}
use Rattle.prefix_list.specs.Choices.{covers, kept_after, kept_of, upto_of, place_of, place_cmp}
use Rattle.prefix_list.proofs.Choices.{at_most, at_most_test, inside_of, and_true, NotAfter, Ascends, IsAlone, skipped, ascends}

-- ---- entries of one length

same_block_is : (a b : Cidr) → same_block a b ≡ true → a ≡ b
same_block_is a b e =
    let p = and_parts (same_family a.family b.family && a.first == b.first) (a.len == b.len) e in
    let q = and_parts (same_family a.family b.family) (a.first == b.first) p.0 in
    let first : a.first ≡ b.first = (let k = q.1 in grind (arith, nat_tests)) in
    let len : a.len ≡ b.len = (let k = p.1 in grind (arith, nat_tests)) in
    numbers.same_block a b (one_family a.family b.family q.0) first len

one_test : (s t : Bool) → (s ≡ true → t ≡ true) → (t ≡ true → s ≡ true) → s ≡ t
one_test true t to from = sym (to refl)
one_test false true to from = from refl
one_test false false to from = refl

-- the entry of a block alone lets in that block
alone : (b r : Cidr) → IsBlock b → IsBlock r → lets_in (exactly b) r ≡ same_block b r
alone b r lawful route = one_test (lets_in (exactly b) r) (same_block b r) to from
  where
    to : lets_in (exactly b) r ≡ true → same_block b r ≡ true
    to e =
        let p = and_parts (is_block_inside r b) (nat_le r.len b.len) e in
        let same : r ≡ b = same_by_len r b (inside_of r b p.0) (at_most r.len b.len p.1) route.short lawful.short in
        subst (λ (x : Cidr). same_block b x ≡ true) (sym same) (same_block-refl b)

    from : same_block b r ≡ true → lets_in (exactly b) r ≡ true
    from e =
        subst (λ (x : Cidr). lets_in (exactly b) x ≡ true) (same_block_is b r e)
        (and_true (is_block_inside b b) (nat_le b.len b.len) (inside_tested b b (record { family = refl; each = λ n h. h })) (at_most_test b.len b.len (omega arith)))

pub all_alone : (bs : List Cidr) (r : Cidr) → AllByRecursion IsBlock bs → IsBlock r → let_in_by (map exactly bs) r ≡ is_among bs r
all_alone [] r lawful route = refl
all_alone (b ∷ bs) r lawful route = rw (alone b r lawful.0 route, all_alone bs r lawful.1 route) refl

pub alone_of : (family : Family) (bs : List Cidr) → AreOf family bs → AllByRecursion (IsAlone family) (map exactly bs)
alone_of family [] of = tt
alone_of family (b ∷ bs) of = (record { alone = refl; own = of.0 }, alone_of family bs of.1)

-- ---- entries up to a length

abbrev up_to : ℕ → Cidr → Entry
up_to most b = record { block = b; most = most }

-- no block is longer than a route inside it
shorter : (b r : Cidr) → IsBlock b → is_block_inside r b ≡ true → b.len ≤ r.len
shorter b r lawful e = go (nat_le b.len r.len) refl
  where
    go : (t : Bool) → nat_le b.len r.len ≡ t → b.len ≤ r.len
    go true k = at_most b.len r.len k
    go false k = (let less : r.len < b.len = grind (arith, nat_tests) in absurd (not_longer r b lawful less (inside_of r b e)))

one_up_to : (most : ℕ) (b r : Cidr) (es : List Entry) (rest : Bool) → IsBlock b → let_in_by es r ≡ (rest && nat_le r.len most)
    → let_in_by (up_to most b ∷ es) r ≡ ((is_block_inside r b || rest) && nat_le r.len most)
one_up_to most b r es rest lawful h = rw h (spread (is_block_inside r b) rest (nat_le r.len most))
  where
    spread : (x y z : Bool) → ((x && z) || (y && z)) ≡ ((x || y) && z)
    spread true true true = refl
    spread true true false = refl
    spread true false true = refl
    spread true false false = refl
    spread false true true = refl
    spread false true false = refl
    spread false false true = refl
    spread false false false = refl

none_up_to : (most : ℕ) (b r : Cidr) (rest : Bool) → IsBlock b → nat_le b.len most ≡ false → (rest && nat_le r.len most) ≡ ((is_block_inside r b || rest) && nat_le r.len most)
none_up_to most b r rest lawful long = go (is_block_inside r b) refl (nat_le r.len most) refl
  where
    go : (x : Bool) → is_block_inside r b ≡ x → (z : Bool) → nat_le r.len most ≡ z → (rest && nat_le r.len most) ≡ ((is_block_inside r b || rest) && nat_le r.len most)
    go false e z k = rw e refl
    go true e false k = rw k (none rest (is_block_inside r b || rest))
      where
        none : (x y : Bool) → (x && false) ≡ (y && false)
        none true true = refl
        none true false = refl
        none false true = refl
        none false false = refl
    go true e true k =
        let less = shorter b r lawful e in
        let low = at_most r.len most k in
        let yes = at_most_test b.len most (omega arith) in
        absurd (cc)

pub all_up_to : (most : ℕ) (bs : List Cidr) (r : Cidr) → AllByRecursion IsBlock bs → let_in_by (upto_of most bs) r ≡ is_within most bs r
all_up_to most [] r lawful = refl
all_up_to most (b ∷ bs) r lawful = go (nat_le b.len most) refl (all_up_to most bs r lawful.1)
  where
    go : (t : Bool) → nat_le b.len most ≡ t → let_in_by (upto_of most bs) r ≡ is_within most bs r → let_in_by (upto_of most (b ∷ bs)) r ≡ is_within most (b ∷ bs) r
    go true e rest = rw e (one_up_to most b r (upto_of most bs) (list_any (λ (c : Cidr). is_block_inside r c) bs) lawful.0 rest)
    go false e rest = rw e (rest ∙ none_up_to most b r (list_any (λ (c : Cidr). is_block_inside r c) bs) lawful.0 e)

-- ---- what they are

pub record IsUpTo (family : Family) (most : ℕ) (bs : List Cidr) (e : Entry) : Type 0 where
  pub lawful : IsBlock e.block
  pub own : e.block.family ≡ family
  pub among : is_among bs e.block ≡ true
  pub short : e.block.len ≤ most
  pub most_is : e.most ≡ most

more_among : (b c : Cidr) (bs : List Cidr) → is_among bs c ≡ true → is_among (b ∷ bs) c ≡ true
more_among b c bs h = go (same_block c b) refl
  where
    go : (t : Bool) → same_block c b ≡ t → is_among (b ∷ bs) c ≡ true
    go t e = rw h (or_true (same_block b c))
      where
        or_true : (x : Bool) → (x || true) ≡ true
        or_true true = refl
        or_true false = refl

weaker : (family : Family) (most : ℕ) (b : Cidr) (bs : List Cidr) (es : List Entry) → AllByRecursion (IsUpTo family most bs) es → AllByRecursion (IsUpTo family most (b ∷ bs)) es
weaker family most b bs [] h = tt
weaker family most b bs (e ∷ es) h = (
  record { lawful = h.0.lawful; own = h.0.own; among = more_among b e.block bs h.0.among; short = h.0.short; most_is = h.0.most_is },
  weaker family most b bs es h.1,
)

pub all_are_up_to : (family : Family) (most : ℕ) (bs : List Cidr) → AreOf family bs → AllByRecursion IsBlock bs → AllByRecursion (IsUpTo family most bs) (upto_of most bs)
all_are_up_to family most [] of lawful = tt
all_are_up_to family most (b ∷ bs) of lawful = go (nat_le b.len most) refl (weaker family most b bs (upto_of most bs) (all_are_up_to family most bs of.1 lawful.1))
  where
    here : is_among (b ∷ bs) b ≡ true
    here = rw (same_block-refl b) refl

    go : (t : Bool) → nat_le b.len most ≡ t → AllByRecursion (IsUpTo family most (b ∷ bs)) (upto_of most bs) → AllByRecursion (IsUpTo family most (b ∷ bs)) (upto_of most (b ∷ bs))
    go true e rest = rw e (record { lawful = lawful.0; own = of.0; among = here; short = at_most b.len most e; most_is = refl }, rest)
    go false e rest = rw e rest

-- ---- in address order

past : (family : Family) (most : ℕ) (bs : List Cidr) (last e : Entry) → IsUpTo family most bs last → IsUpTo family most bs e → NotAfter last e → covers last e ≡ false
    → last.block.first + size_of last.block ≤ e.block.first
past family most bs last e l k up c = go (nat_le (last.block.first + size_of last.block) e.block.first) refl
  where
    one : e.block.family ≡ last.block.family
    one = k.own ∙ sym l.own

    covered_by : IsInside e.block last.block → ⊥
    covered_by inside =
        let same : e.most ≤ last.most = (let a = l.most_is in let b = k.most_is in omega arith) in
        let yes = and_true (is_block_inside e.block last.block) (nat_le e.most last.most) (inside_tested e.block last.block inside) (at_most_test e.most last.most same) in
        cc

    start : last.block.first ≤ e.block.first
    start = elim up [ inl h ↦ omega arith | inr h ↦ (let x = h.0 in omega arith) ]

    narrower : (t : Bool) → nat_le last.block.len e.block.len ≡ t → e.block.first < last.block.first + size_of last.block → ⊥
    narrower true q less = covered_by (inside_by_start e.block last.block k.lawful l.lawful one (at_most last.block.len e.block.len q) start less)
    narrower false q less = elim up [
      | inl h ↦
          let some = pow_pos (width_of e.block.family - e.block.len) in
          elim (nested e.block last.block k.lawful l.lawful one e.block.first (omega arith, omega arith) (start, less)) [
            | inl inside ↦ covered_by inside
            | inr around ↦ (let ends = ends_of_inside last.block e.block around in let low = ends.0 in omega arith)
          ]
      | inr h ↦ (let low = h.1 in let yes = at_most_test last.block.len e.block.len low in cc)
    ]

    go : (t : Bool) → nat_le (last.block.first + size_of last.block) e.block.first ≡ t → last.block.first + size_of last.block ≤ e.block.first
    go true q = at_most (last.block.first + size_of last.block) e.block.first q
    go false q = (let less : e.block.first < last.block.first + size_of last.block = grind (arith, nat_tests) in absurd (narrower (nat_le last.block.len e.block.len) refl less))

in_order_after : (family : Family) (most : ℕ) (bs : List Cidr) (last : Entry) (es : List Entry) → IsUpTo family most bs last → AllByRecursion (IsUpTo family most bs) es → Ascends last es
    → InOrder (last.block.first + size_of last.block) (blocks_of (kept_after last es))
in_order_after family most bs last [] l all up = tt
in_order_after family most bs last (e ∷ es) l all up =
    go (covers last e) refl (in_order_after family most bs last es l all.1 (skipped last e es up.0 up.1)) (in_order_after family most bs e es all.0 all.1 up.1)
  where
    go : (t : Bool) → covers last e ≡ t → InOrder (last.block.first + size_of last.block) (blocks_of (kept_after last es))
        → InOrder (e.block.first + size_of e.block) (blocks_of (kept_after e es)) → InOrder (last.block.first + size_of last.block) (blocks_of (kept_after last (e ∷ es)))
    go true c skip keep = rw c skip
    go false c skip keep = rw c (past family most bs last e l all.0 up.0 c, keep)

pub in_order : (family : Family) (most : ℕ) (bs : List Cidr) (es : List Entry) → AllByRecursion (IsUpTo family most bs) es → IsSortedByKey place_of place_cmp es
    → InOrder 0 (blocks_of (kept_of es))
in_order family most bs [] all sorted = tt
in_order family most bs (e ∷ es) all sorted = (omega arith, in_order_after family most bs e es all.0 all.1 (ascends e es sorted))
