-- The blocks that contain a block strictly: of each length there is at most one, so they can be counted length by length.
use Rattle.std.proofs.Common.{◌≡◌, ℕ, zero, suc, ◌+◌, ◌<◌, ◌≤◌, ◌==◌, min, ◌&&◌, ◌||◌, nat_lt, nat_le, Bool, true, false, cond, List, [], ◌∷◌, filter, refl, ap, sym, ◌∙◌, arith, if◌then◌else◌, IsPermutation}
use Rattle.std.specs.List.{list_any}
use Rattle.std.proofs.lemmas.Bool.Decides.{nat_tests}
use Rattle.std.proofs.lemmas.Map.Views.{any-filter_same}
use Rattle.std.proofs.lemmas.List.Elements.{All-from_recursion, recursion_from_All}
use Rattle.std.proofs.lemmas.List.Sorted.{All-permutation, IsPermutation-sym}
use Rattle.inet_num.specs.declared.Family.{Family}
use Rattle.inet_num.specs.Net.{Cidr, IsBlock, IsInside, last_of}
use Rattle.inet_num.proofs.Numbers.{strictly_by_len}
use Rattle.block_space.proofs.Around.{wider_lawful, inside_wider, one_of_length, around_next, around_none}
use Rattle.block_space.specs.Listed.{IsBlockOf, AreBlocksOf, is_same, times_of, wider_of, around_below, around_of}
use Rattle.inet_num.specs.Blocks.{same_family, same_block, distinct, is_strictly_inside}
use Rattle.inet_num.proofs.Insides.{inside_is_by_ends}
use Rattle.placed_book.proofs.Orders.{both, is_block, same_block-refl, same_family-refl, count_yes, count_no, count_alike}

-- strictly around, and of this length at least
abbrev pub is_around : Cidr → ℕ → Cidr → Bool
is_around block n b = is_strictly_inside block b && nat_le n b.len

-- ---- what the tests say

pub shorter : (inner outer : Cidr) → is_strictly_inside inner outer ≡ true → outer.len < inner.len
shorter inner outer t =
    let families = same_family inner.family outer.family in
    let longer = nat_lt outer.len inner.len in
    let begins = nat_le outer.first inner.first in
    let h = both (families && longer && begins) (nat_le (last_of inner).value (last_of outer).value) t in
    let k = both (families && longer) begins h.0 in
    let m = both families longer k.0 in
    let e = m.1 in
    grind (arith, nat_tests)

not_around : (block : Cidr) (n : ℕ) (b : Cidr) → block.len ≤ n → is_around block n b ≡ false
not_around block n b le = go (is_strictly_inside block b) refl where
  go : (t : Bool) → is_strictly_inside block b ≡ t → (t && nat_le n b.len) ≡ false
  go true e = (let less = shorter block b e in grind (arith, nat_tests))
  go false e = refl

pub none_around : (block : Cidr) (n : ℕ) (bs : List Cidr) → block.len ≤ n → distinct (filter (is_around block n) bs) ≡ 0
none_around block n [] le = refl
none_around block n (b ∷ bs) le =
    ap (λ (t : Bool). distinct (cond t (b ∷ filter (is_around block n) bs) (filter (is_around block n) bs))) (not_around block n b le) ∙ none_around block n bs le

all_around : (block : Cidr) (bs : List Cidr) → filter (is_around block 0) bs ≡ filter (λ b. is_strictly_inside block b) bs
all_around block [] = refl
all_around block (b ∷ bs) = go (is_strictly_inside block b) (all_around block bs) where
  go : (t : Bool) → filter (is_around block 0) bs ≡ filter (λ x. is_strictly_inside block x) bs
      → cond (t && nat_le 0 b.len) (b ∷ filter (is_around block 0) bs) (filter (is_around block 0) bs) ≡ cond t (b ∷ filter (λ x. is_strictly_inside block x) bs) (filter (λ x. is_strictly_inside block x) bs)
  go true e = (let yes : nat_le 0 b.len ≡ true = grind (arith, nat_tests) in rw yes (ap (λ (xs : List Cidr). b ∷ xs) e))
  go false e = e

-- ---- how often, and whether

same_test : (family : Family) (e b : Cidr) → e.family ≡ family → b.family ≡ family → same_block e b ≡ is_same e b
same_test family e b f g =
    let one : same_family e.family b.family ≡ true = rw (f, g) (same_family-refl family) in
    ap (λ (t : Bool). t && e.first == b.first && e.len == b.len) one ∙ (let q : (e.first == b.first && e.len == b.len) ≡ is_same e b = grind (arith, nat_tests) in q)

pub times_any : (family : Family) (e : Cidr) (bs : List Cidr) → e.family ≡ family → AreBlocksOf family bs → nat_lt 0 (times_of bs e) ≡ list_any (same_block e) bs
times_any family e [] f h = refl
times_any family e (b ∷ bs) f h = go (same_block e b) refl (times_any family e bs f h.1) where
  test : same_block e b ≡ is_same e b
  test = same_test family e b f h.0.family_is

  go : (t : Bool) → same_block e b ≡ t → nat_lt 0 (times_of bs e) ≡ list_any (same_block e) bs → nat_lt 0 (times_of (b ∷ bs) e) ≡ (t || list_any (same_block e) bs)
  go true k ih = (let n = count_yes (is_same e) b bs (sym test ∙ k) in grind (arith, nat_tests))
  go false k ih = ap (λ (n : ℕ). nat_lt 0 n) (count_no (is_same e) b bs (sym test ∙ k)) ∙ ih

-- ---- one length more

-- a block that passes is found among those that do
any_around : (q : Cidr → Bool) (b : Cidr) (bs : List Cidr) → q b ≡ true → list_any (same_block b) (filter q bs) ≡ list_any (same_block b) bs
any_around q b bs h = any-filter_same (same_block b) q true (λ k t. ap q (sym (is_block b k t)) ∙ h) bs

module _ (block e : Cidr) (n : ℕ) (family : Family) (hb : IsBlock block) (he : IsBlock e) (inside : IsInside block e) (len_is : e.len ≡ n) (less : n < block.len) (own : e.family ≡ family) where
  e_around : is_around block n e ≡ true
  e_around =
      let strict = (inside_is_by_ends block e hb he).1 (strictly_by_len block e (omega arith) inside) in
      let yes : nat_le n e.len ≡ true = grind (arith, nat_tests) in
      rw (strict, yes) refl

  e_not_longer : is_around block (n + 1) e ≡ false
  e_not_longer = (let fails : nat_le (n + 1) e.len ≡ false = grind (arith, nat_tests) in go (is_strictly_inside block e) fails) where
    go : (t : Bool) → nat_le (n + 1) e.len ≡ false → (t && nat_le (n + 1) e.len) ≡ false
    go true fails = fails
    go false fails = refl

  around_shorter : (b : Cidr) → is_around block (n + 1) b ≡ true → is_around block n b ≡ true
  around_shorter b h =
      let k = both (is_strictly_inside block b) (nat_le (n + 1) b.len) h in
      let l = k.1 in
      let yes : nat_le n b.len ≡ true = grind (arith, nat_tests) in
      rw (k.0, yes) refl

  -- another block that is around and not longer is shorter
  others_shorter : (b : Cidr) → IsBlock b → same_block e b ≡ false → is_around block (n + 1) b ≡ false → is_around block n b ≡ false
  others_shorter b hx other fails = go (is_around block n b) refl where
    go : (t : Bool) → is_around block n b ≡ t → t ≡ false
    go false h = refl
    go true h =
        let k = both (is_strictly_inside block b) (nat_le n b.len) h in
        let low = k.1 in
        let high : nat_le (n + 1) b.len ≡ false = sym (ap (λ (t : Bool). t && nat_le (n + 1) b.len) k.0) ∙ fails in
        let len : b.len ≡ e.len = grind (arith, nat_tests) in
        let strict = (inside_is_by_ends block b hb hx).0 k.0 in
        let is = one_of_length block b e hx he strict.inside inside len in
        let f : true ≡ false = sym (same_block-refl e) ∙ ap (λ (x : Cidr). same_block e x) (sym is) ∙ other in
        cc

  pub one_length : (bs : List Cidr) → AreBlocksOf family bs → distinct (filter (is_around block n) bs) ≡ distinct (filter (is_around block (n + 1)) bs) + cond (list_any (same_block e) bs) 1 0
  one_length [] h = omega arith
  one_length (b ∷ bs) h = go (same_block e b) refl (is_around block (n + 1) b) refl (one_length bs h.1)
    where
      go : (s : Bool) → same_block e b ≡ s → (t : Bool) → is_around block (n + 1) b ≡ t
          → distinct (filter (is_around block n) bs) ≡ distinct (filter (is_around block (n + 1)) bs) + cond (list_any (same_block e) bs) 1 0
          → distinct (cond (is_around block n b) (b ∷ filter (is_around block n) bs) (filter (is_around block n) bs))
          ≡ distinct (cond t (b ∷ filter (is_around block (n + 1)) bs) (filter (is_around block (n + 1)) bs)) + cond (s || list_any (same_block e) bs) 1 0
      go true s true t ih = (let is = is_block e b s in let f : true ≡ false = sym t ∙ ap (λ (x : Cidr). is_around block (n + 1) x) (sym is) ∙ e_not_longer in cc)
      go true s false t ih =
          let is = is_block e b s in
          let passes : is_around block n b ≡ true = ap (λ (x : Cidr). is_around block n x) (sym is) ∙ e_around in
          let found = any_around (is_around block n) b bs passes ∙ ap (λ (x : Cidr). list_any (same_block x) bs) (sym is) in
          rw passes (first (list_any (same_block b) (filter (is_around block n) bs)) (list_any (same_block e) bs) found ih)
        where
          first : (a c : Bool) → a ≡ c → distinct (filter (is_around block n) bs) ≡ distinct (filter (is_around block (n + 1)) bs) + cond c 1 0
              → (if a then distinct (filter (is_around block n) bs) else distinct (filter (is_around block n) bs) + 1) ≡ distinct (filter (is_around block (n + 1)) bs) + 1
          first true true q k = k
          first true false q k = cc
          first false true q k = cc
          first false false q k = omega arith
      go false s true t ih =
          let passes = around_shorter b t in
          let here = any_around (is_around block n) b bs passes in
          let there = any_around (is_around block (n + 1)) b bs t in
          rw passes (both_have (list_any (same_block b) (filter (is_around block n) bs)) (list_any (same_block b) (filter (is_around block (n + 1)) bs)) (here ∙ sym there) ih)
        where
          both_have : (a c : Bool) → a ≡ c → distinct (filter (is_around block n) bs) ≡ distinct (filter (is_around block (n + 1)) bs) + cond (list_any (same_block e) bs) 1 0
              → (if a then distinct (filter (is_around block n) bs) else distinct (filter (is_around block n) bs) + 1)
              ≡ (if c then distinct (filter (is_around block (n + 1)) bs) else distinct (filter (is_around block (n + 1)) bs) + 1) + cond (list_any (same_block e) bs) 1 0
          both_have true true q k = k
          both_have true false q k = cc
          both_have false true q k = cc
          both_have false false q k = omega arith
      go false s false t ih = rw (others_shorter b h.0.lawful s t) ih

-- ---- as the walk has it

pub same_blocks : (family : Family) (xs ys : List Cidr) → IsPermutation xs ys → AreBlocksOf family ys → AreBlocksOf family xs
same_blocks family xs ys p h = recursion_from_All (IsBlockOf family) xs (All-permutation (IsBlockOf family) ys xs (IsPermutation-sym xs ys p) (All-from_recursion (IsBlockOf family) ys h))

-- the lengths below one, and the rest
summed : (family : Family) (block : Cidr) (blocks : List Cidr) → IsBlock block → block.family ≡ family → AreBlocksOf family blocks → (n : ℕ) → n ≤ block.len
    → distinct (filter (is_around block 0) blocks) ≡ around_below blocks block n + distinct (filter (is_around block n) blocks)
summed family block blocks hb own h zero le = (let none = around_none blocks block in omega arith)
summed family block blocks hb own h (suc n) le =
    let so_far = summed family block blocks hb own h n (omega arith) in
    let e = wider_of block n in
    let step = one_length block e n family hb (wider_lawful block n hb (omega arith)) (inside_wider block n hb (omega arith)) refl (omega arith) own blocks h in
    let found = ap (λ (t : Bool). let k : ℕ = cond t 1 0 in k) (times_any family e blocks own h) in
    let once : min (times_of blocks e) 1 ≡ cond (nat_lt 0 (times_of blocks e)) 1 0 = grind (arith, nat_tests) in
    let next = around_next blocks block n in
    let same : suc n ≡ n + 1 = omega arith in
    let here = ap (around_below blocks block) same in
    let rest : distinct (filter (is_around block (suc n)) blocks) ≡ distinct (filter (is_around block (n + 1)) blocks) = ap (λ (k : ℕ). distinct (filter (is_around block k) blocks)) same in
    omega arith

-- in any order
alike : (block : Cidr) (blocks held : List Cidr) → IsPermutation blocks held → (n : ℕ) → around_below held block n ≡ around_below blocks block n
alike block blocks held p zero = around_none held block ∙ sym (around_none blocks block)
alike block blocks held p (suc n) =
    let so_far = alike block blocks held p n in
    let times = count_alike (is_same (wider_of block n)) blocks held p in
    let once : min (times_of blocks (wider_of block n)) 1 ≡ min (times_of held (wider_of block n)) 1 = ap (λ (k : ℕ). min k 1) times in
    let one = around_next held block n in
    let other = around_next blocks block n in
    let same : suc n ≡ n + 1 = omega arith in
    let left = ap (around_below held block) same in
    let right = ap (around_below blocks block) same in
    omega arith

pub around_any_order : (family : Family) (block : Cidr) (held blocks : List Cidr) → IsBlock block → block.family ≡ family → AreBlocksOf family held → IsPermutation blocks held
    → around_of held block ≡ distinct (filter (λ b. is_strictly_inside block b) blocks)
around_any_order family block held blocks hb own h p =
    let all = summed family block blocks hb own (same_blocks family blocks held p h) block.len (omega arith) in
    let past = none_around block block.len blocks (omega arith) in
    let same = alike block blocks held p block.len in
    let every = ap distinct (all_around block blocks) in
    omega arith
