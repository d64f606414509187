-- A run of fewer than 2^32 numbers is covered by 64 blocks at most: from a number that many powers of two divide, one of each size
-- downwards and one of each size upwards.
use Rattle.std.proofs.Common.{◌≡◌, ℕ, zero, suc, ◌+◌, ◌-◌, ◌*◌, ◌/◌, ◌%◌, ◌^◌, ◌<◌, ◌≤◌, nat_lt, Bool, true, false, IsTrue, List, [], ◌∷◌, ◌++◌, length, refl, ap, sym, ◌∙◌, arith}
use Rattle.std.specs.List.{AllByRecursion}
use Rattle.std.proofs.lemmas.Bool.Decides.{nat_tests}
use Rattle.std.proofs.lemmas.Nat.{pow_pos, div-add-mod', mod-pow-add}
use Rattle.std.proofs.lemmas.List.{length-append}
use Rattle.std.proofs.Math.Nat.{add-mod_right, mul-mod_left, mod-lt, two-pow-succ}
use Rattle.inet_num.specs.declared.Family.{Family}
use Rattle.inet_num.specs.Net.{width_of, Cidr, IsBlock, size_of}
use Rattle.inet_num.specs.Free.{has_address, is_taken}
use Rattle.span_set.proofs.Greedy.{All-more, taken_left, taken_right}

-- the block of the size 2^k at a number
abbrev pub sized : Family → ℕ → ℕ → Cidr
sized family k first = record { family = family; first = first; len = width_of family - k }

-- a block of the family between two numbers
pub record IsWithinRun (family : Family) (from to : ℕ) (b : Cidr) : Type 0 where
  pub lawful : IsBlock b
  pub family_is : b.family ≡ family
  pub low : from ≤ b.first
  pub high : b.first + size_of b ≤ to

-- at most so many blocks that have just the numbers from one up to another
pub record IsCover (family : Family) (from to most : ℕ) (bs : List Cidr) : Type 0 where
  pub each : AllByRecursion (IsWithinRun family from to) bs
  pub covers : (a : ℕ) → from ≤ a → a < to → IsTrue (is_taken bs a)
  pub few : length bs ≤ most

abbrev pub Cover : Family → ℕ → ℕ → ℕ → Type 0
Cover family from to most = (bs : List Cidr) × IsCover family from to most bs

sized_is : (family : Family) (k first : ℕ) → k ≤ width_of family → size_of (sized family k first) ≡ 2 ^ k
sized_is family k first h = let e : width_of family - (width_of family - k) ≡ k = omega arith in ap (λ (n : ℕ). 2 ^ n) e

sized_lawful : (family : Family) (k first to : ℕ) → k ≤ width_of family → first % 2 ^ k ≡ 0 → first + 2 ^ k ≤ to → to ≤ 2 ^ width_of family → IsBlock (sized family k first)
sized_lawful family k first to h a l t =
    let p = pow_pos k in
    record { short = omega arith; aligned = ap (λ (n : ℕ). first % n) (sized_is family k first h) ∙ a; in_range = omega arith }

widen : (family : Family) (from to low high : ℕ) (bs : List Cidr) → low ≤ from → to ≤ high → AllByRecursion (IsWithinRun family from to) bs → AllByRecursion (IsWithinRun family low high) bs
widen family from to low high [] a b h = tt
widen family from to low high (x ∷ xs) a b h =
    let l = h.0.low in
    let u = h.0.high in
    (record { lawful = h.0.lawful; family_is = h.0.family_is; low = omega arith; high = omega arith }, widen family from to low high xs a b h.1)

fewer : (family : Family) (from to k n : ℕ) → k ≤ n → Cover family from to k → Cover family from to n
fewer family from to k n l c = (c.0, record { each = c.1.each; covers = c.1.covers; few = (let h = c.1.few in omega arith) })

none : (family : Family) (from to k : ℕ) → to ≤ from → Cover family from to k
none family from to k l = ([], record { each = tt; covers = λ a h m. absurd (omega arith); few = omega arith })

-- two runs that meet
joined : (family : Family) (from mid to k n : ℕ) → from ≤ mid → mid ≤ to → Cover family from mid k → Cover family mid to n → Cover family from to (k + n)
joined family from mid to k n l m c d = (
  c.0 ++ d.0,
  record {
    each = All-more (IsWithinRun family from to) c.0 d.0 (widen family from mid from to c.0 (omega arith) m c.1.each) (widen family mid to from to d.0 l (omega arith) d.1.each);
    covers = λ a h i. part a h i (nat_lt a mid) refl;
    few = (let x = c.1.few in let y = d.1.few in let z = length-append c.0 d.0 in omega arith);
  },
)
  where
    part : (a : ℕ) → from ≤ a → a < to → (t : Bool) → nat_lt a mid ≡ t → IsTrue (is_taken (c.0 ++ d.0) a)
    part a h i true t = (let b : a < mid = grind (arith, nat_tests, t) in taken_left c.0 d.0 a (c.1.covers a h b))
    part a h i false t = (let b : mid ≤ a = grind (arith, nat_tests, t) in taken_right c.0 d.0 a (d.1.covers a b i))

-- one block
single : (family : Family) (k from to : ℕ) → k ≤ width_of family → from % 2 ^ k ≡ 0 → to ≡ from + 2 ^ k → to ≤ 2 ^ width_of family → Cover family from to 1
single family k from to h a e t =
    let b = sized family k from in
    let s = sized_is family k from h in (
      b ∷ [],
      record {
        each = (record { lawful = sized_lawful family k from to h a (omega arith) t; family_is = refl; low = omega arith; high = omega arith }, tt);
        covers = λ x l m. here x l (omega arith);
        few = omega arith;
      },
    )
  where
    here : (x : ℕ) → from ≤ x → x < from + size_of (sized family k from) → IsTrue (is_taken (sized family k from ∷ []) x)
    here x l m = (let t : has_address (sized family k from) x ≡ true = grind (arith, nat_tests) in grind arith)

half : (n k : ℕ) → n % 2 ^ suc k ≡ 0 → n % 2 ^ k ≡ 0
half n k e =
    let s : 1 + k ≡ suc k = omega arith in
    let f : n % 2 ^ (1 + k) ≡ 0 = ap (λ (m : ℕ). n % 2 ^ m) s ∙ e in
    let m = mod-pow-add n 1 k in
    omega arith

-- up to a number that 2^k divides
below : (family : Family) (k from to : ℕ) → k ≤ width_of family → to ≤ 2 ^ width_of family → to % 2 ^ k ≡ 0 → from ≤ to → to < from + 2 ^ k → Cover family from to k
below family zero from to h t a l m = none family from to 0 (omega arith)
below family (suc k) from to h t a l m = go (nat_lt to (from + 2 ^ k)) refl (below family k) where
  go : (s : Bool) → nat_lt to (from + 2 ^ k) ≡ s → ((f u : ℕ) → k ≤ width_of family → u ≤ 2 ^ width_of family → u % 2 ^ k ≡ 0 → f ≤ u → u < f + 2 ^ k → Cover family f u k) → Cover family from to (suc k)
  go true s ih = (let b : to < from + 2 ^ k = grind (arith, nat_tests, s) in fewer family from to k (suc k) (omega arith) (ih from to (omega arith) t (half to k a) l b))
  go false s ih =
      let b : from + 2 ^ k ≤ to = grind (arith, nat_tests, s) in
      let p = two-pow-succ k in
      let mid : ℕ = to - 2 ^ k in
      let e : mid + 2 ^ k ≡ to = omega arith in
      let al : mid % 2 ^ k ≡ 0 = sym (add-mod_right mid (2 ^ k)) ∙ ap (λ (n : ℕ). n % 2 ^ k) e ∙ half to k a in
      let first = ih from mid (omega arith) (omega arith) al (omega arith) (omega arith) in
      let one = single family k mid to (omega arith) al (sym e) t in
      fewer family from to (k + 1) (suc k) (omega arith) (joined family from mid to k 1 (omega arith) (omega arith) first one)

-- from such a number on
above : (family : Family) (k from to : ℕ) → k ≤ width_of family → to ≤ 2 ^ width_of family → from % 2 ^ k ≡ 0 → from ≤ to → to < from + 2 ^ k → Cover family from to k
above family zero from to h t a l m = none family from to 0 (omega arith)
above family (suc k) from to h t a l m = go (nat_lt to (from + 2 ^ k)) refl (above family k) where
  go : (s : Bool) → nat_lt to (from + 2 ^ k) ≡ s → ((f u : ℕ) → k ≤ width_of family → u ≤ 2 ^ width_of family → f % 2 ^ k ≡ 0 → f ≤ u → u < f + 2 ^ k → Cover family f u k) → Cover family from to (suc k)
  go true s ih = (let b : to < from + 2 ^ k = grind (arith, nat_tests, s) in fewer family from to k (suc k) (omega arith) (ih from to (omega arith) t (half from k a) l b))
  go false s ih =
      let b : from + 2 ^ k ≤ to = grind (arith, nat_tests, s) in
      let p = two-pow-succ k in
      let al = half from k a in
      let mid : ℕ = from + 2 ^ k in
      let next : mid % 2 ^ k ≡ 0 = add-mod_right from (2 ^ k) ∙ al in
      let one = single family k from mid (omega arith) al refl (omega arith) in
      let rest = ih mid to (omega arith) t next (omega arith) (omega arith) in
      fewer family from to (1 + k) (suc k) (omega arith) (joined family from mid to 1 k (omega arith) (omega arith) one rest)

-- the first number from one on that 2^k divides
abbrev up_to : ℕ → ℕ → ℕ
up_to k from = (from + 2 ^ k - 1) / 2 ^ k * 2 ^ k

up_to_is : (k from : ℕ) → (from ≤ up_to k from) × (up_to k from < from + 2 ^ k)
up_to_is k from =
    let p = pow_pos k in
    let d = div-add-mod' (from + 2 ^ k - 1) (2 ^ k) in
    let r = mod-lt (from + 2 ^ k - 1) p in
    (omega arith, omega arith)

-- a run of fewer than 2^k numbers
pub covered : (family : Family) (k from to : ℕ) → k ≤ width_of family → to ≤ 2 ^ width_of family → from ≤ to → to < from + 2 ^ k → Cover family from to (2 * k)
covered family zero from to h t l m = none family from to 0 (omega arith)
covered family (suc k) from to h t l m = go (nat_lt to mid) refl (covered family k) where
  mid : ℕ
  mid = up_to k from

  far : (n : ℕ) → to < n + 2 ^ suc k → n ≤ to → n % 2 ^ k ≡ 0 → (s : Bool) → nat_lt to (n + 2 ^ k) ≡ s → Cover family n to (1 + k)
  far n q o al true s = (let b : to < n + 2 ^ k = grind (arith, nat_tests, s) in fewer family n to k (1 + k) (omega arith) (above family k n to (omega arith) t al o b))
  far n q o al false s =
      let b : n + 2 ^ k ≤ to = grind (arith, nat_tests, s) in
      let p = two-pow-succ k in
      let next : ℕ = n + 2 ^ k in
      let one = single family k n next (omega arith) al refl (omega arith) in
      let rest = above family k next to (omega arith) t (add-mod_right n (2 ^ k) ∙ al) b (omega arith) in
      joined family n next to 1 k (omega arith) b one rest

  go : (s : Bool) → nat_lt to mid ≡ s → ((f u : ℕ) → k ≤ width_of family → u ≤ 2 ^ width_of family → f ≤ u → u < f + 2 ^ k → Cover family f u (2 * k)) → Cover family from to (2 * suc k)
  go true s ih =
      let b : to < mid = grind (arith, nat_tests, s) in
      let at = up_to_is k from in
      fewer family from to (2 * k) (2 * suc k) (omega arith) (ih from to (omega arith) t l (omega (arith, at.1)))
  go false s ih =
      let b : mid ≤ to = grind (arith, nat_tests, s) in
      let at = up_to_is k from in
      let al : mid % 2 ^ k ≡ 0 = mul-mod_left _ _ in
      let first = below family k from mid (omega arith) (omega arith) al at.0 at.1 in
      let rest = far mid (omega (arith, at.0)) b al (nat_lt to (mid + 2 ^ k)) refl in
      fewer family from to (k + (1 + k)) (2 * suc k) (omega arith) (joined family from mid to k (1 + k) at.0 b first rest)
