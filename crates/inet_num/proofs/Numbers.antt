use Rattle.std.proofs.Common.{◌≡◌, ℕ, ◌+◌, ◌-◌, ◌*◌, ◌/◌, ◌%◌, ◌^◌, ◌<◌, ◌≤◌, bit_and, sym, ◌∙◌, ap, arith, lit≤, IsTrue, nat_le, nat_lt, ◌↔◌, inl, inr}
use Rattle.std.proofs.lemmas.Bool.{cases_lt}
use Rattle.std.proofs.lemmas.Bool.Decides.{nat_tests}
use Rattle.std.proofs.lemmas.Nat.{and_mask, pow-add, pow_pos, div-add-mod', row_fits, pow_below, mod-pow-add}
use Rattle.std.proofs.Math.Nat.{div-lt_iff_lt-mul, add-mod_right}
use Rattle.inet_num.specs.declared.Family.{Family}
use Rattle.inet_num.specs.declared.Family.TheVariants.{V4, V6}
use Rattle.inet_num.specs.Net.{width_of, Cidr, IsBlock, size_of, HasAddress, IsInside, IsStrictlyInside, low_half_of, high_half_of}

-- a power of two is a power times a power
pub pow_split : (w s : ℕ) → s ≤ w → 2 ^ w ≡ 2 ^ (w - s) * 2 ^ s
pow_split w s h = let e : w ≡ (w - s) + s = omega arith in ap (λ k. 2 ^ k) e ∙ pow-add 2 (w - s) s

-- an aligned block below a power of two ends there or before
pub aligned_fits : (n s w : ℕ) → s ≤ w → n % 2 ^ s ≡ 0 → n < 2 ^ w → n + 2 ^ s ≤ 2 ^ w
aligned_fits n s w h e lt =
    let split : 2 ^ w ≡ 2 ^ (w - s) * 2 ^ s = pow_split w s h in
    let whole : n ≡ n / 2 ^ s * 2 ^ s = omega (arith, div-add-mod' n (2 ^ s)) in
    let fits : n < 2 ^ (w - s) * 2 ^ s = omega arith in
    let below : n / 2 ^ s < 2 ^ (w - s) = (div-lt_iff_lt-mul (pow_pos s)).1 fits in
    omega (arith, row_fits (n / 2 ^ s) (2 ^ s) (2 ^ (w - s)) (2 ^ s) below (omega arith))

-- a block ends within its family
pub block_fits : (b : Cidr) → IsBlock b → b.first + size_of b ≤ 2 ^ width_of b.family
block_fits b h = aligned_fits b.first (width_of b.family - b.len) (width_of b.family) (omega arith) h.aligned h.in_range

-- the mask of k ones keeps the rest by 2 ^ k
pub and_ones : (x ones k : ℕ) → ones + 1 ≡ 2 ^ k → bit_and x ones ≡ x % 2 ^ k
and_ones x ones k e = let f : ones ≡ 2 ^ k - 1 = omega arith in ap (bit_and x) f ∙ and_mask x k

pub width_small : (f : Family) → width_of f ≤ 128
width_small V4 = omega arith
width_small V6 = omega arith

-- a block of a length of at least 1 has_address fewer than 2 ^ 128 addresses_of
pub size_fits : (f : Family) (len : ℕ) → 1 ≤ len → 2 ^ (width_of f - len) < 2 ^ 128
size_fits f len h = pow_below (width_of f - len) 128 (omega (arith, width_small f))

-- an end within the family is one within 128 bits
pub width_fits : (f : Family) → 2 ^ width_of f ≤ 2 ^ 128
width_fits V4 = lit≤ tt
width_fits V6 = lit≤ tt

-- twice a power is the next one
pub pow_double : (w len : ℕ) → len < w → 2 ^ (w - len) ≡ 2 ^ (w - (len + 1)) + 2 ^ (w - (len + 1))
pow_double w len h =
    let e : w - len ≡ 1 + (w - (len + 1)) = omega arith in
    omega (arith, ap (λ k. 2 ^ k) e, pow-add 2 1 (w - (len + 1)))

-- ---- inside, by the ends
pub inside_by_ends : (q p : Cidr) → q.family ≡ p.family → p.first ≤ q.first → q.first + size_of q ≤ p.first + size_of p → IsInside q p
inside_by_ends q p e low high = record { family = e; each = λ a h. (omega (arith, h.0), omega (arith, h.1)) }

pub ends_of_inside : (q p : Cidr) → IsInside q p → (p.first ≤ q.first) × (q.first + size_of q ≤ p.first + size_of p)
ends_of_inside q p h =
    let some : 0 < size_of q = pow_pos (width_of q.family - q.len) in
    let low : HasAddress p q.first = h.each q.first (omega arith, omega arith) in
    let top : HasAddress p (q.first + size_of q - 1) = h.each (q.first + size_of q - 1) (omega arith, omega arith) in
    (low.0, omega (arith, top.1))

-- the test of the ends
pub ends_test : (q p : Cidr) (m n : ℕ) → q.family ≡ p.family → p.first ≤ q.first → m ≡ q.first + size_of q - 1 → n ≡ p.first + size_of p - 1 → IsTrue (nat_le m n) ↔ IsInside q p
ends_test q p m n e low f g =
    let some : 0 < size_of q = pow_pos (width_of q.family - q.len) in
    let some_p : 0 < size_of p = pow_pos (width_of p.family - p.len) in (
      (λ t. let le : m ≤ n = grind (arith, nat_tests) in inside_by_ends q p e low (omega arith)),
      (λ h. let high = (ends_of_inside q p h).1 in let le : m ≤ n = omega arith in grind (arith, nat_tests)),
    )

-- blocks that are alike in all three are one
pub same_block : (p q : Cidr) → p.family ≡ q.family → p.first ≡ q.first → p.len ≡ q.len → p ≡ q
same_block p q e f g =
    ap (λ x. let b : Cidr = record { family = x; first = p.first; len = p.len } in b) e
    ∙ ap (λ x. let b : Cidr = record { family = q.family; first = x; len = p.len } in b) f
    ∙ ap (λ x. let b : Cidr = record { family = q.family; first = q.first; len = x } in b) g

-- a longer block inside is strictly inside
pub strictly_by_len : (q p : Cidr) → p.len < q.len → IsInside q p → IsStrictlyInside q p
strictly_by_len q p less h = record { inside = h; other = λ e. let same : q.len ≡ p.len = ap (λ b. b.len) e in absurd (omega arith) }

pub len_of_strictly : (q p : Cidr) → p.len ≤ width_of p.family → q.len ≤ width_of q.family → IsStrictlyInside q p → p.len < q.len
len_of_strictly q p short_p short_q h = elim (cases_lt p.len q.len) [
  | inl less ↦ less
  | inr le ↦
      let ends = ends_of_inside q p h.inside in
      let width_is : width_of q.family ≡ width_of p.family = ap width_of h.inside.family in
      elim (cases_lt q.len p.len) [
        | inl less ↦ let bigger = pow_below (width_of p.family - p.len) (width_of q.family - q.len) (omega arith) in absurd (omega arith)
        | inr ge ↦
            let same : q.len ≡ p.len = omega arith in
            let sizes : size_of q ≡ size_of p = ap (λ k. 2 ^ k) (let e : width_of q.family - q.len ≡ width_of p.family - p.len = omega arith in e) in
            absurd (h.other (same_block q p h.inside.family (omega arith) same))
      ]
]

-- what is aligned to a power is aligned to half of it
pub aligned_half : (n w len : ℕ) → len < w → n % 2 ^ (w - len) ≡ 0 → n % 2 ^ (w - (len + 1)) ≡ 0
aligned_half n w len less e =
    let k : w - len ≡ 1 + (w - (len + 1)) = omega arith in
    omega (arith, sym (ap (λ k. n % 2 ^ k) k) ∙ e, mod-pow-add n 1 (w - (len + 1)))

-- the halves of a block are blocks
pub low_half_lawful : (b : Cidr) → IsBlock b → b.len < width_of b.family → IsBlock (low_half_of b)
low_half_lawful b h less = record { short = omega arith; aligned = aligned_half b.first (width_of b.family) b.len less h.aligned; in_range = h.in_range }

pub high_half_lawful : (b : Cidr) → IsBlock b → b.len < width_of b.family → IsBlock (high_half_of b)
high_half_lawful b h less = record { short = omega arith; aligned = add-mod_right _ _ ∙ aligned_half b.first (width_of b.family) b.len less h.aligned; in_range = omega (arith, block_fits b h, pow_double (width_of b.family) b.len less, pow_pos (width_of b.family - (b.len + 1))) }

-- no block begins below its outer one
pub not_below : (q p : Cidr) → q.first < p.first → IsInside q p → ⊥
not_below q p less h = let low = (ends_of_inside q p h).0 in omega arith

pub below_test : (q p : Cidr) → q.first < p.first → IsTrue (nat_le p.first q.first) ↔ IsInside q p
below_test q p less = ((λ t. let le : p.first ≤ q.first = grind (arith, nat_tests) in absurd (omega arith)), (λ h. absurd (not_below q p less h)))

pub shorter_test : (q p : Cidr) → p.len ≤ width_of p.family → q.len ≤ width_of q.family → q.len ≤ p.len → IsTrue (nat_lt p.len q.len) ↔ IsStrictlyInside q p
shorter_test q p short_p short_q less = ((λ t. let lt : p.len < q.len = grind (arith, nat_tests) in absurd (omega arith)), (λ h. let lt = len_of_strictly q p short_p short_q h in absurd (omega arith)))
