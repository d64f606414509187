use Rattle.std.proofs.Common.{◌≡◌, ◌≢◌, ◌⊎◌, ℕ, ◌+◌, ◌-◌, ◌^◌, ◌<◌, ◌≤◌, Bool, true, false, refl, ap, subst, arith, inl, inr}
use Rattle.std.proofs.lemmas.Bool.{cases_lt}
use Rattle.std.proofs.lemmas.Nat.{pow_pos, pow_below}
use Rattle.std.proofs.Math.Nat.{zero-mod}
use Rattle.inet_num.specs.declared.Family.{Family}
use Rattle.inet_num.specs.Net.{Cidr, width_of, size_of, HasAddress, IsBlock, IsInside, low_half_of, high_half_of}
use Rattle.inet_num.proofs.Numbers.{ends_of_inside, inside_by_ends, pow_double, block_fits}
use Rattle.inet_num.proofs.Nested.{same_by_len}
use Rattle.inet_num.proofs.Aligned.{inside_half}
use Rattle.radix_tree.specs.Shape.{half, HasRoom, whole}

pub self_in : (b : Cidr) → IsInside b b
self_in b = record { family = refl; each = λ a h. h }

pub has_first : (b : Cidr) → HasAddress b b.first
has_first b = let some = pow_pos (width_of b.family - b.len) in (omega arith, omega arith)

pub half_family : (s : Bool) (b : Cidr) → (half s b).family ≡ b.family
half_family false b = refl
half_family true b = refl

pub half_in : (s : Bool) (b : Cidr) → HasRoom b → IsInside (half s b) b
half_in false b room = (let double = pow_double (width_of b.family) b.len room in inside_by_ends (low_half_of b) b refl (omega arith) (omega arith))
half_in true b room = (let double = pow_double (width_of b.family) b.len room in inside_by_ends (high_half_of b) b refl (omega arith) (omega arith))

-- a block with room is in neither of its halves
pub not_in_half : (s : Bool) (b : Cidr) → HasRoom b → IsInside b (half s b) → ⊥
not_in_half false b room i = (let e = ends_of_inside b (low_half_of b) i in let d = pow_double (width_of b.family) b.len room in let some = pow_pos (width_of b.family - (b.len + 1)) in omega arith)
not_in_half true b room i = (let e = ends_of_inside b (high_half_of b) i in let some = pow_pos (width_of b.family - (b.len + 1)) in omega arith)

-- a number lies in one half alone
pub sides_apart : (s r : Bool) (b : Cidr) (a : ℕ) → s ≢ r → HasAddress (half s b) a → HasAddress (half r b) a → ⊥
sides_apart false false b a other h k = other refl
sides_apart false true b a other h k = omega arith
sides_apart true false b a other h k = omega arith
sides_apart true true b a other h k = other refl

pub same_side : (s r : Bool) → (s ≡ r) ⊎ (s ≢ r)
same_side false false = inl refl
same_side false true = inr (λ e. cc)
same_side true false = inr (λ e. cc)
same_side true true = inl refl

-- a block strictly inside another lies in one of its halves
pub side_of : (b m : Cidr) → IsBlock b → IsBlock m → IsInside m b → b.len < m.len → (s : Bool) × IsInside m (half s b)
side_of b m hb hm i less = elim (inside_half b m hb hm i less) [ inl low ↦ (false, low) | inr high ↦ (true, high) ]

-- and this half has a number that both have
pub in_side : (b m : Cidr) (s : Bool) (a : ℕ) → IsBlock b → IsBlock m → IsInside m b → b.len < m.len → HasAddress m a → HasAddress (half s b) a → IsInside m (half s b)
in_side b m s a hb hm i less in_m in_h =
    let side = side_of b m hb hm i less in
    elim (same_side side.0 s) [
      | inl same ↦ subst (λ (r : Bool). IsInside m (half r b)) same side.1
      | inr other ↦ absurd (sides_apart side.0 s b a other (side.1.each a in_m) in_h)
    ]

-- a block strictly inside another is longer
pub longer : (q b : Cidr) → IsBlock q → IsBlock b → IsInside q b → q ≢ b → b.len < q.len
longer q b hq hb i other = elim (cases_lt b.len q.len) [ inl less ↦ less | inr le ↦ absurd (other (same_by_len q b i le hq.short hb.short)) ]

pub room_above : (q b : Cidr) → IsBlock q → IsInside q b → b.len < q.len → HasRoom b
room_above q b hq i less = let short = hq.short in let same : width_of q.family ≡ width_of b.family = ap width_of i.family in omega arith

-- each block is in the whole
pub whole_in : (f : Family) (b : Cidr) → IsBlock b → b.family ≡ f → IsInside b (whole f)
whole_in f b h same =
    let fits : b.first + size_of b ≤ 2 ^ width_of f = subst (λ (g : Family). b.first + size_of b ≤ 2 ^ width_of g) same (block_fits b h) in
    let none : width_of f - 0 ≡ width_of f = omega arith in
    let all : size_of (whole f) ≡ 2 ^ width_of f = ap (λ (k : ℕ). 2 ^ k) none in
    inside_by_ends b (whole f) same (omega arith) (omega (arith, fits, all))

-- the length of a block inside another is at least the other's
pub len_of_inside : (q p : Cidr) → q.len ≤ width_of q.family → p.len ≤ width_of p.family → IsInside q p → p.len ≤ q.len
len_of_inside q p short short_p h = elim (cases_lt p.len (q.len + 1)) [
  | inl less ↦ omega arith
  | inr more ↦
      let ends = ends_of_inside q p h in
      let same : width_of q.family ≡ width_of p.family = ap width_of h.family in
      let bigger = pow_below (width_of p.family - p.len) (width_of q.family - q.len) (omega arith) in
      absurd (omega arith)
]

pub whole_lawful : (f : Family) → IsBlock (whole f)
whole_lawful f = record { short = omega arith; aligned = zero-mod (size_of (whole f)); in_range = pow_pos (width_of f) }
