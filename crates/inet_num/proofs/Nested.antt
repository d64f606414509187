-- Blocks inside one another: what holds of them beside one list of blocks.
use Rattle.std.proofs.Common.{◌≡◌, ℕ, ◌-◌, ◌^◌, ◌≤◌, sym, ◌∙◌, ap, arith, inl, inr, List}
use Rattle.std.proofs.lemmas.Bool.{cases_lt}
use Rattle.std.proofs.lemmas.Nat.{pow_below}
use Rattle.inet_num.specs.Net.{width_of, Cidr, size_of, HasAddress, IsInside, enclosing_of}
use Rattle.inet_num.specs.Free.{IsFree, IsAvailable}
use Rattle.inet_num.proofs.Numbers.{ends_of_inside, same_block}
use Rattle.inet_num.proofs.Aligned.{enclosing_inside, nested}

-- inside a block that is inside
pub inside_trans : (a b c : Cidr) → IsInside a b → IsInside b c → IsInside a c
inside_trans a b c h k = record { family = h.family ∙ k.family; each = λ n m. k.each n (h.each n m) }

-- what is inside a free block is free
pub free_inside : (blocks : List Cidr) (m b : Cidr) → IsInside m b → IsFree blocks b → IsFree blocks m
free_inside blocks m b h k a i = k a (h.each a i)

-- a block inside another that is no longer is that one
pub same_by_len : (m b : Cidr) → IsInside m b → m.len ≤ b.len → m.len ≤ width_of m.family → b.len ≤ width_of b.family → m ≡ b
same_by_len m b h le short short_b =
    let same : width_of m.family ≡ width_of b.family = ap width_of h.family in
    let ends = ends_of_inside m b h in
    let len : m.len ≡ b.len = elim (cases_lt m.len b.len) [
      | inl less ↦ let bigger = pow_below (width_of b.family - b.len) (width_of m.family - m.len) (omega arith) in absurd (omega arith)
      | inr ge ↦ omega arith
    ] in
    let sizes : size_of m ≡ size_of b = ap (λ k. 2 ^ k) (let e : width_of m.family - m.len ≡ width_of b.family - b.len = omega arith in e) in
    same_block m b h.family (omega arith) len

-- an available block inside another one is that one
available_inside : (within : Cidr) (blocks : List Cidr) (c b : Cidr) → IsAvailable within blocks c → IsAvailable within blocks b → IsInside c b → c ≡ b
available_inside within blocks c b hc hb i = elim (cases_lt b.len c.len) [
  | inl longer ↦
      let outer = enclosing_inside b c hb.lawful hc.lawful i longer in
      absurd (hc.largest (omega arith) (inside_trans _ _ _ outer hb.inside) (free_inside blocks (enclosing_of c) b outer hb.free))
  | inr le ↦ same_by_len c b i le hc.lawful.short hb.lawful.short
]

-- two available blocks with an address in common are one
pub available_apart : (within : Cidr) (blocks : List Cidr) (b c : Cidr) (a : ℕ) → IsAvailable within blocks b → IsAvailable within blocks c → HasAddress b a → HasAddress c a → b ≡ c
available_apart within blocks b c a hb hc in_b in_c = elim (nested b c hb.lawful hc.lawful (hb.inside.family ∙ sym hc.inside.family) a in_b in_c) [
  | inl i ↦ available_inside within blocks b c hb hc i
  | inr i ↦ sym (available_inside within blocks c b hc hb i)
]
