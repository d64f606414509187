use Rattle.std.proofs.Common.{◌≡◌, ◌⊎◌, ℕ, ◌+◌, ◌-◌, ◌*◌, ◌/◌, ◌%◌, ◌^◌, ◌<◌, ◌≤◌, refl, sym, ◌∙◌, ap, arith, inl, inr, IsTrue, nat_le, ◌↔◌}
use Rattle.std.proofs.lemmas.Bool.{cases_lt}
use Rattle.std.proofs.lemmas.Bool.Decides.{nat_tests}
use Rattle.std.proofs.lemmas.Nat.{pow_pos, pow_below, div-add-mod', row_fits, mod-pow-add, div-mul-add}
use Rattle.std.proofs.Math.Nat.{div-lt_iff_lt-mul, add-mod_right, lt-div-mul-add, mul-mod_left}
use Rattle.inet_num.specs.Net.{width_of, Cidr, IsBlock, size_of, HasAddress, IsInside, low_half_of, high_half_of}
use Rattle.inet_num.specs.Net.{enclosing_of}
use Rattle.inet_num.proofs.Numbers.{inside_by_ends, ends_of_inside, high_half_lawful, pow_double, same_block}

-- a number without a rest is its quotient's multiple
whole : (n s : ℕ) → n % s ≡ 0 → n ≡ n / s * s
whole n s e = omega (arith, div-add-mod' n s)

-- two multiples of s are s apart
pub multiples_apart : (x y s : ℕ) → 0 < s → x % s ≡ 0 → y % s ≡ 0 → x < y → x + s ≤ y
multiples_apart x y s some e f less =
    let y_is = whole y s f in
    let x_is = whole x s e in
    let low : x < y / s * s = omega arith in
    let below : x / s < y / s = (div-lt_iff_lt-mul some).1 low in
    omega (arith, row_fits (x / s) s (y / s) s below (omega arith))

-- aligned to a larger power is aligned to a smaller one
pub aligned_smaller : (n w a b : ℕ) → a ≤ b → b ≤ w → n % 2 ^ (w - a) ≡ 0 → n % 2 ^ (w - b) ≡ 0
aligned_smaller n w a b ab bw e =
    let k : w - a ≡ (b - a) + (w - b) = omega arith in
    let f : n % 2 ^ ((b - a) + (w - b)) ≡ 0 = sym (ap (λ k. n % 2 ^ k) k) ∙ e in
    omega (arith, f, mod-pow-add n (b - a) (w - b))

-- a longer block inside another is inside one of its halves
pub inside_half : (b m : Cidr) → IsBlock b → IsBlock m → IsInside m b → b.len < m.len → IsInside m (low_half_of b) ⊎ IsInside m (high_half_of b)
inside_half b m hb hm h less =
    let same : width_of m.family ≡ width_of b.family = ap width_of h.family in
    let room : b.len < width_of b.family = (let s = hm.short in omega arith) in
    let ends = ends_of_inside m b h in
    let double = pow_double (width_of b.family) b.len room in
    let mid : (high_half_of b).first % size_of (high_half_of b) ≡ 0 = (high_half_lawful b hb room).aligned in
    let mid_m : (high_half_of b).first % 2 ^ (width_of b.family - m.len) ≡ 0 = aligned_smaller _ (width_of b.family) (b.len + 1) m.len (omega arith) (let s = hm.short in omega arith) mid in
    let mid_is : (high_half_of b).first % size_of m ≡ 0 = rw same mid_m in
    elim (cases_lt m.first (high_half_of b).first) [
      | inl low ↦
          let apart = multiples_apart m.first (high_half_of b).first (size_of m) (pow_pos (width_of m.family - m.len)) hm.aligned mid_is low in
          inl (inside_by_ends m (low_half_of b) h.family ends.0 apart)
      | inr high ↦ inr (inside_by_ends m (high_half_of b) h.family high (omega arith))
    ]

-- the block that encloses a half is the whole
pub enclosing_of-low_half_of : (b : Cidr) → IsBlock b → enclosing_of (low_half_of b) ≡ b
enclosing_of-low_half_of b h =
    let len_is : b.len + 1 - 1 ≡ b.len = omega arith in
    let first_is : b.first / size_of b * size_of b ≡ b.first = sym (whole b.first (size_of b) h.aligned) in
    same_block (enclosing_of (low_half_of b)) b refl (rw len_is first_is) len_is

pub enclosing_of-high_half_of : (b : Cidr) → IsBlock b → b.len < width_of b.family → enclosing_of (high_half_of b) ≡ b
enclosing_of-high_half_of b h room =
    let len_is : b.len + 1 - 1 ≡ b.len = omega arith in
    let w = width_of b.family in
    let double = pow_double w b.len room in
    let some = pow_pos (w - (b.len + 1)) in
    let split : b.first + 2 ^ (w - (b.len + 1)) ≡ b.first / size_of b * size_of b + 2 ^ (w - (b.len + 1)) = omega (arith, whole b.first (size_of b) h.aligned) in
    let div : (b.first + 2 ^ (w - (b.len + 1))) / size_of b ≡ b.first / size_of b =
    ap (λ n. n / size_of b) split ∙ div-mul-add (b.first / size_of b) (size_of b) (2 ^ (w - (b.len + 1))) (omega arith) in
    let first_is : (b.first + 2 ^ (w - (b.len + 1))) / size_of b * size_of b ≡ b.first = ap (λ q. q * size_of b) div ∙ sym (whole b.first (size_of b) h.aligned) in
    same_block (enclosing_of (high_half_of b)) b refl (rw len_is first_is) len_is

-- a block that is longer than the one around it has_address its enclosing_of block inside that too
pub enclosing_inside : (b m : Cidr) → IsBlock b → IsBlock m → IsInside m b → b.len < m.len → IsInside (enclosing_of m) b
enclosing_inside b m hb hm h less =
    let same : width_of m.family ≡ width_of b.family = ap width_of h.family in
    let ends = ends_of_inside m b h in
    let wm = width_of m.family in
    let big : ℕ = 2 ^ (wm - (m.len - 1)) in
    let some : 0 < 2 ^ (wm - (m.len - 1)) = pow_pos (wm - (m.len - 1)) in
    let short = hm.short in
    let first_al : b.first % 2 ^ (wm - b.len) ≡ 0 = rw same hb.aligned in
    let size_is : size_of b ≡ 2 ^ (wm - b.len) = rw same refl in
    let end_al : (b.first + 2 ^ (wm - b.len)) % 2 ^ (wm - b.len) ≡ 0 = add-mod_right b.first (2 ^ (wm - b.len)) ∙ first_al in
    let low_al : b.first % 2 ^ (wm - (m.len - 1)) ≡ 0 = aligned_smaller b.first wm b.len (m.len - 1) (omega arith) (omega arith) first_al in
    let high_al : (b.first + 2 ^ (wm - b.len)) % 2 ^ (wm - (m.len - 1)) ≡ 0 = aligned_smaller _ wm b.len (m.len - 1) (omega arith) (omega arith) end_al in
    let e_al : (enclosing_of m).first % 2 ^ (wm - (m.len - 1)) ≡ 0 = mul-mod_left (m.first / 2 ^ (wm - (m.len - 1))) (2 ^ (wm - (m.len - 1))) in
    let below : (enclosing_of m).first ≤ m.first = omega (arith, div-add-mod' m.first (2 ^ (wm - (m.len - 1)))) in
    let above : m.first < (enclosing_of m).first + 2 ^ (wm - (m.len - 1)) = lt-div-mul-add some in
    let size_some = pow_pos (wm - m.len) in
    let low : b.first ≤ (enclosing_of m).first = elim (cases_lt (enclosing_of m).first b.first) [
      | inl under ↦ let apart = multiples_apart _ _ _ some e_al low_al under in absurd (omega arith)
      | inr ok ↦ ok
    ] in
    let inner : (enclosing_of m).first < b.first + 2 ^ (wm - b.len) = omega arith in
    let high = multiples_apart (enclosing_of m).first (b.first + 2 ^ (wm - b.len)) (2 ^ (wm - (m.len - 1))) some e_al high_al inner in
    inside_by_ends (enclosing_of m) b h.family low (omega arith)

-- a block of at least another's length that begins in it is inside it
pub inside_by_start : (a b : Cidr) → IsBlock a → IsBlock b → a.family ≡ b.family → b.len ≤ a.len → b.first ≤ a.first → a.first < b.first + size_of b → IsInside a b
inside_by_start a b ha hb same le low high =
    let w_is : width_of a.family ≡ width_of b.family = ap width_of same in
    let short = ha.short in
    let own : (b.first + size_of b) % size_of b ≡ 0 = add-mod_right b.first (size_of b) ∙ hb.aligned in
    let fine : (b.first + size_of b) % 2 ^ (width_of b.family - a.len) ≡ 0 = aligned_smaller _ (width_of b.family) b.len a.len le (omega arith) own in
    let fine_a : (b.first + size_of b) % size_of a ≡ 0 = rw w_is fine in
    inside_by_ends a b same low (multiples_apart a.first (b.first + size_of b) (size_of a) (pow_pos (width_of a.family - a.len)) ha.aligned fine_a high)

-- a block of at least another's length, whose first address is not below the other's, is inside it where it begins in it
pub start_test : (q p : Cidr) (n : ℕ) → IsBlock q → IsBlock p → q.family ≡ p.family → p.len ≤ q.len → p.first ≤ q.first → n ≡ p.first + size_of p - 1 → IsTrue (nat_le q.first n) ↔ IsInside q p
start_test q p n hq hp same le low last =
    let some : 0 < size_of q = pow_pos (width_of q.family - q.len) in
    let some_p : 0 < size_of p = pow_pos (width_of p.family - p.len) in (
      (λ t. let at : q.first ≤ n = grind (arith, nat_tests) in inside_by_start q p hq hp same le low (omega arith)),
      (λ h. let high = (ends_of_inside q p h).1 in let at : q.first ≤ n = omega arith in grind (arith, nat_tests)),
    )

-- no block of a smaller length is inside another
pub not_longer : (q p : Cidr) → IsBlock p → q.len < p.len → IsInside q p → ⊥
not_longer q p hp less h =
    let ends = ends_of_inside q p h in
    let short = hp.short in
    let width_is : width_of q.family ≡ width_of p.family = ap width_of h.family in
    let bigger = pow_below (width_of p.family - p.len) (width_of q.family - q.len) (omega arith) in
    omega arith

-- two blocks with an address in common are one inside the other
pub nested : (a b : Cidr) → IsBlock a → IsBlock b → a.family ≡ b.family → (n : ℕ) → HasAddress a n → HasAddress b n → IsInside a b ⊎ IsInside b a
nested a b ha hb same n in_a in_b = elim (cases_lt a.len b.len) [
  | inr longer ↦ elim (cases_lt a.first b.first) [
    | inr from ↦ inl (inside_by_start a b ha hb same longer from (let l = in_a.0 in let h = in_b.1 in omega arith))
    | inl before ↦
        let w_is : width_of a.family ≡ width_of b.family = ap width_of same in
        let short = ha.short in
        let coarse : b.first % 2 ^ (width_of b.family - a.len) ≡ 0 = aligned_smaller b.first (width_of b.family) b.len a.len longer (omega arith) hb.aligned in
        let fine : b.first % size_of a ≡ 0 = rw w_is coarse in
        let apart = multiples_apart a.first b.first (size_of a) (pow_pos (width_of a.family - a.len)) ha.aligned fine before in
        absurd (let h = in_a.1 in let l = in_b.0 in omega arith)
  ]
  | inl shorter ↦ elim (cases_lt b.first a.first) [
    | inr from ↦ inr (inside_by_start b a hb ha (sym same) (omega arith) from (let l = in_b.0 in let h = in_a.1 in omega arith))
    | inl before ↦
        let w_is : width_of b.family ≡ width_of a.family = ap width_of (sym same) in
        let short = hb.short in
        let coarse : a.first % 2 ^ (width_of a.family - b.len) ≡ 0 = aligned_smaller a.first (width_of a.family) a.len b.len (omega arith) (omega arith) ha.aligned in
        let fine : a.first % size_of b ≡ 0 = rw w_is coarse in
        let apart = multiples_apart b.first a.first (size_of b) (pow_pos (width_of b.family - b.len)) hb.aligned fine before in
        absurd (let h = in_b.1 in let l = in_a.0 in omega arith)
  ]
]
