-- Shares of what is left.
use Rattle.std.proofs.Common.{◌≡◌, ◌+◌, ◌≤◌, ◌⊎◌, inl, inr, ℕ, zero, suc, sym, subst, arith}
use Rattle.std.specs.Int.{div_ceil}
use Rattle.std.proofs.lemmas.Grind.{div_ceil_times}
use Rattle.std.proofs.lemmas.Nat.{mul-le}
use Rattle.std.proofs.Math.Nat.{le-mul_of_pos_right}

le_or_more : (a q : ℕ) → (q ≤ a) ⊎ (a + 1 ≤ q)
le_or_more zero zero = inl (omega arith)
le_or_more zero (suc q) = inr (omega arith)
le_or_more (suc a) zero = inl (omega arith)
le_or_more (suc a) (suc q) = elim (le_or_more a q) [ inl e ↦ inl (omega arith) | inr e ↦ inr (omega arith) ]

-- a share is no more than what is left
pub share_low : (a b : ℕ) → 1 ≤ b → div_ceil a b ≤ a
share_low a b low =
    let times = div_ceil_times a b low in
    let above = times.1 in
    elim (le_or_more a (div_ceil a b)) [
      | inl le ↦ le
      | inr more ↦
          (let rows = mul-le (a + 1) b (div_ceil a b) b more (omega arith) in
          let wide = le-mul_of_pos_right a low in
          absurd (omega arith))
    ]

-- that of the last one is all of it
pub share_last : (a b : ℕ) → b ≡ 1 → div_ceil a b ≡ a
share_last a b one = subst (λ (n : ℕ). div_ceil a n ≡ a) (sym one) (omega arith)
