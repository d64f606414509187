use Rattle.std.proofs.Common.{◌≡◌, ℕ, ◌-◌, ◌^◌, ◌<◌, ◌≤◌, ap, arith, inl, inr}
use Rattle.std.proofs.lemmas.Bool.{cases_lt}
use Rattle.std.proofs.lemmas.Nat.{pow_below}
use Rattle.inet_num.specs.Net.{width_of, Address, Cidr, block_at, last_of}
use Rattle.inet_num.proofs.Aligned.{aligned_smaller}
use Rattle.span_set.specs.Blocks.{FitsAt}

pub pow_up : (i j : ℕ) → i ≤ j → 2 ^ i ≤ 2 ^ j
pow_up i j h = elim (cases_lt i j) [
  | inl less ↦ (let b = pow_below i j less in omega arith)
  | inr ge ↦ (let e : 2 ^ i ≡ 2 ^ j = ap (λ k. 2 ^ k) (let e : i ≡ j = omega arith in e) in omega arith)
]

-- where a block fits, a longer length does
pub fits_longer : (a : Address) (last l m : ℕ) → FitsAt a last l → l ≤ m → m ≤ width_of a.family → FitsAt a last m
fits_longer a last l m h le short = record {
  lawful = record { short = short; aligned = aligned_smaller a.value (width_of a.family) l m le short h.lawful.aligned; in_range = h.lawful.in_range };
  within = (let smaller = pow_up (width_of a.family - m) (width_of a.family - l) (omega arith) in let w = h.within in omega arith);
}

-- where the next length does not fit, none that is smaller does
pub least_here : (a : Address) (last len : ℕ) → 0 < len → len ≤ width_of a.family → ¬ FitsAt a last (len - 1) → (l : ℕ) → FitsAt a last l → len ≤ l
least_here a last len some short refused l h = elim (cases_lt l len) [
  | inl less ↦ absurd (refused (fits_longer a last l (len - 1) h (omega arith) (omega arith)))
  | inr ge ↦ ge
]

-- a block that ends behind the last number does not fit
pub too_long : (a : Address) (last len : ℕ) (wider : Cidr) (end : ℕ) → wider ≡ block_at a len → end ≡ (last_of wider).value → last < end → ¬ FitsAt a last len
too_long a last len wider end is end_is more h =
    let there : (last_of wider).value ≡ (last_of (block_at a len)).value = ap (λ (b : Cidr). (last_of b).value) is in
    let w = h.within in
    omega arith
