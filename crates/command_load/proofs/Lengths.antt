-- The length of the block for so many claims: it is the greatest that is long enough, and it leaves room for all claims.
use Rattle.std.proofs.Common.{◌≡◌, ℕ, zero, suc, ◌+◌, ◌-◌, ◌*◌, ◌^◌, ◌%◌, ◌<◌, ◌≤◌, nat_le, Bool, true, false, refl, ap, ◌∙◌, arith, if◌then◌else◌}
use Rattle.std.proofs.lemmas.Bool.Decides.{nat_tests}
use Rattle.std.proofs.Math.Pow.{pow_mono}
use Rattle.std.proofs.Math.Nat.{mod-eq_of_lt}
use Rattle.command_load.specs.LoadText.{longest, load_len}

-- one length more
pub longest-step : (claims len : ℕ) → 1 ≤ len → 2 ^ (32 - len) < 4 * claims → longest claims len ≡ longest claims (len - 1)
unfolding longest
longest-step claims zero some short = cc
longest-step claims (suc len) some short =
    let less : suc len - 1 ≡ len = omega arith in
    let e : nat_le (4 * claims) (2 ^ (32 - suc len)) ≡ false = grind (arith, nat_tests) in rw (e, less) refl

pub longest-found : (claims len : ℕ) → 1 ≤ len → 4 * claims ≤ 2 ^ (32 - len) → longest claims len ≡ len
unfolding longest
longest-found claims zero some enough = cc
longest-found claims (suc len) some enough =
    let e : nat_le (4 * claims) (2 ^ (32 - suc len)) ≡ true = grind (arith, nat_tests) in rw e refl

pub longest-none : (claims len : ℕ) → len ≤ 0 → len ≡ longest claims len
unfolding longest
longest-none claims zero none = refl
longest-none claims (suc len) none = (let wrong : suc len ≡ 0 = omega arith in cc)

-- a size as a machine has it
pub shifted : (len : ℕ) → (1 * 2 ^ (32 - len)) % 18446744073709551616 ≡ 2 ^ (32 - len)
shifted len =
    let few : 2 ^ (32 - len) ≤ 2 ^ 32 = pow_mono {i = 32 - len} {j = 32} (omega arith) in
    let one : 1 * 2 ^ (32 - len) ≡ 2 ^ (32 - len) = omega arith in
    ap (λ (n : ℕ). n % 18446744073709551616) one ∙ mod-eq_of_lt (omega arith)
