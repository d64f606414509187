-- The length of the block is one that fits, and the greatest such.
use Rattle.std.proofs.Common.{◌≡◌, ℕ, zero, suc, ◌-◌, ◌*◌, ◌^◌, ◌≤◌, nat_le, Bool, true, false, refl, subst, arith, if◌then◌else◌}
use Rattle.std.proofs.lemmas.Bool.Decides.{nat_tests}
use Rattle.std.proofs.Math.Pow.{pow_mono}
use Rattle.command_load.specs.LoadText.{longest, load_len}
use Rattle.command_load.specs.Room.{LoadHasRoom}

fits : (claims len : ℕ) → 4 * claims ≤ 2 ^ 32 → 4 * claims ≤ 2 ^ (32 - longest claims len)
unfolding longest
fits claims zero big = big
fits claims (suc len) big = go (nat_le (4 * claims) (2 ^ (32 - suc len))) refl (fits claims len big) where
  go : (t : Bool) → nat_le (4 * claims) (2 ^ (32 - suc len)) ≡ t → 4 * claims ≤ 2 ^ (32 - longest claims len) → 4 * claims ≤ 2 ^ (32 - (if t then suc len else longest claims len))
  go true e ih = grind (arith, nat_tests, e)
  go false e ih = ih

greatest : (claims len m : ℕ) → m ≤ len → 4 * claims ≤ 2 ^ (32 - m) → m ≤ longest claims len
unfolding longest
greatest claims zero m h enough = h
greatest claims (suc len) m h enough = go (nat_le (4 * claims) (2 ^ (32 - suc len))) refl (λ l. greatest claims len m l enough) where
  go : (t : Bool) → nat_le (4 * claims) (2 ^ (32 - suc len)) ≡ t → (m ≤ len → m ≤ longest claims len) → m ≤ (if t then suc len else longest claims len)
  go true e ih = h
  go false e ih = less (nat_le m len) refl
    where
      less : (u : Bool) → nat_le m len ≡ u → m ≤ longest claims len
      less true f = ih (grind (arith, nat_tests, f))
      less false f =
          let is : m ≡ suc len = grind (arith, nat_tests, f) in
          let wide : 4 * claims ≤ 2 ^ (32 - suc len) = subst (λ (k : ℕ). 4 * claims ≤ 2 ^ (32 - k)) is enough in
          absurd (grind (arith, nat_tests, e, wide))

-- a length above 30 has two addresses at most
short : (len : ℕ) → 4 ≤ 2 ^ (32 - len) → len ≤ 30
short len wide = go (nat_le len 30) refl where
  go : (t : Bool) → nat_le len 30 ≡ t → len ≤ 30
  go true e = grind (arith, nat_tests, e)
  go false e =
      let long : 31 ≤ len = grind (arith, nat_tests, e) in
      let few : 2 ^ (32 - len) ≤ 2 ^ 1 = pow_mono {i = 32 - len} {j = 1} (omega arith) in
      absurd (omega arith)

pub room : LoadHasRoom
room claims some few =
    let wide = fits claims 32 (omega arith) in
    let low : 13 ≤ load_len claims = greatest claims 32 13 (omega arith) (omega arith) in
    record { low = omega arith; high = short (load_len claims) (omega arith); block = omega arith; limit = omega arith }
