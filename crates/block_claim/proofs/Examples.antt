-- Worked examples of what a claim is answered with.
use Rattle.std.proofs.Common.{◌≡◌, ℕ, [], ◌∷◌, refl, lit<, lit≤, false, length}
use Rattle.inet_num.specs.declared.Family.TheVariants.{V4}
use Rattle.inet_num.specs.Net.{Cidr}
use Rattle.inet_num.specs.Count.{numbers_from, addresses_of}
use Rattle.block_space.specs.Fit.{first_fit_of, fits_of}
use Rattle.block_space.specs.Usable.{usable_of, addressed}
use Rattle.block_claim.specs.declared.fault.ClaimFault.TheVariants.{NoSpace}
use Rattle.block_claim.specs.Claims.{IsShort, IsServed}

v4 : ℕ → ℕ → Cidr
v4 first len = record { family = V4; first = first; len = len }

-- a claim of two /29 in 0.0.0.16/28 beside 0.0.0.16/32: the first gets 0.0.0.24/29, and the second, item 1, gets none
one_fits : fits_of (v4 16 28) (v4 16 32 ∷ []) (29 ∷ 29 ∷ []) ≡ v4 24 29 ∷ []
unfolding fits_of first_fit_of addresses_of numbers_from v4
one_fits = refl

one_of_two : IsShort 2 (length (fits_of (v4 16 28) (v4 16 32 ∷ []) (29 ∷ 29 ∷ []))) (NoSpace 1)
unfolding fits_of first_fit_of addresses_of numbers_from v4
one_of_two = (refl, lit< tt)

-- a /30 and a /29 are served beside it: 0.0.0.20/30, and then 0.0.0.24/29
both_fit : fits_of (v4 16 28) (v4 16 32 ∷ []) (30 ∷ 29 ∷ []) ≡ v4 20 30 ∷ v4 24 29 ∷ []
unfolding fits_of first_fit_of addresses_of numbers_from v4
both_fit = refl

-- two addresses of 192.0.2.0/30 are .1 and .2; of three, item 2 gets none
two_served : IsServed 2 (addressed V4 (usable_of (λ _. false) (λ _. false) (v4 3221225984 30) false)) (addressed V4 (3221225985 ∷ 3221225986 ∷ []))
unfolding usable_of addresses_of numbers_from v4
two_served = record { least = refl; enough = lit≤ tt }

third_is_short : IsShort 3 (length (usable_of (λ _. false) (λ _. false) (v4 3221225984 30) false)) (NoSpace 2)
unfolding usable_of addresses_of numbers_from v4
third_is_short = (refl, lit< tt)
