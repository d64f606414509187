-- How often a list has a block that was put in front of another.
use Rattle.std.proofs.Common.{◌≡◌, ℕ, ◌+◌, ◌<◌, ◌≤◌, Bool, true, false, length, refl, ap, arith, List, ◌∷◌}
use Rattle.std.specs.Prelude.{cond, IsPermutation, MatchBool}
use Rattle.std.proofs.lemmas.Bool.Decides.{nat_tests}
use Rattle.std.proofs.lemmas.List.Sorted.{sum_by_popped, length_permutation}
use Rattle.inet_num.specs.Net.{Cidr}
use Rattle.block_space.specs.Listed.{is_same, times_of}

-- 1 for the block, and 0 for another
abbrev pub one_if : Cidr → Cidr → ℕ
one_if block b = cond (is_same block b) 1 0

pub same_true : (a b : Cidr) → a ≡ b → is_same a b ≡ true
same_true a b e = let f : a.first ≡ b.first = ap (λ (x : Cidr). x.first) e in let l : a.len ≡ b.len = ap (λ (x : Cidr). x.len) e in grind (arith, nat_tests)

-- a list has a block that, taken away, leaves the rest
pub has_copy : (block : Cidr) (xs ys : List Cidr) → IsPermutation xs (block ∷ ys) → 0 < times_of xs block
has_copy block xs ys h =
    let all = sum_by_popped (one_if block) block xs ys h in
    let one : one_if block block ≡ 1 = ap (λ (t : Bool). cond t 1 0) (same_true block block refl) in
    omega (arith, all, one)

-- a block taken out or none: the list is no longer than before
pub no_longer : (done : Bool) (block : Cidr) (xs ys : List Cidr) → MatchBool done (IsPermutation xs (block ∷ ys)) (ys ≡ xs) → length ys ≤ length xs + 1
no_longer true block xs ys h = omega (arith, length_permutation xs (block ∷ ys) h)
no_longer false block xs ys h = omega (arith, ap (λ (zs : List Cidr). length zs) h)
