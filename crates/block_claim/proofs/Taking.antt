-- Blocks taken out of a space again, in which they stand beside others.
use Rattle.std.proofs.Common.{◌≡◌, ℕ, suc, ◌+◌, ◌<◌, Bool, true, false, List, ◌∷◌, ◌++◌, get_or, length, drop, ap, sym, subst, ◌∙◌, arith, IsPermutation, MatchBool}
use Rattle.std.proofs.Math.Seq.{drop-cons}
use Rattle.std.proofs.lemmas.Bool.Decides.{nat_tests}
use Rattle.std.proofs.lemmas.List.Sorted.{IsPermutation-trans}
use Rattle.inet_num.specs.Net.{Cidr}
use Rattle.block_space.specs.Listed.{is_same, times_of}
use Rattle.block_space.proofs.Beside.{beside, count_yes, count_alike}

-- a block that stands in a list beside others stands there
there : (b : Cidr) (xs held : List Cidr) → IsPermutation (b ∷ xs) held → 0 < times_of held b
there b xs held h =
    let same : is_same b b ≡ true = grind (arith, nat_tests) in
    let more = count_yes (is_same b) b xs same in
    let alike = count_alike (is_same b) (b ∷ xs) held h in
    omega arith

-- so it is taken out of it, and the others are left
pub taken_out : (b : Cidr) (xs held new : List Cidr) (r : Bool) → IsPermutation (b ∷ xs) held → MatchBool r (IsPermutation held (b ∷ new)) (new ≡ held) → MatchBool r (0 < times_of held b) (times_of held b ≡ 0) → IsPermutation xs new
taken_out b xs held new true h t k = beside b xs new (IsPermutation-trans (b ∷ xs) held (b ∷ new) h t)
taken_out b xs held new false h t k = (let some = there b xs held h in absurd (omega (arith, k)))

-- one more of a list of blocks
pub take_next : (blocks held new : List Cidr) (i : ℕ) (b : Cidr) (r : Bool) → i < length blocks → b ≡ get_or blocks i b
    → MatchBool r (IsPermutation held (b ∷ new)) (new ≡ held) → MatchBool r (0 < times_of held b) (times_of held b ≡ 0)
    → (base : List Cidr) → IsPermutation (drop i blocks ++ base) held → IsPermutation (drop (i + 1) blocks ++ base) new
take_next blocks held new i b r l is t k base h =
    let cut : drop i blocks ≡ b ∷ drop (i + 1) blocks = drop_at i l is in
    taken_out b (drop (i + 1) blocks ++ base) held new r (subst (λ (xs : List Cidr). IsPermutation (xs ++ base) held) cut h) t k
  where
    drop_at : (i : ℕ) → i < length blocks → b ≡ get_or blocks i b → drop i blocks ≡ b ∷ drop (i + 1) blocks
    drop_at i l is = (let n : i + 1 ≡ suc i = omega arith in rw n (drop-cons blocks i b l ∙ ap (λ (x : Cidr). x ∷ drop (suc i) blocks) (sym is)))
