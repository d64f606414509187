use Rattle.std.proofs.Common.{◌≡◌, ℕ, zero, suc, ◌+◌, ◌-◌, ◌≤◌, min, max, refl, ◌∙◌, ap, arith, Bool, false, ◌&&◌, ◌||◌, nat_le, nat_lt, List, [], ◌∷◌, ◌++◌, cond, zero-add, add-zero}
use Rattle.std.specs.List.{count_by}
use Rattle.std.proofs.lemmas.Bool.Decides.{nat_tests}
use Rattle.std.proofs.lemmas.List.Sums.{sum_by-cons}
use Rattle.inet_num.specs.Net.{Cidr, size_of}
use Rattle.inet_num.specs.Count.{numbers_from, addresses_of, count_of}
use Rattle.inet_num.specs.Free.{has_address}

-- one more address
pub count-cons : (p : ℕ → Bool) (x : ℕ) (xs : List ℕ) → count_by p (x ∷ xs) ≡ cond (p x) 1 0 + count_by p xs
count-cons p x xs = sum_by-cons (λ y. cond (p y) 1 0) x xs

-- how many numbers_from of a range lie between
pub count_between : (lo hi a n : ℕ) → count_by (λ x. nat_le lo x && nat_lt x hi) (numbers_from a n) ≡ min (a + n) hi - max a lo
unfolding numbers_from
count_between lo hi a zero = omega arith
count_between lo hi a (suc n) =
    let rest = count_between lo hi (a + 1) n in
    count-cons (λ x. nat_le lo x && nat_lt x hi) a (numbers_from (a + 1) n) ∙ grind (arith, nat_tests, rest)

-- tests that exclude one another add up
pub count_either : (p q : ℕ → Bool) (xs : List ℕ) → ((x : ℕ) → (p x && q x) ≡ false) → count_by (λ x. p x || q x) xs ≡ count_by p xs + count_by q xs
count_either p q [] apart = refl
count_either p q (x ∷ xs) apart =
    let rest = count_either p q xs apart in
    let here = apart x in
    rw (count-cons (λ x. p x || q x) x xs, count-cons p x xs, count-cons q x xs) (grind (arith, rest, here))

-- a range goes on
pub numbers_from-append : (a m n : ℕ) → numbers_from a (m + n) ≡ numbers_from a m ++ numbers_from (a + m) n
unfolding numbers_from
numbers_from-append a zero n = rw (zero-add, add-zero) refl
numbers_from-append a (suc m) n =
    let e : suc m + n ≡ suc (m + n) = omega arith in
    let f : (a + 1) + m ≡ a + suc m = omega arith in
    rw e (ap (λ (zs : List ℕ). a ∷ zs) (numbers_from-append (a + 1) m n ∙ ap (λ (k : ℕ). numbers_from (a + 1) m ++ numbers_from k n) f))

-- a block inside has_address its whole size
pub count_of_inside : (b c : Cidr) → b.first ≤ c.first → c.first + size_of c ≤ b.first + size_of b → count_of (has_address c) b ≡ size_of c
unfolding addresses_of
count_of_inside b c low high = count_between c.first (c.first + size_of c) b.first (size_of b) ∙ omega arith
