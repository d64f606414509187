-- Two lists that have the same beside one block are one up to order.
use Rattle.std.proofs.Common.{◌≡◌, ℕ, suc, ◌+◌, ◌<◌, ◌==◌, ◌&&◌, Bool, true, false, cond, List, [], ◌∷◌, length, remove, get_or, refl, ap, sym, arith, IsPermutation}
use Rattle.std.specs.List.{count_by}
use Rattle.std.proofs.lemmas.Bool.Decides.{nat_tests}
use Rattle.std.proofs.lemmas.List.Sums.{sum_by-cons}
use Rattle.std.proofs.lemmas.List.Sorted.{IsPermutation-refl, IsPermutation-sym, IsPermutation-trans, IsPermutation-cons, IsPermutation-remove, sum_by-IsPermutation}
use Rattle.inet_num.specs.declared.Family.{Family}
use Rattle.inet_num.specs.declared.Family.TheVariants.{V4, V6}
use Rattle.inet_num.specs.Net.{Cidr}
use Rattle.inet_num.proofs.Numbers.{same_block as one_block}

abbrev is_one_family : Family → Family → Bool
is_one_family V4 V4 = true
is_one_family V4 V6 = false
is_one_family V6 V4 = false
is_one_family V6 V6 = true

abbrev is_one : Cidr → Cidr → Bool
is_one a b = is_one_family a.family b.family && a.first == b.first && a.len == b.len

both : (a b : Bool) → (a && b) ≡ true → (a ≡ true) × (b ≡ true)
both true b e = (refl, e)
both false b e = cc

one_family : (f g : Family) → is_one_family f g ≡ true → f ≡ g
one_family V4 V4 e = refl
one_family V4 V6 e = cc
one_family V6 V4 e = cc
one_family V6 V6 e = refl

one_family-refl : (f : Family) → is_one_family f f ≡ true
one_family-refl V4 = refl
one_family-refl V6 = refl

is_one_block : (a b : Cidr) → is_one a b ≡ true → a ≡ b
is_one_block a b e =
    let h = both (is_one_family a.family b.family && a.first == b.first) (a.len == b.len) e in
    let k = both (is_one_family a.family b.family) (a.first == b.first) h.0 in
    let first = k.1 in
    let len = h.1 in
    one_block a b (one_family a.family b.family k.0) (grind (arith, nat_tests)) (grind (arith, nat_tests))

is_one-refl : (a : Cidr) → is_one a a ≡ true
is_one-refl a =
    let f = one_family-refl a.family in
    let first : (a.first == a.first) ≡ true = grind (arith, nat_tests) in
    let len : (a.len == a.len) ≡ true = grind (arith, nat_tests) in
    rw (f, first, len) refl

pub count_yes : (p : Cidr → Bool) (x : Cidr) (xs : List Cidr) → p x ≡ true → count_by p (x ∷ xs) ≡ count_by p xs + 1
count_yes p x xs e = (let n : cond {A = ℕ} (p x) 1 0 ≡ 1 = ap (λ (t : Bool). let k : ℕ = cond t 1 0 in k) e in omega (arith, sum_by-cons (λ y. cond (p y) 1 0) x xs))

count_no : (p : Cidr → Bool) (x : Cidr) (xs : List Cidr) → p x ≡ false → count_by p (x ∷ xs) ≡ count_by p xs
count_no p x xs e = (let n : cond {A = ℕ} (p x) 1 0 ≡ 0 = ap (λ (t : Bool). let k : ℕ = cond t 1 0 in k) e in omega (arith, sum_by-cons (λ y. cond (p y) 1 0) x xs))

pub count_alike : (p : Cidr → Bool) (xs ys : List Cidr) → IsPermutation xs ys → count_by p xs ≡ count_by p ys
count_alike p xs ys h = sym (sum_by-IsPermutation (λ y. cond (p y) 1 0) xs ys h)

stands : (b : Cidr) (xs : List Cidr) → 0 < count_by (is_one b) xs → (i : ℕ) × (i < length xs) × (b ≡ get_or xs i b)
stands b [] h = absurd (omega arith)
stands b (x ∷ xs) h = go (is_one b x) refl (stands b xs) where
  go : (t : Bool) → is_one b x ≡ t → (0 < count_by (is_one b) xs → (i : ℕ) × (i < length xs) × (b ≡ get_or xs i b)) → (i : ℕ) × (i < length (x ∷ xs)) × (b ≡ get_or (x ∷ xs) i b)
  go true e later = (0, omega arith, is_one_block b x e)
  go false e later = (let n = count_no (is_one b) x xs e in let k = later (omega arith) in (let l = k.1 in (suc k.0, omega arith, k.2)))

by_counts : (xs ys : List Cidr) → ((b : Cidr) → count_by (is_one b) xs ≡ count_by (is_one b) ys) → IsPermutation xs ys
by_counts [] [] h = IsPermutation-refl []
by_counts [] (y ∷ ys) h = (let n = count_yes (is_one y) y ys (is_one-refl y) in let m = h y in absurd (omega arith))
by_counts (x ∷ xs) ys h =
    let one = count_yes (is_one x) x xs (is_one-refl x) in
    let as_many = h x in
    let at = stands x ys (omega arith) in
    let taken = IsPermutation-remove ys at.0 x at.1 at.2 in
    let rest : (b : Cidr) → count_by (is_one b) xs ≡ count_by (is_one b) (remove ys at.0) =
    λ b. (let whole = h b in let parts = count_alike (is_one b) ys (x ∷ remove ys at.0) taken in let s = sum_by-cons (λ y. cond (is_one b y) 1 0) x xs in let t = sum_by-cons (λ y. cond (is_one b y) 1 0) x (remove ys at.0) in omega arith) in
    IsPermutation-trans (x ∷ xs) (x ∷ remove ys at.0) ys (IsPermutation-cons x xs (remove ys at.0) (by_counts xs (remove ys at.0) rest)) (IsPermutation-sym ys (x ∷ remove ys at.0) taken)

-- what two lists have beside one block of both is one up to order
pub beside : (a : Cidr) (xs ys : List Cidr) → IsPermutation (a ∷ xs) (a ∷ ys) → IsPermutation xs ys
beside a xs ys h = by_counts xs ys (λ b. (let whole = count_alike (is_one b) (a ∷ xs) (a ∷ ys) h in let s = sum_by-cons (λ y. cond (is_one b y) 1 0) a xs in let t = sum_by-cons (λ y. cond (is_one b y) 1 0) a ys in omega arith))
