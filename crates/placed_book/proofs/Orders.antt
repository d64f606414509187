-- Blocks in any order: what two lists have in common when each block stands equally often in them.
use Rattle.std.proofs.Common.{◌≡◌, ℕ, suc, ◌+◌, ◌<◌, ◌==◌, ◌&&◌, Bool, true, false, cond, List, [], ◌∷◌, map, length, remove, get_or, refl, ap, sym, ◌∙◌, arith, IsPermutation}
use Rattle.std.specs.List.{count_by}
use Rattle.std.proofs.lemmas.Bool.Decides.{nat_tests}
use Rattle.std.proofs.lemmas.List.Sums.{sum_by-cons}
use Rattle.std.proofs.lemmas.List.Sorted.{IsPermutation-refl, IsPermutation-sym, IsPermutation-trans, IsPermutation-cons, IsPermutation-remove, IsPermutation-middle, sum_by-IsPermutation, length_permutation}
use Rattle.inet_num.specs.declared.Family.{Family}
use Rattle.inet_num.specs.declared.Family.TheVariants.{V4, V6}
use Rattle.inet_num.specs.Net.{Cidr}
use Rattle.inet_num.proofs.Numbers.{same_block as one_block}
use Rattle.inet_num.specs.Blocks.{same_family, same_block}

pub both : (a b : Bool) → (a && b) ≡ true → (a ≡ true) × (b ≡ true)
both true b e = (refl, e)
both false b e = cc

pub one_family : (f g : Family) → same_family f g ≡ true → f ≡ g
one_family V4 V4 e = refl
one_family V4 V6 e = cc
one_family V6 V4 e = cc
one_family V6 V6 e = refl

pub same_family-refl : (f : Family) → same_family f f ≡ true
same_family-refl V4 = refl
same_family-refl V6 = refl

pub is_block : (a b : Cidr) → same_block a b ≡ true → a ≡ b
is_block a b e =
    let h = both (same_family a.family b.family && a.first == b.first) (a.len == b.len) e in
    let k = both (same_family a.family b.family) (a.first == b.first) h.0 in
    let first = k.1 in
    let len = h.1 in
    one_block a b (one_family a.family b.family k.0) (grind (arith, nat_tests)) (grind (arith, nat_tests))

pub same_block-refl : (a : Cidr) → same_block a a ≡ true
same_block-refl a =
    let f = same_family-refl a.family in
    let first : (a.first == a.first) ≡ true = grind (arith, nat_tests) in
    let len : (a.len == a.len) ≡ true = grind (arith, nat_tests) in
    rw (f, first, len) refl

module _ {X : Type 0} (p : X → Bool) where
  pub count_yes : (x : X) (xs : List X) → p x ≡ true → count_by p (x ∷ xs) ≡ count_by p xs + 1
  count_yes x xs e = (let n : cond {A = ℕ} (p x) 1 0 ≡ 1 = ap (λ (t : Bool). let k : ℕ = cond t 1 0 in k) e in omega (arith, sum_by-cons (λ y. cond (p y) 1 0) x xs))

  pub count_no : (x : X) (xs : List X) → p x ≡ false → count_by p (x ∷ xs) ≡ count_by p xs
  count_no x xs e = (let n : cond {A = ℕ} (p x) 1 0 ≡ 0 = ap (λ (t : Bool). let k : ℕ = cond t 1 0 in k) e in omega (arith, sum_by-cons (λ y. cond (p y) 1 0) x xs))

  pub count_alike : (xs ys : List X) → IsPermutation xs ys → count_by p xs ≡ count_by p ys
  count_alike xs ys h = sym (sum_by-IsPermutation (λ y. cond (p y) 1 0) xs ys h)

-- what is mapped passes as often as what it comes from
pub count_map : {X Y : Type 0} (f : X → Y) (p : Y → Bool) (xs : List X) → count_by p (map f xs) ≡ count_by (λ x. p (f x)) xs
count_map f p [] = refl
count_map f p (x ∷ xs) = go (p (f x)) refl (count_map f p xs) where
  go : (t : Bool) → p (f x) ≡ t → count_by p (map f xs) ≡ count_by (λ y. p (f y)) xs → count_by p (f x ∷ map f xs) ≡ count_by (λ y. p (f y)) (x ∷ xs)
  go true e ih = count_yes p (f x) (map f xs) e ∙ ap (λ (n : ℕ). n + 1) ih ∙ sym (count_yes (λ y. p (f y)) x xs e)
  go false e ih = count_no p (f x) (map f xs) e ∙ ih ∙ sym (count_no (λ y. p (f y)) x xs e)

-- a block that is counted stands somewhere
stands : (b : Cidr) (xs : List Cidr) → 0 < count_by (same_block b) xs → (i : ℕ) × (i < length xs) × (b ≡ get_or xs i b)
stands b [] h = absurd (omega arith)
stands b (x ∷ xs) h = go (same_block b x) refl (stands b xs) where
  go : (t : Bool) → same_block b x ≡ t → (0 < count_by (same_block b) xs → (i : ℕ) × (i < length xs) × (b ≡ get_or xs i b)) → (i : ℕ) × (i < length (x ∷ xs)) × (b ≡ get_or (x ∷ xs) i b)
  go true e later = (0, omega arith, is_block b x e)
  go false e later = (let n = count_no (same_block b) x xs e in let k = later (omega arith) in (let l = k.1 in (suc k.0, omega arith, k.2)))

by_counts : (xs ys : List Cidr) → ((b : Cidr) → count_by (same_block b) xs ≡ count_by (same_block b) ys) → IsPermutation xs ys
by_counts [] [] h = IsPermutation-refl []
by_counts [] (y ∷ ys) h = (let n = count_yes (same_block y) y ys (same_block-refl y) in let m = h y in absurd (omega arith))
by_counts (x ∷ xs) ys h =
    let one = count_yes (same_block x) x xs (same_block-refl x) in
    let as_many = h x in
    let at = stands x ys (omega arith) in
    let taken = IsPermutation-remove ys at.0 x at.1 at.2 in
    let rest : (b : Cidr) → count_by (same_block b) xs ≡ count_by (same_block b) (remove ys at.0) =
    λ b. (let whole = h b in let parts = count_alike (same_block b) ys (x ∷ remove ys at.0) taken in let s = sum_by-cons (λ y. cond (same_block b y) 1 0) x xs in let t = sum_by-cons (λ y. cond (same_block b y) 1 0) x (remove ys at.0) in omega arith) in
    IsPermutation-trans (x ∷ xs) (x ∷ remove ys at.0) ys (IsPermutation-cons x xs (remove ys at.0) (by_counts xs (remove ys at.0) rest)) (IsPermutation-sym ys (x ∷ remove ys at.0) taken)

-- what two lists have beside one block of both is alike
pub beside : (a : Cidr) (xs ys : List Cidr) → IsPermutation (a ∷ xs) (a ∷ ys) → IsPermutation xs ys
beside a xs ys h = by_counts xs ys (λ b. (let whole = count_alike (same_block b) (a ∷ xs) (a ∷ ys) h in let s = sum_by-cons (λ y. cond (same_block b y) 1 0) a xs in let t = sum_by-cons (λ y. cond (same_block b y) 1 0) a ys in omega arith))

pub swapped : (a b : Cidr) (xs : List Cidr) → IsPermutation (a ∷ b ∷ xs) (b ∷ a ∷ xs)
swapped a b xs = IsPermutation-middle (a ∷ []) b xs

-- nothing is an order of nothing but itself
pub of_nothing : (xs : List Cidr) → IsPermutation xs [] → xs ≡ []
of_nothing [] h = refl
of_nothing (x ∷ xs) h = (let n = length_permutation (x ∷ xs) [] h in absurd (omega arith))
