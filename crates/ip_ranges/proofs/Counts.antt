-- How many of a list pass a test; two lists of which each test passes as many are one up to order.
use Rattle.std.proofs.Common.{◌≡◌, ℕ, zero, suc, ◌+◌, ◌<◌, ◌≤◌, ◌&&◌, Bool, true, false, cond, List, [], ◌∷◌, length, map, filter, take, get_or, remove, refl, ap, ◌∙◌, arith, Contains, find, None, Some, IsPermutation}
use Rattle.std.specs.List.{count_by}
use Rattle.std.proofs.lemmas.List.{get_or-take, length-take}
use Rattle.std.proofs.lemmas.List.Sums.{sum_by-cons}
use Rattle.std.proofs.lemmas.List.Sorted.{IsPermutation-refl, IsPermutation-sym, IsPermutation-trans, IsPermutation-cons, IsPermutation-remove, sum_by-IsPermutation}
use Rattle.ipam_data.proofs.RowLists.{contains_head, contains_rest}
use Rattle.ip_ranges.specs.Tracks.{one}

module _ {T : Type 0} where
  pub count_cons : (t : T → Bool) (x : T) (xs : List T) → count_by t (x ∷ xs) ≡ one (t x) + count_by t xs
  count_cons t x xs = sum_by-cons (λ y. cond (t y) 1 0) x xs

  pub count_yes : (t : T → Bool) (x : T) (xs : List T) → t x ≡ true → count_by t (x ∷ xs) ≡ count_by t xs + 1
  count_yes t x xs e = let a = count_cons t x xs in let b : one (t x) ≡ 1 = ap one e in omega arith

  pub count_no : (t : T → Bool) (x : T) (xs : List T) → t x ≡ false → count_by t (x ∷ xs) ≡ count_by t xs
  count_no t x xs e = let a = count_cons t x xs in let b : one (t x) ≡ 0 = ap one e in omega arith

  pub count_same : (t u : T → Bool) → ((x : T) → t x ≡ u x) → (xs : List T) → count_by t xs ≡ count_by u xs
  count_same t u h [] = refl
  count_same t u h (x ∷ xs) =
      let ih = count_same t u h xs in
      let a = count_cons t x xs in
      let b = count_cons u x xs in
      let e : one (t x) ≡ one (u x) = ap one (h x) in
      omega arith

  -- where none passes
  pub count_none : (t : T → Bool) (xs : List T) → ((k : ℕ) (d : T) → k < length xs → t (get_or xs k d) ≡ false) → count_by t xs ≡ 0
  count_none t [] h = refl
  count_none t (x ∷ xs) h =
      let ih = count_none t xs (λ k d l. h (suc k) d (omega arith)) in
      let e = count_no t x xs (h 0 x (omega arith)) in
      omega arith

  pub count_none_before : (t : T → Bool) (xs : List T) (i : ℕ) → i ≤ length xs → ((k : ℕ) (d : T) → k < i → t (get_or xs k d) ≡ false) → count_by t (take i xs) ≡ 0
  count_none_before t xs i s h = count_none t (take i xs) (λ k d l. (
      let n = length-take i xs in
      let less : k < i = omega arith in
      ap t (get_or-take i xs k d less) ∙ h k d less
      ))

  pub none_contained : (t : T → Bool) (xs : List T) → ((y : T) → Contains xs y → t y ≡ false) → count_by t xs ≡ 0
  none_contained t [] h = refl
  none_contained t (x ∷ xs) h =
      let ih = none_contained t xs (λ y c. h y (contains_rest x y xs c)) in
      let e = count_no t x xs (h x (contains_head x xs)) in
      omega arith

  -- and each element fails, where none is counted
  pub none_counted : (t : T → Bool) (xs : List T) (k : ℕ) (d : T) → count_by t xs ≡ 0 → k < length xs → t (get_or xs k d) ≡ false
  none_counted t [] k d e l = absurd (omega arith)
  none_counted t (x ∷ xs) zero d e l = go (t x) refl where
    go : (s : Bool) → t x ≡ s → t x ≡ false
    go true s = let a = count_yes t x xs s in absurd (omega arith)
    go false s = s
  none_counted t (x ∷ xs) (suc k) d e l = (let a = count_cons t x xs in none_counted t xs k d (omega arith) (omega arith))

  -- nor is one found
  pub none_found : (q t : T → Bool) → ((x : T) → q x ≡ true → t x ≡ true) → (xs : List T) → count_by t xs ≡ 0 → find q xs ≡ None
  none_found q t h [] e = refl
  none_found q t h (x ∷ xs) e = go (q x) refl (none_found q t h xs) where
    go : (s : Bool) → q x ≡ s → (count_by t xs ≡ 0 → find q xs ≡ None) → cond s (Some x) (find q xs) ≡ None
    go true s ih = let a = count_yes t x xs (h x s) in absurd (omega arith)
    go false s ih = let a = count_cons t x xs in ih (omega arith)

  pub count_picked : {U : Type 0} (f : T → U) (q : T → Bool) (p : U → Bool) (xs : List T) → count_by p (map f (filter q xs)) ≡ count_by (λ x. q x && p (f x)) xs
  count_picked f q p [] = refl
  count_picked {U} f q p (x ∷ xs) = go (q x) refl (count_picked f q p xs) where
    go : (s : Bool) → q x ≡ s → count_by p (map f (filter q xs)) ≡ count_by (λ y. q y && p (f y)) xs
        → count_by p (map f (cond s (x ∷ filter q xs) (filter q xs))) ≡ count_by (λ y. q y && p (f y)) (x ∷ xs)
    go true s ih =
        let a = count_cons (λ y. q y && p (f y)) x xs in
        let e : one (q x && p (f x)) ≡ one (p (f x)) = ap (λ (b : Bool). one (b && p (f x))) s in
        let b : count_by p (f x ∷ map f (filter q xs)) ≡ one (p (f x)) + count_by p (map f (filter q xs)) = sum_by-cons (λ y. cond (p y) 1 0) (f x) (map f (filter q xs)) in
        omega arith
    go false s ih =
        let a = count_cons (λ y. q y && p (f y)) x xs in
        let e : one (q x && p (f x)) ≡ 0 = ap (λ (b : Bool). one (b && p (f x))) s in
        omega arith

-- for elements of which a test tells which are one
module _ {T : Type 0} (same : T → T → Bool) (sound : (a b : T) → same a b ≡ true → a ≡ b) (itself : (a : T) → same a a ≡ true) where
  stands : (b : T) (xs : List T) → 0 < count_by (same b) xs → (i : ℕ) × (i < length xs) × (b ≡ get_or xs i b)
  stands b [] h = absurd (omega arith)
  stands b (x ∷ xs) h = go (same b x) refl (stands b xs) where
    go : (t : Bool) → same b x ≡ t → (0 < count_by (same b) xs → (i : ℕ) × (i < length xs) × (b ≡ get_or xs i b)) → (i : ℕ) × (i < length (x ∷ xs)) × (b ≡ get_or (x ∷ xs) i b)
    go true e later = (0, omega arith, sound b x e)
    go false e later = (let n = count_no (same b) x xs e in let k = later (omega arith) in (let l = k.1 in (suc k.0, omega arith, k.2)))

  pub by_counts : (xs ys : List T) → ((p : T → Bool) → count_by p xs ≡ count_by p ys) → IsPermutation xs ys
  by_counts [] [] h = IsPermutation-refl []
  by_counts [] (y ∷ ys) h = (let n = count_yes (same y) y ys (itself y) in let m = h (same y) in absurd (omega arith))
  by_counts (x ∷ xs) ys h =
      let once = count_yes (same x) x xs (itself x) in
      let as_many = h (same x) in
      let at = stands x ys (omega arith) in
      let taken = IsPermutation-remove ys at.0 x at.1 at.2 in
      let rest : (p : T → Bool) → count_by p xs ≡ count_by p (remove ys at.0) =
      λ p. (let whole = h p in let parts = sum_by-IsPermutation (λ y. cond (p y) 1 0) ys (x ∷ remove ys at.0) taken in let s = count_cons p x xs in let t = count_cons p x (remove ys at.0) in omega arith) in
      IsPermutation-trans (x ∷ xs) (x ∷ remove ys at.0) ys (IsPermutation-cons x xs (remove ys at.0) (by_counts xs (remove ys at.0) rest)) (IsPermutation-sym ys (x ∷ remove ys at.0) taken)
