-- There is one order of some rows in which their numbers rise: any order of them in which no number falls is that one.
use Rattle.std.proofs.Common.{◌≡◌, ◌≢◌, ℕ, ◌+◌, ◌<◌, ◌≤◌, ◌==◌, Bool, true, false, cond, List, [], ◌∷◌, refl, ap, sym, ◌∙◌, arith, ◌⊎◌, inl, inr, Contains, IsPermutation}
use Rattle.std.specs.List.{count_by}
use Rattle.std.proofs.lemmas.List.Sums.{sum_by-cons}
use Rattle.std.proofs.lemmas.List.Sorted.{Contains-permutation, IsPermutation-sym, sum_by-IsPermutation}
use Rattle.ipam_data.specs.RowList.{Rises}
use Rattle.ipam_data.proofs.RowLists.{eq_true, eq_false, contains_cases, contains_head, contains_rest, rises_above}

module _ {X : Type 0} (p : X → Bool) where
  pub count_yes : (x : X) (xs : List X) → p x ≡ true → count_by p (x ∷ xs) ≡ count_by p xs + 1
  count_yes x xs e = (let n : cond {A = ℕ} (p x) 1 0 ≡ 1 = ap (λ (t : Bool). let k : ℕ = cond t 1 0 in k) e in omega (arith, sum_by-cons (λ y. cond (p y) 1 0) x xs))

  pub count_no : (x : X) (xs : List X) → p x ≡ false → count_by p (x ∷ xs) ≡ count_by p xs
  count_no x xs e = (let n : cond {A = ℕ} (p x) 1 0 ≡ 0 = ap (λ (t : Bool). let k : ℕ = cond t 1 0 in k) e in omega (arith, sum_by-cons (λ y. cond (p y) 1 0) x xs))

module _ {T : Type 0} (n : T → ℕ) where
  -- each number is at least the one before it
  abbrev pub Climbs : ℕ → List T → Type 0
  Climbs low [] = Unit {0}
  Climbs low (x ∷ xs) = (low ≤ n x) × Climbs (n x) xs

  -- how many have this number
  abbrev having : ℕ → List T → ℕ
  having k xs = count_by (λ x. n x == k) xs

  climbs_over : (low : ℕ) (xs : List T) (x : T) → Climbs low xs → Contains xs x → low ≤ n x
  climbs_over low [] x r c = let h = c.1 in absurd (omega arith)
  climbs_over low (y ∷ ys) x r c = elim (contains_cases y x ys c) [
    | inl e ↦ (let h = r.0 in let same : n y ≡ n x = ap n e in omega arith)
    | inr d ↦ (let h = r.0 in let later = climbs_over (n y) ys x r.1 d in omega arith)
  ]

  had : (k : ℕ) (xs : List T) (x : T) → Contains xs x → n x ≡ k → 0 < having k xs
  had k [] x c e = let h = c.1 in absurd (omega arith)
  had k (y ∷ ys) x c e = go (n y == k) refl (contains_cases y x ys c) (had k ys x)
    where
      go : (t : Bool) → (n y == k) ≡ t → (y ≡ x) ⊎ Contains ys x → (Contains ys x → n x ≡ k → 0 < having k ys) → 0 < having k (y ∷ ys)
      go true t s ih = let m = count_yes (λ z. n z == k) y ys t in omega arith
      go false t (inl same) ih = (let f : (n y == k) ≡ true = eq_true (n y) k (ap n same ∙ e) in absurd (cc))
      go false t (inr d) ih = (let m = count_no (λ z. n z == k) y ys t in let more = ih d e in omega arith)

  not_had : (k : ℕ) (xs : List T) → ((x : T) → Contains xs x → n x ≢ k) → having k xs ≡ 0
  not_had k [] others = refl
  not_had k (y ∷ ys) others =
      count_no (λ z. n z == k) y ys (eq_false (n y) k (others y (contains_head y ys))) ∙ not_had k ys (λ x c. others x (contains_rest y x ys c))

  -- where the first rows are one, the others stand equally often
  others_alike : (k : ℕ) (x y : T) (xs ys : List T) → n x ≡ n y → having k (x ∷ xs) ≡ having k (y ∷ ys) → having k xs ≡ having k ys
  others_alike k x y xs ys e h = go (n x == k) refl
    where
      go : (t : Bool) → (n x == k) ≡ t → having k xs ≡ having k ys
      go true t =
          let a = count_yes (λ z. n z == k) x xs t in
          let u : (n y == k) ≡ true = ap (λ (m : ℕ). m == k) (sym e) ∙ t in
          let b = count_yes (λ z. n z == k) y ys u in
          omega arith
      go false t =
          let a = count_no (λ z. n z == k) x xs t in
          let u : (n y == k) ≡ false = ap (λ (m : ℕ). m == k) (sym e) ∙ t in
          let b = count_no (λ z. n z == k) y ys u in
          omega arith

  alike : (low least : ℕ) (xs ys : List T) → Rises n low xs → Climbs least ys → ((k : ℕ) → having k xs ≡ having k ys) → ((y : T) → Contains ys y → Contains xs y) → ys ≡ xs
  alike low least [] [] r c h w = refl
  alike low least [] (y ∷ ys) r c h w = (let d = w y (contains_head y ys) in let l = d.1 in absurd (omega arith))
  alike low least (x ∷ xs) [] r c h w = (let a = had (n x) (x ∷ xs) x (contains_head x xs) refl in let b = h (n x) in absurd (omega arith))
  alike low least (x ∷ xs) (y ∷ ys) r c h w = elim (contains_cases x y xs (w y (contains_head y ys))) [
    | inl e ↦ same e (alike (n x) (n y) xs ys r.1 c.1)
    | inr d ↦ absurd (above d)
  ]
    where
      above : Contains xs y → ⊥
      above d =
          let less = rises_above n (n x) xs y r.1 d in
          let a = had (n x) (x ∷ xs) x (contains_head x xs) refl in
          let none = not_had (n x) (y ∷ ys) (λ z z_in. (let more = climbs_over (n y) (y ∷ ys) z (omega arith, c.1) z_in in λ e. omega arith)) in
          let b = h (n x) in
          omega arith

      same : x ≡ y → (((k : ℕ) → having k xs ≡ having k ys) → ((z : T) → Contains ys z → Contains xs z) → ys ≡ xs) → y ∷ ys ≡ x ∷ xs
      same e later = ap (λ (z : T). z ∷ ys) (sym e) ∙ ap (λ (zs : List T). x ∷ zs) (later rest_alike within)
        where
          rest_alike : (k : ℕ) → having k xs ≡ having k ys
          rest_alike k = others_alike k x y xs ys (ap n e) (h k)

          within : (z : T) → Contains ys z → Contains xs z
          within z d = elim (contains_cases x z xs (w z (contains_rest y z ys d))) [
            | inl s ↦ (
                let none = not_had (n x) xs (λ v v_in. (let over = rises_above n (n x) xs v r.1 v_in in λ f. omega arith)) in
                let some = had (n x) ys z d (sym (ap n s)) in
                let b = rest_alike (n x) in
                absurd (omega arith)
                )
            | inr f ↦ f
          ]

  -- of two orders of the same rows, one in which the numbers rise and one in which none falls, the second is the first
  pub one_order : (low least : ℕ) (xs ys : List T) → Rises n low xs → Climbs least ys → IsPermutation xs ys → ys ≡ xs
  one_order low least xs ys r c p =
      alike low least xs ys r c (λ k. sym (sum_by-IsPermutation (λ y. cond (n y == k) 1 0) xs ys p)) (λ y y_in. Contains-permutation ys xs y (IsPermutation-sym xs ys p) y_in)
