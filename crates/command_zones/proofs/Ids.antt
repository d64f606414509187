-- Ids that rise: among the rows that pass a test each id stands once, in whatever order the rows are put.
use Rattle.std.proofs.Common.{◌≡◌, ◌≢◌, ℕ, ◌+◌, ◌≤◌, ◌==◌, Bool, true, false, cond, List, [], ◌∷◌, refl, ap, sym, arith}
use Rattle.std.specs.List.{filter, count_by}
use Rattle.std.proofs.lemmas.Bool.Decides.{nat_tests}
use Rattle.std.proofs.lemmas.List.Sums.{sum_by-cons}
use Rattle.ipam_data.specs.RowList.{Rises}
use Rattle.ipam_data.proofs.RowLists.{eq_true, eq_false}

module _ {T : Type 0} (id : T → ℕ) where
  rises_lower : (low more : ℕ) (xs : List T) → low ≤ more → Rises id more xs → Rises id low xs
  rises_lower low more [] le r = tt
  rises_lower low more (x ∷ xs) le r = let h = r.0 in (omega arith, r.1)

  pub rises_filtered : (p : T → Bool) (low : ℕ) (xs : List T) → Rises id low xs → Rises id low (filter p xs)
  rises_filtered p low [] r = tt
  rises_filtered p low (x ∷ xs) r = go (p x) (rises_filtered p (id x) xs r.1)
    where
      go : (t : Bool) → Rises id (id x) (filter p xs) → Rises id low (cond t (x ∷ filter p xs) (filter p xs))
      go true ih = (r.0, ih)
      go false ih = (let h = r.0 in rises_lower low (id x) (filter p xs) (omega arith) ih)

  -- how many have this id
  abbrev pub having : ℕ → List T → ℕ
  having n xs = count_by (λ x. id x == n) xs

  having_yes : (n : ℕ) (x : T) (xs : List T) → (id x == n) ≡ true → having n (x ∷ xs) ≡ having n xs + 1
  having_yes n x xs e =
      (let k : cond {A = ℕ} (id x == n) 1 0 ≡ 1 =
      ap (λ (t : Bool). let m : ℕ = cond t 1 0 in m) e in omega (arith, sum_by-cons (λ y. cond (id y == n) 1 0) x xs))

  having_no : (n : ℕ) (x : T) (xs : List T) → (id x == n) ≡ false → having n (x ∷ xs) ≡ having n xs
  having_no n x xs e = (let k : cond {A = ℕ} (id x == n) 1 0 ≡ 0 =
      ap (λ (t : Bool). let m : ℕ = cond t 1 0 in m) e in omega (arith, sum_by-cons (λ y. cond (id y == n) 1 0) x xs))

  having_none : (n low : ℕ) (xs : List T) → Rises id low xs → n ≤ low → having n xs ≡ 0
  having_none n low [] r le = refl
  having_none n low (x ∷ xs) r le =
      let h = r.0 in
      let other : (id x == n) ≡ false = eq_false (id x) n (omega arith) in
      let less : n ≤ id x = omega arith in
      let rest = having_none n (id x) xs r.1 less in
      let one = having_no n x xs other in
      omega arith

  pub having_one : (n low : ℕ) (xs : List T) → Rises id low xs → having n xs ≤ 1
  having_one n low [] r = omega arith
  having_one n low (x ∷ xs) r = go (id x == n) refl (having_one n (id x) xs r.1)
    where
      go : (t : Bool) → (id x == n) ≡ t → having n xs ≤ 1 → having n (x ∷ xs) ≤ 1
      go true t ih =
          let same : id x ≡ n = grind (arith, nat_tests, t) in
          let low : n ≤ id x = omega arith in
          let none = having_none n (id x) xs r.1 low in
          let one = having_yes n x xs t in
          omega arith
      go false t ih = let one = having_no n x xs t in omega arith

  pub having_rest : (n : ℕ) (x : T) (xs : List T) → having n (x ∷ xs) ≤ 1 → having n xs ≤ 1
  having_rest n x xs h = go (id x == n) refl
    where
      go : (t : Bool) → (id x == n) ≡ t → having n xs ≤ 1
      go true t = let one = having_yes n x xs t in omega arith
      go false t = let one = having_no n x xs t in omega arith

  -- two rows that stand one behind the other have two ids
  pub apart : (x y : T) (ys : List T) → having (id x) (x ∷ y ∷ ys) ≤ 1 → id x ≢ id y
  apart x y ys h = λ e.
      let one = having_yes (id x) x (y ∷ ys) (eq_true (id x) (id x) refl) in
      let two = having_yes (id x) y ys (eq_true (id y) (id x) (sym e)) in
      omega arith
