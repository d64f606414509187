-- A list without the first row of an id, or with another in its place, by the index at which that row was found.
use Rattle.std.proofs.Common.{◌≡◌, ℕ, suc, ◌+◌, ◌<◌, ◌≤◌, ◌==◌, Bool, true, false, not, cond, List, [], ◌∷◌, length, remove, Option, Some, None, refl, ap, sym, subst, arith, ltb, if◌then◌else◌}
use Rattle.std.specs.List.{position, position_or_len, slice_set}
use Rattle.std.proofs.lemmas.Bool.Decides.{nat_tests}
use Rattle.pool_keeper.specs.Stored.{with_changed, without_first}

module _ {T : Type 0} (id : T → ℕ) (n : ℕ) where
  -- the row at this index is the first of the id
  pub record IsFirst (xs : List T) (k : ℕ) : Type 0 where
    pub within : k < length xs
    pub cut : remove xs k ≡ without_first id (Some n) xs
    pub changed : (row : T) → id row ≡ n → slice_set xs k row ≡ with_changed id (Some row) xs

  behind : (x : T) (xs : List T) (k : ℕ) → (id x == n) ≡ false → IsFirst xs k → IsFirst (x ∷ xs) (suc k)
  behind x xs k e h = record { within = (let w = h.within in omega arith); cut = rw e (ap (λ (ys : List T). x ∷ ys) h.cut); changed = λ row own. rw (own, e) (ap (λ (ys : List T). x ∷ ys) (h.changed row own)) }

  first_at : (xs : List T) → position_or_len (λ x. id x == n) xs < length xs → IsFirst xs (position_or_len (λ x. id x == n) xs)
  first_at [] l = absurd (omega arith)
  first_at (x ∷ xs) l = go (id x == n) refl l (first_at xs)
    where
      go : (t : Bool) → (id x == n) ≡ t → cond (not t) (1 + position_or_len (λ y. id y == n) xs) 0 < suc (length xs)
          → (position_or_len (λ y. id y == n) xs < length xs → IsFirst xs (position_or_len (λ y. id y == n) xs)) → IsFirst (x ∷ xs) (cond (not t) (1 + position_or_len (λ y. id y == n) xs) 0)
      go true e l ih = record { within = omega arith; cut = rw e refl; changed = λ row own. rw (own, e) refl }
      go false e l ih = subst (λ (k : ℕ). IsFirst (x ∷ xs) k) (omega arith) (behind x xs (position_or_len (λ y. id y == n) xs) e (ih (omega arith)))

  none_at : (xs : List T) → length xs ≤ position_or_len (λ x. id x == n) xs → xs ≡ without_first id (Some n) xs
  none_at [] l = refl
  none_at (x ∷ xs) l = go (id x == n) refl l (none_at xs)
    where
      go : (t : Bool) → (id x == n) ≡ t → suc (length xs) ≤ cond (not t) (1 + position_or_len (λ y. id y == n) xs) 0
          → (length xs ≤ position_or_len (λ y. id y == n) xs → xs ≡ without_first id (Some n) xs) → x ∷ xs ≡ (if t then xs else x ∷ without_first id (Some n) xs)
      go true e l ih = absurd (omega arith)
      go false e l ih = ap (λ (ys : List T). x ∷ ys) (ih (omega arith))

  found_at : (xs : List T) (k : ℕ) → cond (ltb (position_or_len (λ x. id x == n) xs) (length xs)) (Some (position_or_len (λ x. id x == n) xs)) None ≡ Some k → IsFirst xs k
  found_at xs k e = go (ltb (position_or_len (λ x. id x == n) xs) (length xs)) refl e
    where
      go : (t : Bool) → ltb (position_or_len (λ x. id x == n) xs) (length xs) ≡ t → cond t (Some (position_or_len (λ x. id x == n) xs)) None ≡ Some k → IsFirst xs k
      go true t e = subst (λ (i : ℕ). IsFirst xs i) (let q : position_or_len (λ x. id x == n) xs ≡ k = cc in q) (first_at xs (grind (arith, nat_tests, t)))
      go false t e = cc

  found_none : (xs : List T) → cond {A = Option ℕ} (ltb (position_or_len (λ x. id x == n) xs) (length xs)) (Some (position_or_len (λ x. id x == n) xs)) None ≡ None → xs ≡ without_first id (Some n) xs
  found_none xs e = go (ltb (position_or_len (λ x. id x == n) xs) (length xs)) refl e
    where
      go : (t : Bool) → ltb (position_or_len (λ x. id x == n) xs) (length xs) ≡ t → cond {A = Option ℕ} t (Some (position_or_len (λ x. id x == n) xs)) None ≡ None → xs ≡ without_first id (Some n) xs
      go true t e = cc
      go false t e = none_at xs (grind (arith, nat_tests, t))

  pub is_first : (xs : List T) (k : ℕ) → Some k ≡ position (λ x. id x == n) xs → IsFirst xs k
  is_first xs k e = found_at xs k (sym e)

  pub is_none : (xs : List T) → None ≡ position (λ x. id x == n) xs → xs ≡ without_first id (Some n) xs
  is_none xs e = found_none xs (sym e)

  none_changed : (xs : List T) (row : T) → id row ≡ n → length xs ≤ position_or_len (λ x. id x == n) xs → xs ≡ with_changed id (Some row) xs
  none_changed [] row own l = refl
  none_changed (x ∷ xs) row own l = rw own (go (id x == n) refl l (none_changed xs row own))
    where
      go : (t : Bool) → (id x == n) ≡ t → suc (length xs) ≤ cond (not t) (1 + position_or_len (λ y. id y == n) xs) 0
          → (length xs ≤ position_or_len (λ y. id y == n) xs → xs ≡ with_changed id (Some row) xs) → x ∷ xs ≡ (if t then row ∷ xs else x ∷ with_changed id (Some row) xs)
      go true e l ih = absurd (omega arith)
      go false e l ih = ap (λ (ys : List T). x ∷ ys) (ih (omega arith))

  pub is_none_changed : (xs : List T) (row : T) → id row ≡ n → None ≡ position (λ x. id x == n) xs → xs ≡ with_changed id (Some row) xs
  is_none_changed xs row own e = go (ltb (position_or_len (λ x. id x == n) xs) (length xs)) refl (sym e)
    where
      go : (t : Bool) → ltb (position_or_len (λ x. id x == n) xs) (length xs) ≡ t → cond {A = Option ℕ} t (Some (position_or_len (λ x. id x == n) xs)) None ≡ None → xs ≡ with_changed id (Some row) xs
      go true t e = cc
      go false t e = none_changed xs row own (grind (arith, nat_tests, t))
