-- What holds of tables in memory: rows of any kind, under the function that gives their ids.
use Rattle.std.proofs.Common.{◌≡◌, ◌≢◌, ℕ, zero, suc, ◌+◌, ◌<◌, ◌≤◌, ◌==◌, Bool, true, false, cond, List, [], ◌∷◌, ◌++◌, length, Some, None, find, get_or, refl, ap, sym, ◌∙◌, arith, if◌then◌else◌, IsSome, ◌⊎◌, inl, inr, Contains}
use Rattle.std.proofs.lemmas.Bool.Decides.{nat_tests}
use Rattle.ipam_data.specs.RowList.{RowList, IsRowList, row_at, with_row, appended, Rises, AllBelow, last_next}

pub eq_true : (a b : ℕ) → a ≡ b → (a == b) ≡ true
eq_true a b h = grind (arith, nat_tests)

pub eq_false : (a b : ℕ) → a ≢ b → (a == b) ≡ false
eq_false a b h = grind (arith, nat_tests)

module _ {T : Type 0} where
  -- a list of one more contains its head, and what its rest contains
  pub contains_cases : (x y : T) (xs : List T) → Contains (x ∷ xs) y → (x ≡ y) ⊎ Contains xs y
  contains_cases x y xs c = go c.0 c.1 c.2
    where
      go : (k : ℕ) → k < length (x ∷ xs) → get_or (x ∷ xs) k y ≡ y → (x ≡ y) ⊎ Contains xs y
      go zero h e = inl e
      go (suc k) h e = inr (k, omega arith, e)

  pub contains_head : (x : T) (xs : List T) → Contains (x ∷ xs) x
  contains_head x xs = (0, omega arith, refl)

  pub contains_rest : (x y : T) (xs : List T) → Contains xs y → Contains (x ∷ xs) y
  contains_rest x y xs c = (suc c.0, (let h = c.1 in omega arith), c.2)

  -- nothing that is contained passes a test that finds nothing
  pub find_none : (p : T → Bool) (xs : List T) (x : T) → find p xs ≡ None → Contains xs x → p x ≡ false
  find_none p [] x n c = let h = c.1 in absurd (omega arith)
  find_none p (y ∷ ys) x n c = go (p y) refl n (contains_cases y x ys c) (find_none p ys x)
    where
      go : (t : Bool) → p y ≡ t → cond t (Some y) (find p ys) ≡ None → (y ≡ x) ⊎ Contains ys x → (find p ys ≡ None → Contains ys x → p x ≡ false) → p x ≡ false
      go true t n c ih = cc
      go false t n (inl e) ih = ap p (sym e) ∙ t
      go false t n (inr c) ih = ih n c

  module _ (id : T → ℕ) where
    -- rows after a put are the put one or old ones
    pub contains_with : (xs : List T) (r x : T) → Contains (with_row id xs r) x → (r ≡ x) ⊎ Contains xs x
    contains_with [] r x c = contains_cases r x [] c
    contains_with (y ∷ ys) r x c = go (id y == id r) c (contains_with ys r x)
      where
        go : (t : Bool) → Contains (if t then r ∷ ys else y ∷ with_row id ys r) x → (Contains (with_row id ys r) x → (r ≡ x) ⊎ Contains ys x) → (r ≡ x) ⊎ Contains (y ∷ ys) x
        go true c ih = elim (contains_cases r x ys c) [ inl e ↦ inl e | inr d ↦ inr (contains_rest y x ys d) ]
        go false c ih = elim (contains_cases y x (with_row id ys r) c) [ inl e ↦ inr (0, omega arith, e) | inr d ↦ elim (ih d) [ inl e ↦ inl e | inr b ↦ inr (contains_rest y x ys b) ] ]

    -- a look-up that finds a row finds one after any put
    pub still_there : (xs : List T) (r : T) (n : ℕ) → IsSome (row_at id xs n) → IsSome (row_at id (with_row id xs r) n)
    still_there [] r n s = let f : false ≡ true = s in cc
    still_there (y ∷ ys) r n s = go (id y == id r) refl (id y == n) refl s (still_there ys r n)
      where
        go : (t : Bool) → (id y == id r) ≡ t → (u : Bool) → (id y == n) ≡ u → IsSome (cond u (Some y) (row_at id ys n)) → (IsSome (row_at id ys n) → IsSome (row_at id (with_row id ys r) n))
            → IsSome (row_at id (if t then r ∷ ys else y ∷ with_row id ys r) n)
        go true t true u s ih = let e : (id r == n) ≡ true = grind (arith, nat_tests, t, u) in rw e refl
        go true t false u s ih = let e : (id r == n) ≡ false = grind (arith, nat_tests, t, u) in rw e s
        go false t true u s ih = rw u refl
        go false t false u s ih = rw u (ih s)

    -- an id of a row is below the next one
    pub id_below : (high n : ℕ) (xs : List T) → AllBelow id high xs → IsSome (row_at id xs n) → n < high
    id_below high n [] a s = let f : false ≡ true = s in cc
    id_below high n (y ∷ ys) a s = go (id y == n) refl s (id_below high n ys a.1)
      where
        go : (u : Bool) → (id y == n) ≡ u → IsSome (cond u (Some y) (row_at id ys n)) → (IsSome (row_at id ys n) → n < high) → n < high
        go true u s ih = let b = a.0 in let e : id y ≡ n = grind (arith, nat_tests, u) in omega arith
        go false u s ih = ih s

    below_more : (high : ℕ) (xs : List T) → AllBelow id high xs → AllBelow id (high + 1) xs
    below_more high [] a = tt
    below_more high (y ∷ ys) a = let b = a.0 in (omega arith, below_more high ys a.1)

    -- a row above all goes to the end
    pub with_row_above : (xs : List T) (r : T) → AllBelow id (id r) xs → with_row id xs r ≡ xs ++ r ∷ []
    with_row_above [] r a = refl
    with_row_above (y ∷ ys) r a = let b = a.0 in rw (eq_false (id y) (id r) (omega arith)) (ap (λ (zs : List T). y ∷ zs) (with_row_above ys r a.1))

    rises_push : (low : ℕ) (xs : List T) (r : T) → Rises id low xs → AllBelow id (id r) xs → low < id r → Rises id low (xs ++ r ∷ [])
    rises_push low [] r s a l = (l, tt)
    rises_push low (y ∷ ys) r s a l = (s.0, rises_push (id y) ys r s.1 a.1 a.0)

    below_push : (high : ℕ) (xs : List T) (r : T) → AllBelow id high xs → id r < high → AllBelow id high (xs ++ r ∷ [])
    below_push high [] r a l = (l, tt)
    below_push high (y ∷ ys) r a l = (a.0, below_push high ys r a.1 l)

    length_push : (xs : List T) (r : T) → length (xs ++ r ∷ []) ≡ length xs + 1
    length_push [] r = omega arith
    length_push (y ∷ ys) r = let e = length_push ys r in omega arith

    -- a row list with a row under the next id is one
    pub row_list-appended : (most : ℕ) (row_list : RowList T) (r : T) → IsRowList id most row_list → id r ≡ row_list.next → length row_list.rows + 1 ≤ most → row_list.next + 1 ≤ last_next
        → IsRowList id most (appended id row_list r)
    row_list-appended most row_list r h e few fits =
        let low = h.next_low in
        let below : AllBelow id (id r) row_list.rows = rw e h.below in
        let end = with_row_above row_list.rows r below in
        record {
          ordered = rw end (rises_push 0 row_list.rows r h.ordered below (omega arith));
          below = rw end (below_push (row_list.next + 1) row_list.rows r (below_more row_list.next row_list.rows h.below) (omega arith));
          few = rw (end, length_push row_list.rows r) few;
          next_low = omega arith;
          next_fits = fits;
        }

    -- an id that is contained is above the lower bound
    pub rises_above : (low : ℕ) (xs : List T) (y : T) → Rises id low xs → Contains xs y → low < id y
    rises_above low [] y r c = let h = c.1 in absurd (omega arith)
    rises_above low (x ∷ xs) y r c = elim (contains_cases x y xs c) [
      | inl e ↦ (let s = r.0 in let f = ap id e in omega arith)
      | inr d ↦ (let s = r.0 in let a = rises_above (id x) xs y r.1 d in omega arith)
    ]

    -- what a test finds has the least id of those that meet it
    pub found_least : (low : ℕ) (p : T → Bool) (xs : List T) (x y : T) → Rises id low xs → find p xs ≡ Some x → Contains xs y → p y ≡ true → id x ≤ id y
    found_least low p [] x y r f c q = cc
    found_least low p (z ∷ zs) x y r f c q = go (p z) refl f (contains_cases z y zs c) (λ g d. found_least (id z) p zs x y r.1 g d q)
      where
        go : (t : Bool) → p z ≡ t → cond t (Some z) (find p zs) ≡ Some x → (z ≡ y) ⊎ Contains zs y → (find p zs ≡ Some x → Contains zs y → id x ≤ id y) → id x ≤ id y
        go true t f (inl e) ih = let same : z ≡ x = cc in let a = ap id same in let b = ap id e in omega arith
        go true t f (inr d) ih = let same : z ≡ x = cc in let a = ap id same in let b = rises_above (id z) zs y r.1 d in omega arith
        go false t f (inl e) ih = let b : false ≡ true = sym t ∙ ap p e ∙ q in cc
        go false t f (inr d) ih = ih f d
