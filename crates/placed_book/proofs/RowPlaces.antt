-- Where a row stands among rows in the order of their ids, and what putting one and taking one away does there.
use Rattle.std.proofs.Common.{◌≡◌, ◌≢◌, ℕ, zero, suc, ◌+◌, ◌<◌, ◌≤◌, ◌==◌, nat_lt, Bool, true, false, not, cond, List, [], ◌∷◌, ◌++◌, length, Some, None, set, remove, get_or, refl, ap, sym, ◌∙◌, arith, if◌then◌else◌, IsSome, ◌⊎◌, inl, inr, slice_get}
use Rattle.std.proofs.lemmas.Bool.Decides.{nat_tests}
use Rattle.ipam_data.specs.RowList.{row_at, row_after, with_row, without, Rises, AllBelow}
use Rattle.placed_book.specs.RowBook.{place, IsAt}

pub lt_true : (a b : ℕ) → a < b → nat_lt a b ≡ true
lt_true a b h = grind (arith, nat_tests)

pub lt_false : (a b : ℕ) → b ≤ a → nat_lt a b ≡ false
lt_false a b h = grind (arith, nat_tests)

pub eq_true : (a b : ℕ) → a ≡ b → (a == b) ≡ true
eq_true a b h = grind (arith, nat_tests)

pub eq_false : (a b : ℕ) → a ≢ b → (a == b) ≡ false
eq_false a b h = grind (arith, nat_tests)

module _ {T : Type 0} (id : T → ℕ) where
  -- a place is no further than the length
  pub place_short : (n : ℕ) (xs : List T) → place id n xs ≤ length xs
  place_short n [] = omega arith
  place_short n (x ∷ xs) = go (nat_lt (id x) n) (place_short n xs)
    where
      go : (t : Bool) → place id n xs ≤ length xs → (if t then place id n xs + 1 else 0) ≤ length (x ∷ xs)
      go true h = omega arith
      go false h = omega arith

  -- each id is above
  pub all_above : (low : ℕ) (xs : List T) (k : ℕ) (d : T) → Rises id low xs → k < length xs → low < id (get_or xs k d)
  all_above low [] k d r h = absurd (omega arith)
  all_above low (x ∷ xs) zero d r h = r.0
  all_above low (x ∷ xs) (suc k) d r h = let ih = all_above (id x) xs k d r.1 (omega arith) in let s = r.0 in omega arith

  -- past a row whose id is below
  pub place_past : (low n : ℕ) (xs : List T) (k : ℕ) (d : T) → Rises id low xs → k < length xs → id (get_or xs k d) < n → k + 1 ≤ place id n xs
  place_past low n [] k d r h b = absurd (omega arith)
  place_past low n (x ∷ xs) zero d r h b = rw (lt_true (id x) n b) (omega arith)
  place_past low n (x ∷ xs) (suc k) d r h b =
      let ih = place_past (id x) n xs k d r.1 (omega arith) b in
      let above = all_above (id x) xs k d r.1 (omega arith) in
      rw (lt_true (id x) n (omega arith)) (omega arith)

  -- not past a row whose id isn't below
  pub place_upto : (n : ℕ) (xs : List T) (k : ℕ) (d : T) → k < length xs → n ≤ id (get_or xs k d) → place id n xs ≤ k
  place_upto n [] k d h b = absurd (omega arith)
  place_upto n (x ∷ xs) zero d h b = rw (lt_false (id x) n b) (omega arith)
  place_upto n (x ∷ xs) (suc k) d h b = go (nat_lt (id x) n) (place_upto n xs k d (omega arith) b)
    where
      go : (t : Bool) → place id n xs ≤ k → (if t then place id n xs + 1 else 0) ≤ suc k
      go true h = omega arith
      go false h = omega arith

  -- no row of rising ids has an id that isn't above the lower bound
  pub none_below : (low n : ℕ) (xs : List T) → Rises id low xs → n ≤ low → row_at id xs n ≡ None
  none_below low n [] r h = refl
  none_below low n (x ∷ xs) r h = let s = r.0 in rw (eq_false (id x) n (omega arith)) (none_below (id x) n xs r.1 (omega arith))

  -- a lower bound may be lowered
  rises_lower : (low lower : ℕ) (xs : List T) → lower ≤ low → Rises id low xs → Rises id lower xs
  rises_lower low lower [] l r = tt
  rises_lower low lower (x ∷ xs) l r = let s = r.0 in (omega arith, r.1)

  -- rows taken away leave the order
  pub rises_without : (low n : ℕ) (xs : List T) → Rises id low xs → Rises id low (without id xs n)
  rises_without low n [] r = tt
  rises_without low n (x ∷ xs) r = go (id x == n) (rises_without (id x) n xs r.1)
    where
      go : (t : Bool) → Rises id (id x) (without id xs n) → Rises id low (cond (not t) (x ∷ without id xs n) (without id xs n))
      go true ih = let s = r.0 in rises_lower (id x) low (without id xs n) (omega arith) ih
      go false ih = (r.0, ih)

  -- within a list no default is read
  pub any_default : (xs : List T) (k : ℕ) (d e : T) → k < length xs → get_or xs k d ≡ get_or xs k e
  any_default [] k d e h = absurd (omega arith)
  any_default (x ∷ xs) zero d e h = refl
  any_default (x ∷ xs) (suc k) d e h = any_default xs k d e (omega arith)

  -- a look-up of a row by its index
  pub row_at_index : (low n : ℕ) (xs : List T) (k : ℕ) (d : T) → Rises id low xs → k < length xs → id (get_or xs k d) ≡ n → row_at id xs n ≡ Some (get_or xs k d)
  row_at_index low n [] k d r h e = absurd (omega arith)
  row_at_index low n (x ∷ xs) zero d r h e = rw (eq_true (id x) n e) refl
  row_at_index low n (x ∷ xs) (suc k) d r h e =
      let above = all_above (id x) xs k d r.1 (omega arith) in
      rw (eq_false (id x) n (omega arith)) (row_at_index (id x) n xs k d r.1 (omega arith) e)

  -- the row at a place isn't below
  pub place_from : (n : ℕ) (xs : List T) (k : ℕ) (d : T) → place id n xs ≡ k → k < length xs → n ≤ id (get_or xs k d)
  place_from n [] k d p h = absurd (omega arith)
  place_from n (x ∷ xs) k d p h = go k (nat_lt (id x) n) refl p h (λ j q. place_from n xs j d q)
    where
      go : (k : ℕ) (t : Bool) → nat_lt (id x) n ≡ t → (if t then place id n xs + 1 else 0) ≡ k → k < length (x ∷ xs)
          → ((j : ℕ) → place id n xs ≡ j → j < length xs → n ≤ id (get_or xs j d)) → n ≤ id (get_or (x ∷ xs) k d)
      go zero true t p h ih = absurd (omega arith)
      go (suc j) true t p h ih = ih j (omega arith) (omega arith)
      go zero false t p h ih = grind (arith, nat_tests, t)
      go (suc j) false t p h ih = absurd (omega arith)

  -- no row has the id where the one at its place has another
  pub none_at_place : (low n : ℕ) (xs : List T) (k : ℕ) (d : T) → Rises id low xs → place id n xs ≡ k → (k < length xs → n < id (get_or xs k d)) → row_at id xs n ≡ None
  none_at_place low n [] k d r p h = refl
  none_at_place low n (x ∷ xs) k d r p h = go k (nat_lt (id x) n) refl p h (λ j q. none_at_place (id x) n xs j d r.1 q)
    where
      go : (k : ℕ) (t : Bool) → nat_lt (id x) n ≡ t → (if t then place id n xs + 1 else 0) ≡ k → (k < length (x ∷ xs) → n < id (get_or (x ∷ xs) k d))
          → ((j : ℕ) → place id n xs ≡ j → (j < length xs → n < id (get_or xs j d)) → row_at id xs n ≡ None) → row_at id (x ∷ xs) n ≡ None
      go zero true t p h ih = absurd (omega arith)
      go (suc j) true t p h ih = let b : id x < n = grind (arith, nat_tests, t) in rw (eq_false (id x) n (omega arith)) (ih j (omega arith) (λ l. h (omega arith)))
      go zero false t p h ih = let b = h (omega arith) in rw (eq_false (id x) n (omega arith)) (none_below (id x) n xs r.1 (omega arith))
      go (suc j) false t p h ih = absurd (omega arith)

  -- what replaces the row of an id
  pub with_row_index : (low : ℕ) (xs : List T) (row : T) (k : ℕ) (d : T) → Rises id low xs → k < length xs → id (get_or xs k d) ≡ id row → with_row id xs row ≡ set xs k row
  with_row_index low [] row k d r h e = absurd (omega arith)
  with_row_index low (x ∷ xs) row zero d r h e = rw (eq_true (id x) (id row) e) refl
  with_row_index low (x ∷ xs) row (suc k) d r h e =
      let above = all_above (id x) xs k d r.1 (omega arith) in
      rw (eq_false (id x) (id row) (omega arith)) (ap (λ (ys : List T). x ∷ ys) (with_row_index (id x) xs row k d r.1 (omega arith) e))

  -- a row of a new id goes to the end
  pub with_row_new : (xs : List T) (row : T) → row_at id xs (id row) ≡ None → with_row id xs row ≡ xs ++ row ∷ []
  with_row_new [] row h = refl
  with_row_new (x ∷ xs) row h = go (id x == id row) refl h (with_row_new xs row)
    where
      go : (t : Bool) → (id x == id row) ≡ t → cond t (Some x) (row_at id xs (id row)) ≡ None → (row_at id xs (id row) ≡ None → with_row id xs row ≡ xs ++ row ∷ [])
          → (if t then row ∷ xs else x ∷ with_row id xs row) ≡ (x ∷ xs) ++ row ∷ []
      go true t h ih = cc
      go false t h ih = ap (λ (ys : List T). x ∷ ys) (ih h)

  -- the rows of other ids are all, where none has it
  pub without_none : (xs : List T) (n : ℕ) → row_at id xs n ≡ None → without id xs n ≡ xs
  without_none [] n h = refl
  without_none (x ∷ xs) n h = go (id x == n) refl h (without_none xs n)
    where
      go : (t : Bool) → (id x == n) ≡ t → cond t (Some x) (row_at id xs n) ≡ None → (row_at id xs n ≡ None → without id xs n ≡ xs)
          → cond (not t) (x ∷ without id xs n) (without id xs n) ≡ x ∷ xs
      go true t h ih = cc
      go false t h ih = ap (λ (ys : List T). x ∷ ys) (ih h)

  -- what takes the row of an id away
  pub without_index : (low n : ℕ) (xs : List T) (k : ℕ) (d : T) → Rises id low xs → k < length xs → id (get_or xs k d) ≡ n → without id xs n ≡ remove xs k
  without_index low n [] k d r h e = absurd (omega arith)
  without_index low n (x ∷ xs) zero d r h e = rw (eq_true (id x) n e) (without_none xs n (none_below (id x) n xs r.1 (omega arith)))
  without_index low n (x ∷ xs) (suc k) d r h e =
      let above = all_above (id x) xs k d r.1 (omega arith) in
      rw (eq_false (id x) n (omega arith)) (ap (λ (ys : List T). x ∷ ys) (without_index (id x) n xs k d r.1 (omega arith) e))

  -- an id that is there is above the lower bound
  some_above : (low n : ℕ) (xs : List T) → Rises id low xs → IsSome (row_at id xs n) → low < n
  some_above low n xs r s = go (nat_lt low n) refl
    where
      go : (t : Bool) → nat_lt low n ≡ t → low < n
      go true t = grind (arith, nat_tests, t)
      go false t = let b : n ≤ low = grind (arith, nat_tests, t) in let f : false ≡ true = rw (none_below low n xs r b) at s in cc

  -- a put row keeps the order
  pub rises_with : (low : ℕ) (xs : List T) (row : T) → low < id row → Rises id low xs → IsSome (row_at id xs (id row)) ⊎ AllBelow id (id row) xs → Rises id low (with_row id xs row)
  rises_with low [] row l r f = (l, tt)
  rises_with low (x ∷ xs) row l r f = go (id x == id row) refl f (λ m g. rises_with (id x) xs row m r.1 g)
    where
      go : (t : Bool) → (id x == id row) ≡ t → IsSome (cond t (Some x) (row_at id xs (id row))) ⊎ AllBelow id (id row) (x ∷ xs)
          → (id x < id row → IsSome (row_at id xs (id row)) ⊎ AllBelow id (id row) xs → Rises id (id x) (with_row id xs row))
          → Rises id low (if t then row ∷ xs else x ∷ with_row id xs row)
      go true t f ih = let e : id x ≡ id row = grind (arith, nat_tests, t) in (l, rw (← e) r.1)
      go false t (inl s) ih = (r.0, ih (some_above (id x) (id row) xs r.1 s) (inl s))
      go false t (inr b) ih = (r.0, ih b.0 (inr b.1))

  -- the row after an id stands at the next place
  pub after_place : (n : ℕ) (xs : List T) → row_after id xs n ≡ slice_get xs (place id (n + 1) xs)
  after_place n [] = refl
  after_place n (x ∷ xs) = go (nat_lt n (id x)) (nat_lt (id x) (n + 1)) refl refl (after_place n xs)
    where
      go : (s t : Bool) → nat_lt n (id x) ≡ s → nat_lt (id x) (n + 1) ≡ t → row_after id xs n ≡ slice_get xs (place id (n + 1) xs)
          → cond s (Some x) (row_after id xs n) ≡ slice_get (x ∷ xs) (if t then place id (n + 1) xs + 1 else 0)
      go true true s t ih = let a : n < id x = grind (arith, nat_tests, s) in let b : id x < n + 1 = grind (arith, nat_tests, t) in absurd (omega arith)
      go true false s t ih = refl
      go false true s t ih = let e : place id (n + 1) xs + 1 ≡ suc (place id (n + 1) xs) = omega arith in rw e ih
      go false false s t ih = let a : id x ≤ n = grind (arith, nat_tests, s) in let b : n + 1 ≤ id x = grind (arith, nat_tests, t) in absurd (omega arith)

  -- the index that was read is that of the id
  pub is_at : (xs : List T) (n k : ℕ) (x : T) → k < length xs → x ≡ get_or xs k x → id x ≡ n → IsAt id xs n k
  is_at xs n k x h r e = record { within = h; same = λ d. ap id (any_default xs k d x h ∙ sym r) ∙ e }

  pub look_at : (xs : List T) (n k : ℕ) (x : T) → Rises id 0 xs → IsAt id xs n k → x ≡ get_or xs k x → row_at id xs n ≡ Some x
  look_at xs n k x r a e = row_at_index 0 n xs k x r a.within (a.same x) ∙ ap Some (sym e)

  pub set_at : (xs : List T) (row : T) (k : ℕ) → Rises id 0 xs → IsAt id xs (id row) k → with_row id xs row ≡ set xs k row
  set_at xs row k r a = with_row_index 0 xs row k row r a.within (a.same row)

  pub remove_at : (xs : List T) (n k : ℕ) (d : T) → Rises id 0 xs → IsAt id xs n k → without id xs n ≡ remove xs k
  remove_at xs n k d r a = without_index 0 n xs k d r a.within (a.same d)

  -- no row has the id where all rows are below
  pub nothing_from : (n : ℕ) (xs : List T) → Rises id 0 xs → place id n xs ≡ length xs → row_at id xs n ≡ None
  nothing_from n [] r p = refl
  nothing_from n (x ∷ xs) r p = none_at_place 0 n (x ∷ xs) (length (x ∷ xs)) x r p (λ h. absurd (omega arith))

  pub get_within : (xs : List T) (k : ℕ) (x : T) → k < length xs → x ≡ get_or xs k x → slice_get xs k ≡ Some x
  get_within [] k x h e = absurd (omega arith)
  get_within (y ∷ xs) zero x h e = ap Some (sym e)
  get_within (y ∷ xs) (suc k) x h e = get_within xs k x (omega arith) e

  pub get_past : (xs : List T) (k : ℕ) → length xs ≤ k → slice_get xs k ≡ None
  get_past [] k h = refl
  get_past (y ∷ xs) zero h = absurd (omega arith)
  get_past (y ∷ xs) (suc k) h = get_past xs k (omega arith)
