-- Rows of any kind, however many: what stays when one is put behind all, and when one is taken out.
use Rattle.std.proofs.Common.{◌≡◌, ◌≢◌, ℕ, ◌+◌, ◌≤◌, ◌==◌, ◌||◌, ◌⊎◌, Bool, true, false, not, cond, List, [], ◌∷◌, length, IsSome, Option, Some, refl, ap, sym, ◌∙◌, arith, if◌then◌else◌, inl, inr, Contains}
use Rattle.std.specs.List.{list_any}
use Rattle.std.proofs.lemmas.Bool.Decides.{nat_tests}
use Rattle.ipam_data.specs.RowList.{RowList, IsRowList, row_at, with_row, without, Rises, appended, cleared_of, replaced, last_next}
use Rattle.ipam_data.proofs.RowLists.{eq_false, contains_cases, rises_above, row_list-appended}
use Rattle.ipam_data.proofs.Kept.{row_list-cleared, row_list-replaced}
use Rattle.number_pools.specs.Lawful.{AreNumbered}

-- what a test does not find, no row of the list passes
pub none_passes : {X : Type 0} (p : X → Bool) (xs : List X) (x : X) → list_any p xs ≡ false → Contains xs x → p x ≡ false
none_passes p [] x e c = let h = c.1 in absurd (omega arith)
none_passes p (y ∷ ys) x e c = go (p y) refl e (contains_cases y x ys c) (none_passes p ys x)
  where
    go : (t : Bool) → p y ≡ t → (t || list_any p ys) ≡ false → (y ≡ x) ⊎ Contains ys x → (list_any p ys ≡ false → Contains ys x → p x ≡ false) → p x ≡ false
    go true t e d ih = cc
    go false t e (inl s) ih = ap p (sym s) ∙ t
    go false t e (inr d) ih = ih e d

module _ {T : Type 0} (id : T → ℕ) where
  -- a put leaves the rows of other ids
  pub row_at_else : (xs : List T) (row : T) (n : ℕ) → id row ≢ n → row_at id (with_row id xs row) n ≡ row_at id xs n
  row_at_else [] row n d = rw (eq_false (id row) n d) refl
  row_at_else (x ∷ xs) row n d = go (id x == id row) refl (row_at_else xs row n d)
    where
      go : (t : Bool) → (id x == id row) ≡ t → row_at id (with_row id xs row) n ≡ row_at id xs n
          → row_at id (if t then row ∷ xs else x ∷ with_row id xs row) n ≡ row_at id (x ∷ xs) n
      go true t ih = let e : id x ≢ n = (λ q. d (sym (grind (arith, nat_tests, t)) ∙ q)) in rw (eq_false (id row) n d, eq_false (id x) n e) refl
      go false t ih = ap (λ (o : Option T). cond (id x == n) (Some x) o) ih

  -- and so does a cut
  pub row_at_beside : (xs : List T) (n m : ℕ) → m ≢ n → row_at id (without id xs n) m ≡ row_at id xs m
  row_at_beside [] n m d = refl
  row_at_beside (x ∷ xs) n m d = go (id x == n) refl (row_at_beside xs n m d)
    where
      go : (t : Bool) → (id x == n) ≡ t → row_at id (without id xs n) m ≡ row_at id xs m
          → row_at id (cond (not t) (x ∷ without id xs n) (without id xs n)) m ≡ row_at id (x ∷ xs) m
      go true t ih = let e : id x ≢ m = (λ q. d (sym q ∙ grind (arith, nat_tests, t))) in rw (eq_false (id x) m e) ih
      go false t ih = ap (λ (o : Option T). cond (id x == m) (Some x) o) ih

  as_row_list : (row_list : RowList T) → AreNumbered id row_list → IsRowList id (length row_list.rows) row_list
  as_row_list row_list h = record { ordered = h.ordered; below = h.below; few = omega arith; next_low = h.next_low; next_fits = h.next_fits }

  as_numbered : (most : ℕ) (row_list : RowList T) → IsRowList id most row_list → AreNumbered id row_list
  as_numbered most row_list h = record { ordered = h.ordered; below = h.below; next_low = h.next_low; next_fits = h.next_fits }

  pub numbered-appended : (row_list : RowList T) (row : T) → AreNumbered id row_list → id row ≡ row_list.next → row_list.next + 1 ≤ last_next → AreNumbered id (appended id row_list row)
  numbered-appended row_list row h e fits =
      let list : IsRowList id (length row_list.rows + 1) row_list = record { ordered = h.ordered; below = h.below; few = omega arith; next_low = h.next_low; next_fits = h.next_fits } in
      as_numbered (length row_list.rows + 1) (appended id row_list row) (row_list-appended id (length row_list.rows + 1) row_list row list e (omega arith) fits)

  pub numbered-cleared : (row_list : RowList T) (n : ℕ) → AreNumbered id row_list → AreNumbered id (cleared_of id row_list n)
  numbered-cleared row_list n h = as_numbered (length row_list.rows) (cleared_of id row_list n) (row_list-cleared id (length row_list.rows) n row_list (as_row_list row_list h))

  pub numbered-replaced : (row_list : RowList T) (row : T) → AreNumbered id row_list → IsSome (row_at id row_list.rows (id row)) → AreNumbered id (replaced id row_list row)
  numbered-replaced row_list row h there = as_numbered (length row_list.rows) (replaced id row_list row) (row_list-replaced id (length row_list.rows) row_list row (as_row_list row_list h) there)

  -- two rows of one id are one
  pub one_of_id : (low : ℕ) (xs : List T) (x y : T) → Rises id low xs → Contains xs x → Contains xs y → id x ≡ id y → x ≡ y
  one_of_id low [] x y r c d e = let l = c.1 in absurd (omega arith)
  one_of_id low (z ∷ zs) x y r c d e = go (contains_cases z x zs c) (contains_cases z y zs d) (λ a b. one_of_id (id z) zs x y r.1 a b e)
    where
      go : (z ≡ x) ⊎ Contains zs x → (z ≡ y) ⊎ Contains zs y → (Contains zs x → Contains zs y → x ≡ y) → x ≡ y
      go (inl a) (inl b) ih = sym a ∙ b
      go (inl a) (inr b) ih = let q = ap id a in let k = rises_above id (id z) zs y r.1 b in absurd (omega arith)
      go (inr a) (inl b) ih = let q = ap id b in let k = rises_above id (id z) zs x r.1 a in absurd (omega arith)
      go (inr a) (inr b) ih = ih a b
