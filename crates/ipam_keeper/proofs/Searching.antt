-- What a search by halving finds in a list that stands in order.
use Rattle.std.proofs.Common.{◌≡◌, ℕ, zero, suc, ◌<◌, ◌≤◌, List, [], ◌∷◌, length, get_or, Result, Ok, Err, IfOk, IfErr, None, refl, sym, inl, inr, arith}
use Rattle.std.specs.List.Sorted.{IsSearchInRange, IsBinarySearchResult, IsNonDecreasingBy}
use Rattle.std.specs.Ordering.{nat_cmp, ordering_index}
use Rattle.std.proofs.lemmas.Cmp.{ranked}
use Rattle.std.proofs.lemmas.Bool.{cases_lt}
use Rattle.std.proofs.lemmas.Bool.Decides.{nat_tests}
use Rattle.ipam_data.specs.RowList.{row_at, Rises}
use Rattle.placed_book.specs.RowBook.{place, IsAt}
use Rattle.placed_book.proofs.RowPlaces.{all_above, place_short, place_past, place_upto, none_at_place}

module _ {T : Type 0} (id : T → ℕ) where
  -- the numbers rise along the list
  numbers_rise : (low i j : ℕ) (items : List T) (d : T) → Rises id low items → i ≤ j → j < length items → id (get_or items i d) ≤ id (get_or items j d)
  numbers_rise low i j [] d r l h = absurd (omega arith)
  numbers_rise low zero zero (x ∷ xs) d r l h = omega arith
  numbers_rise low zero (suc j) (x ∷ xs) d r l h = let a = all_above id (id x) xs j d r.1 (omega arith) in omega arith
  numbers_rise low (suc i) zero (x ∷ xs) d r l h = absurd (omega arith)
  numbers_rise low (suc i) (suc j) (x ∷ xs) d r l h = numbers_rise (id x) i j xs d r.1 (omega arith) (omega arith)

  -- and so do the answers of the comparison with one number
  comparisons_rise : (items : List T) (here : ℕ) → Rises id 0 items → IsNonDecreasingBy (λ y. ordering_index (nat_cmp (id y) here)) items
  comparisons_rise items here r = λ i j d l h. let rise = numbers_rise 0 i j items d r l h in grind (arith, nat_tests)

  -- where all before an index are below a number, and all from there on above it, the index is the number's place
  at_gap : (items : List T) (k here : ℕ) → Rises id 0 items → k ≤ length items → ((j : ℕ) (d : T) → j < k → id (get_or items j d) < here)
      → ((j : ℕ) (d : T) → k ≤ j → j < length items → here < id (get_or items j d)) → (k ≡ place id here items) × (row_at id items here ≡ None)
  at_gap [] k here r h b a = (omega arith, refl)
  at_gap (x ∷ xs) k here r h b a =
      let up : k ≤ place id here (x ∷ xs) = past k h b in
      let down : place id here (x ∷ xs) ≤ k = upto in
      let at : k ≡ place id here (x ∷ xs) = omega arith in
      (at, none_at_place id 0 here (x ∷ xs) k x r (sym at) (λ l. a k x (omega arith) l))
    where
      past : (k : ℕ) → k ≤ length (x ∷ xs) → ((j : ℕ) (d : T) → j < k → id (get_or (x ∷ xs) j d) < here) → k ≤ place id here (x ∷ xs)
      past zero h b = omega arith
      past (suc k) h b = let p = place_past id 0 here (x ∷ xs) k x r (omega arith) (b k x (omega arith)) in omega arith

      upto : place id here (x ∷ xs) ≤ k
      upto = elim (cases_lt k (length (x ∷ xs))) [
        | inl l ↦ place_upto id here (x ∷ xs) k x l (let g = a k x (omega arith) l in omega arith)
        | inr l ↦ let s = place_short id here (x ∷ xs) in omega arith
      ]

  -- the search ends at the element of the number, or at the place where it would come
  pub searched : (items : List T) (here : ℕ) (answer : Result ℕ ℕ) → Rises id 0 items → IsSearchInRange answer (length items) → IsBinarySearchResult (λ y. nat_cmp (id y) here) items answer
      → IfOk answer (λ k. IsAt id items here k) × IfErr answer (λ k. (k ≡ place id here items) × (row_at id items here ≡ None))
  searched items here (Ok k) r h found = (record { within = h; same = λ d. ranked (id (get_or items k d)) here _ (sym (found d)) }, tt)
  searched items here (Err k) r h parted =
      let parts = parted (comparisons_rise items here r) in
      (tt, at_gap items k here r h (λ j d l. ranked (id (get_or items j d)) here _ (sym (parts.0 j d (omega arith) l))) (λ j d l m. ranked (id (get_or items j d)) here _ (sym (parts.1 j d l m))))
