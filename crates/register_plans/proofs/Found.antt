-- Rows that are found under rising ids: where each row that passes is among them, those of them that pass are those of all that pass.
use Rattle.std.proofs.Common.{◌≡◌, ℕ, suc, ◌<◌, ◌≤◌, Bool, true, false, cond, List, [], ◌∷◌, length, filter, get_or, AllPairs, Option, Some, None, refl, ap, sym, ◌∙◌, arith, inl, inr, Contains}
use Rattle.std.specs.List.{count_by, cons_option}
use Rattle.std.proofs.lemmas.Bool.{cases_lt}
use Rattle.std.proofs.lemmas.List.Kept.{AllPairs-from_increasing}
use Rattle.std.proofs.lemmas.List.Sums.{length-filter}
use Rattle.ipam_data.specs.RowList.{row_at, Rises}
use Rattle.ipam_data.proofs.RowLists.{eq_true, eq_false, contains_cases, contains_head, contains_rest, rises_above}
use Rattle.register_plans.specs.Candidates.{AreCandidates, rows_of}

abbrev Rising : List ℕ → Type 0
Rising ids = AllPairs (λ (x y : ℕ). x < y) ids

rest_rising : (n : ℕ) (ns : List ℕ) → Rising (n ∷ ns) → Rising ns
rest_rising n ns p = λ i j d l m. p (suc i) (suc j) d (omega arith) (omega arith)

head_below : (n m : ℕ) (ns : List ℕ) → Rising (n ∷ ns) → Contains ns m → n < m
head_below n m ns p c = let h = c.1 in let below = p 0 (suc c.0) m (omega arith) (omega arith) in let is : get_or ns c.0 m ≡ m = c.2 in omega arith

head_least : (n m : ℕ) (ns : List ℕ) → Rising (n ∷ ns) → Contains (n ∷ ns) m → n ≤ m
head_least n m ns p c = elim (contains_cases n m ns c) [ inl e ↦ omega arith | inr d ↦ (let h = head_below n m ns p d in omega arith) ]

none : {A : Type 0} (x : A) → Contains [] x → {P : Type 0} → P
none x c = let h = c.1 in absurd (omega arith)

module _ {T : Type 0} (id : T → ℕ) where
  no_rows : (ids : List ℕ) → rows_of id [] ids ≡ []
  no_rows [] = refl
  no_rows (n ∷ ns) = no_rows ns

  -- no row has an id below all
  not_found : (low n : ℕ) (rows : List T) → Rises id low rows → n ≤ low → row_at id rows n ≡ None
  not_found low n [] r le = refl
  not_found low n (x ∷ xs) r le = (let h = r.0 in rw (eq_false (id x) n (omega arith)) (not_found (id x) n xs r.1 (omega arith)))

  -- ids above that of the first row find what the others have
  skipped : (x : T) (xs : List T) (ids : List ℕ) → ((m : ℕ) → Contains ids m → id x < m) → rows_of id (x ∷ xs) ids ≡ rows_of id xs ids
  skipped x xs [] above = refl
  skipped x xs (n ∷ ns) above =
      let h = above n (contains_head n ns) in
      let rest = skipped x xs ns (λ m c. above m (contains_rest n m ns c)) in
      let here : row_at id (x ∷ xs) n ≡ row_at id xs n = rw (eq_false (id x) n (omega arith)) refl in
      go (row_at id (x ∷ xs) n) (row_at id xs n) here rest
    where
      go : (a b : Option T) → a ≡ b → rows_of id (x ∷ xs) ns ≡ rows_of id xs ns → cons_option a (rows_of id (x ∷ xs) ns) ≡ cons_option b (rows_of id xs ns)
      go a None e r = (let f : a ≡ None = e in rw f r)
      go a (Some y) e r = (let f : a ≡ Some y = e in rw f (ap (λ (ys : List T). y ∷ ys) r))

  module _ (test : T → Bool) where
    none_passes : (rows : List T) → ((row : T) → Contains rows row → test row ≡ true → ⊥) → filter test rows ≡ []
    none_passes [] a = refl
    none_passes (x ∷ xs) a = go (test x) refl (none_passes xs (λ row c t. a row (contains_rest x row xs c) t))
      where
        go : (s : Bool) → test x ≡ s → filter test xs ≡ [] → cond s (x ∷ filter test xs) (filter test xs) ≡ []
        go true s ih = absurd (a x (contains_head x xs) s)
        go false s ih = ih

    same : (low : ℕ) (rows : List T) (ids : List ℕ) → Rises id low rows → Rising ids → ((row : T) → Contains rows row → test row ≡ true → Contains ids (id row)) → filter test (rows_of id rows ids) ≡ filter test rows
    same low [] ids r p a = ap (λ (ys : List T). filter test ys) (no_rows ids)
    same low (x ∷ xs) [] r p a = sym (none_passes (x ∷ xs) (λ row c t. none (id row) (a row c t)))
    same low (x ∷ xs) (n ∷ ns) r p a = elim (cases_lt (id x) n) [
      | inl less ↦
          before less (same (id x) xs (n ∷ ns) r.1 p (λ row c t. a row (contains_rest x row xs c) t))
      | inr most ↦ elim (cases_lt n (id x)) [
        | inl more ↦ behind more (same low (x ∷ xs) ns r (rest_rising n ns p) (λ row c t. others more row c (a row c t)))
        | inr least ↦ here (omega arith) (same (id x) xs ns r.1 (rest_rising n ns p) (λ row c t. later (omega arith) row c (a row (contains_rest x row xs c) t)))
      ]
    ]
      where
        before : id x < n → filter test (rows_of id xs (n ∷ ns)) ≡ filter test xs → filter test (rows_of id (x ∷ xs) (n ∷ ns)) ≡ filter test (x ∷ xs)
        before less ih =
            ap (λ (ys : List T). filter test ys) (skipped x xs (n ∷ ns) (λ m c. (let h = head_least n m ns p c in omega arith))) ∙ ih ∙ sym (go (test x) refl)
          where
            go : (s : Bool) → test x ≡ s → cond s (x ∷ filter test xs) (filter test xs) ≡ filter test xs
            go true s = (let h = head_least n (id x) ns p (a x (contains_head x xs) s) in absurd (omega arith))
            go false s = refl

        behind : n < id x → filter test (rows_of id (x ∷ xs) ns) ≡ filter test (x ∷ xs) → filter test (rows_of id (x ∷ xs) (n ∷ ns)) ≡ filter test (x ∷ xs)
        behind more ih =
            let missing : row_at id (x ∷ xs) n ≡ None = rw (eq_false (id x) n (omega arith)) (not_found (id x) n xs r.1 (omega arith)) in
            ap (λ (o : Option T). filter test (cons_option o (rows_of id (x ∷ xs) ns))) missing ∙ ih

        others : n < id x → (row : T) → Contains (x ∷ xs) row → Contains (n ∷ ns) (id row) → Contains ns (id row)
        others more row c d =
            let least : id x ≤ id row = elim (contains_cases x row xs c) [ inl e ↦ (let f = ap id e in omega arith) | inr k ↦ (let h = rises_above id (id x) xs row r.1 k in omega arith) ] in
            elim (contains_cases n (id row) ns d) [ inl e ↦ absurd (omega arith) | inr k ↦ k ]

        here : id x ≡ n → filter test (rows_of id xs ns) ≡ filter test xs → filter test (rows_of id (x ∷ xs) (n ∷ ns)) ≡ filter test (x ∷ xs)
        here is ih =
            let found : row_at id (x ∷ xs) n ≡ Some x = rw (eq_true (id x) n is) refl in
            ap (λ (o : Option T). filter test (cons_option o (rows_of id (x ∷ xs) ns))) found
            ∙ ap (λ (ys : List T). filter test (x ∷ ys)) (skipped x xs ns (λ m c. (let h = head_below n m ns p c in omega arith)))
            ∙ ap (λ (ys : List T). cond (test x) (x ∷ ys) ys) ih

        later : id x ≡ n → (row : T) → Contains xs row → Contains (n ∷ ns) (id row) → Contains ns (id row)
        later is row c d =
            let more = rises_above id (id x) xs row r.1 c in
            elim (contains_cases n (id row) ns d) [ inl e ↦ absurd (omega arith) | inr k ↦ k ]

    -- the rows of candidates that pass are all that pass
    pub all_found : (rows : List T) (ids : List ℕ) → Rises id 0 rows → AreCandidates id test rows ids → filter test (rows_of id rows ids) ≡ filter test rows
    all_found rows ids r h = same 0 rows ids r (AllPairs-from_increasing ids h.rises) h.all

    pub all_counted : (rows : List T) (ids : List ℕ) → Rises id 0 rows → AreCandidates id test rows ids → count_by test (rows_of id rows ids) ≡ count_by test rows
    all_counted rows ids r h = sym (length-filter test (rows_of id rows ids)) ∙ ap (λ (ys : List T). length ys) (all_found rows ids r h) ∙ length-filter test rows
