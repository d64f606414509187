-- What one more key, record or row does to what is left.
use Rattle.std.proofs.Common.{◌≡◌, ℕ, ◌+◌, ◌-◌, Bool, true, false, cond, ◌||◌, List, [], ◌∷◌, ◌++◌, Option, Some, None, refl, ap, ap₂, sym, ◌∙◌, subst, arith, count_by, if◌then◌else◌}
use Rattle.std.specs.List.{list_any}
use Rattle.std.specs.Prelude.{bytes_eq}
use Rattle.std.proofs.lemmas.Slice.Eq.{bytes_eq-Decides}
use Rattle.std.proofs.lemmas.List.Sums.{sum_by_push}
use Rattle.std.proofs.lemmas.List.Folds.{list_any-append}
use Rattle.std.specs.Cmp.Lexicographic.{nat_list_eq_equiv}
use Rattle.register_plans.specs.declared.imports.leftovers.Leftovers.{Leftovers}
use Rattle.register_plans.specs.RecordsLeft.{left_of, IsLeft}

-- what is left of a key, by whether the import has it
abbrev left_where : Bool → ℕ → Option ℕ
left_where b n = if b then Some n else None

-- one more of a key
count_push : (q k : List ℕ) (xs : List (List ℕ)) → count_by (bytes_eq q) (xs ++ k ∷ []) ≡ count_by (bytes_eq q) xs + cond (bytes_eq q k) 1 0
count_push q k xs = sum_by_push (λ x. cond (bytes_eq q x) 1 0) xs k

pub count_more : (q : List ℕ) (xs : List (List ℕ)) → count_by (bytes_eq q) (xs ++ q ∷ []) ≡ count_by (bytes_eq q) xs + 1
count_more q xs = count_push q q xs ∙ ap (λ b. count_by (bytes_eq q) xs + cond b 1 0) ((bytes_eq-Decides q q).1 refl)

count_same : (q k : List ℕ) (xs : List (List ℕ)) → bytes_eq k q ≡ false → count_by (bytes_eq q) (xs ++ k ∷ []) ≡ count_by (bytes_eq q) xs
count_same q k xs e =
    let push = count_push q k xs in
    let zero : cond {A = ℕ} (bytes_eq q k) 1 0 ≡ 0 = ap (λ b. cond {A = ℕ} b 1 0) (nat_list_eq_equiv.symm q k ∙ e) in omega arith

any_more : (q : List ℕ) (xs : List (List ℕ)) → list_any (bytes_eq q) (xs ++ q ∷ []) ≡ true
any_more q xs = list_any-append (bytes_eq q) xs (q ∷ []) ∙ go (list_any (bytes_eq q) xs) (bytes_eq q q) ((bytes_eq-Decides q q).1 refl)
  where
    go : (a b : Bool) → b ≡ true → (a || (b || false)) ≡ true
    go true b e = refl
    go false true e = refl
    go false false e = cc

any_same : (q k : List ℕ) (xs : List (List ℕ)) → bytes_eq k q ≡ false → list_any (bytes_eq q) (xs ++ k ∷ []) ≡ list_any (bytes_eq q) xs
any_same q k xs e = list_any-append (bytes_eq q) xs (k ∷ []) ∙ go (list_any (bytes_eq q) xs) (bytes_eq q k) (nat_list_eq_equiv.symm q k ∙ e)
  where
    go : (a b : Bool) → b ≡ false → (a || (b || false)) ≡ a
    go true b e = refl
    go false true e = cc
    go false false e = refl

-- what is left of one key was set, and nothing else changed
abbrev pub Sets : Leftovers → Leftovers → List ℕ → Option ℕ → Type 0
Sets old new key w = (q : List ℕ) → left_of new q ≡ cond (bytes_eq key q) w (left_of old q)

module _ (old new : Leftovers) (key : List ℕ) where
  -- one more key, with its number of records
  pub expected : (keys records : List (List ℕ)) (n : ℕ) → n ≡ count_by (bytes_eq key) records → Sets old new key (Some n) → IsLeft old keys records [] → IsLeft new (keys ++ key ∷ []) records []
  expected keys records n is sets h = λ q. go q (bytes_eq key q) refl
    where
      go : (q : List ℕ) (t : Bool) → bytes_eq key q ≡ t → left_of new q ≡ left_where (list_any (bytes_eq q) (keys ++ key ∷ [])) (count_by (bytes_eq q) records - 0)
      go q true t =
          let same : key ≡ q = (bytes_eq-Decides key q).0 t in
          let here : n ≡ count_by (bytes_eq q) records - 0 = (let e : n ≡ count_by (bytes_eq q) records = is ∙ ap (λ (k : List ℕ). count_by (bytes_eq k) records) same in omega arith) in
          sets q ∙ ap (λ b. cond b (Some n) (left_of old q)) t ∙ ap (λ m. Some m) here
          ∙ sym (ap (λ b. left_where b (count_by (bytes_eq q) records - 0)) (subst (λ (k : List ℕ). list_any (bytes_eq q) (keys ++ k ∷ []) ≡ true) (sym same) (any_more q keys)))
      go q false t =
          sets q ∙ ap (λ b. cond b (Some n) (left_of old q)) t ∙ h q ∙ sym (ap (λ b. left_where b (count_by (bytes_eq q) records - 0)) (any_same q key keys t))

  -- one more record of a key that the import has
  pub counted : (keys records : List (List ℕ)) (n : ℕ) → left_of old key ≡ Some n → Sets old new key (Some (n + 1)) → IsLeft old keys records [] → IsLeft new keys (records ++ key ∷ []) []
  counted keys records n was sets h = λ q. go q (bytes_eq key q) refl (list_any (bytes_eq q) keys) refl
    where
      go : (q : List ℕ) (t : Bool) → bytes_eq key q ≡ t → (u : Bool) → list_any (bytes_eq q) keys ≡ u
          → left_of new q ≡ left_where (list_any (bytes_eq q) keys) (count_by (bytes_eq q) (records ++ key ∷ []) - 0)
      go q true t u e =
          let same : key ≡ q = (bytes_eq-Decides key q).0 t in
          let here : left_of old q ≡ Some n = subst (λ (k : List ℕ). left_of old k ≡ Some n) same was in
          let more : count_by (bytes_eq q) (records ++ key ∷ []) ≡ count_by (bytes_eq q) records + 1 = subst (λ (k : List ℕ). count_by (bytes_eq q) (records ++ k ∷ []) ≡ count_by (bytes_eq q) records + 1) (sym same) (count_more q records) in
          sets q ∙ ap (λ b. cond b (Some (n + 1)) (left_of old q)) t ∙ here_more u (sym here ∙ h q ∙ ap (λ b. left_where b (count_by (bytes_eq q) records - 0)) e) more ∙ sym (ap (λ b. left_where b (count_by (bytes_eq q) (records ++ key ∷ []) - 0)) e)
        where
          here_more : (u : Bool) → Some n ≡ left_where u (count_by (bytes_eq q) records - 0) → count_by (bytes_eq q) (records ++ key ∷ []) ≡ count_by (bytes_eq q) records + 1
              → Some (n + 1) ≡ left_where u (count_by (bytes_eq q) (records ++ key ∷ []) - 0)
          here_more true e more = let is : n ≡ count_by (bytes_eq q) records - 0 = cc in let next : n + 1 ≡ count_by (bytes_eq q) (records ++ key ∷ []) - 0 = omega arith in ap (λ m. Some m) next
          here_more false e more = cc
      go q false t u e = sets q ∙ ap (λ b. cond b (Some (n + 1)) (left_of old q)) t ∙ h q ∙ ap (λ m. left_where (list_any (bytes_eq q) keys) (m - 0)) (sym (count_same q key records t))

  -- what is left of a key is a number, so the import has it
  pub spent_one : (keys records spent : List (List ℕ)) (n m : ℕ) → left_of old key ≡ Some n → m ≡ n - 1 → Sets old new key (Some m) → IsLeft old keys records spent → IsLeft new keys records (spent ++ key ∷ [])
  spent_one keys records spent n m was less sets h = λ q. go q (bytes_eq key q) refl (list_any (bytes_eq q) keys) refl
    where
      go : (q : List ℕ) (t : Bool) → bytes_eq key q ≡ t → (u : Bool) → list_any (bytes_eq q) keys ≡ u
          → left_of new q ≡ left_where (list_any (bytes_eq q) keys) (count_by (bytes_eq q) records - count_by (bytes_eq q) (spent ++ key ∷ []))
      go q true t u e =
          let same : key ≡ q = (bytes_eq-Decides key q).0 t in
          let here : left_of old q ≡ Some n = subst (λ (k : List ℕ). left_of old k ≡ Some n) same was in
          let more : count_by (bytes_eq q) (spent ++ key ∷ []) ≡ count_by (bytes_eq q) spent + 1 = subst (λ (k : List ℕ). count_by (bytes_eq q) (spent ++ k ∷ []) ≡ count_by (bytes_eq q) spent + 1) (sym same) (count_more q spent) in
          sets q ∙ ap (λ b. cond b (Some m) (left_of old q)) t
          ∙ here_less u (sym here ∙ h q ∙ ap (λ b. left_where b (count_by (bytes_eq q) records - count_by (bytes_eq q) spent)) e) more
          ∙ sym (ap (λ b. left_where b (count_by (bytes_eq q) records - count_by (bytes_eq q) (spent ++ key ∷ []))) e)
        where
          here_less : (u : Bool) → Some n ≡ left_where u (count_by (bytes_eq q) records - count_by (bytes_eq q) spent) → count_by (bytes_eq q) (spent ++ key ∷ []) ≡ count_by (bytes_eq q) spent + 1
              → Some m ≡ left_where u (count_by (bytes_eq q) records - count_by (bytes_eq q) (spent ++ key ∷ []))
          here_less true e more =
              let is : n ≡ count_by (bytes_eq q) records - count_by (bytes_eq q) spent = cc in
              let next : m ≡ count_by (bytes_eq q) records - count_by (bytes_eq q) (spent ++ key ∷ []) = omega arith in ap (λ x. Some x) next
          here_less false e more = cc
      go q false t u e = sets q ∙ ap (λ b. cond b (Some m) (left_of old q)) t ∙ h q ∙ ap (λ x. left_where (list_any (bytes_eq q) keys) (count_by (bytes_eq q) records - x)) (sym (count_same q key spent t))

  -- a key that the import does not have
  module _ (none : left_of old key ≡ None) (stays : (q : List ℕ) → left_of new q ≡ left_of old q) where
    absent : (keys a b c d : List (List ℕ)) → IsLeft old keys a b → ((q : List ℕ) → bytes_eq key q ≡ false → (count_by (bytes_eq q) c ≡ count_by (bytes_eq q) a) × (count_by (bytes_eq q) d ≡ count_by (bytes_eq q) b))
        → IsLeft new keys c d
    absent keys a b c d h same = λ q. go q (bytes_eq key q) refl
      where
        go : (q : List ℕ) (t : Bool) → bytes_eq key q ≡ t → left_of new q ≡ left_where (list_any (bytes_eq q) keys) (count_by (bytes_eq q) c - count_by (bytes_eq q) d)
        go q true t =
            let is : key ≡ q = (bytes_eq-Decides key q).0 t in
            let here : left_of old q ≡ None = subst (λ (k : List ℕ). left_of old k ≡ None) is none in
            stays q ∙ here ∙ not_there (list_any (bytes_eq q) keys) (sym here ∙ h q)
          where
            not_there : (u : Bool) → None ≡ left_where u (count_by (bytes_eq q) a - count_by (bytes_eq q) b) → None ≡ left_where u (count_by (bytes_eq q) c - count_by (bytes_eq q) d)
            not_there true e = cc
            not_there false e = refl
        go q false t =
            let s = same q t in
            stays q ∙ h q ∙ ap₂ (λ x y. left_where (list_any (bytes_eq q) keys) (x - y)) (sym s.0) (sym s.1)

    pub uncounted : (keys records : List (List ℕ)) → IsLeft old keys records [] → IsLeft new keys (records ++ key ∷ []) []
    uncounted keys records h = absent keys records [] (records ++ key ∷ []) [] h (λ q t. (count_same q key records t, refl))

    pub unspent : (keys records spent : List (List ℕ)) → IsLeft old keys records spent → IsLeft new keys records (spent ++ key ∷ [])
    unspent keys records spent h = absent keys records spent records (spent ++ key ∷ []) h (λ q t. (refl, count_same q key spent t))
