-- Searches of a list from an index on, item by item.
use Rattle.std.proofs.Common.{◌≡◌, ℕ, zero, suc, ◌+◌, ◌-◌, ◌<◌, ◌≤◌, Bool, true, false, cond, IsSome, List, [], ◌∷◌, length, take, drop, Some, None, find, slice_get, refl, ap, sym, subst, ◌∙◌, arith, option_map}
use Rattle.std.specs.List.{count_by}
use Rattle.std.specs.Option.{option_or}
use Rattle.ipam_data.specs.RowList.{least, least_pair, Rises}
use Rattle.placed_book.proofs.Orders.{count_yes, count_no}

module _ {T : Type 0} where
  pub get_drop : (i : ℕ) (xs : List T) (k : ℕ) → slice_get (drop i xs) k ≡ slice_get xs (i + k)
  get_drop zero xs k = ap (λ (n : ℕ). slice_get xs n) (let e : k ≡ 0 + k = omega arith in e)
  get_drop (suc i) [] k = refl
  get_drop (suc i) (x ∷ xs) k = get_drop i xs k ∙ ap (λ (n : ℕ). slice_get (x ∷ xs) n) (let e : suc (i + k) ≡ suc i + k = omega arith in e)

  pub drop_get : (xs : List T) (i : ℕ) (x : T) → slice_get xs i ≡ Some x → drop i xs ≡ x ∷ drop (i + 1) xs
  drop_get [] i x e = cc
  drop_get (y ∷ ys) zero x e = (let is : y ≡ x = cc in ap (λ (z : T). z ∷ ys) is)
  drop_get (y ∷ ys) (suc i) x e = (let f : suc i + 1 ≡ suc (i + 1) = omega arith in rw f (drop_get ys i x e))

  pub some_within : (xs : List T) (i : ℕ) → i < length xs → (x : T) × (slice_get xs i ≡ Some x)
  some_within [] i h = absurd (omega arith)
  some_within (y ∷ ys) zero h = (y, refl)
  some_within (y ∷ ys) (suc i) h = some_within ys i (omega arith)

  module _ (p : T → Bool) where
    pub take_no : (xs : List T) (k : ℕ) (x : T) → slice_get xs k ≡ Some x → p x ≡ false → find p (take k xs) ≡ None → find p (take (k + 1) xs) ≡ None
    take_no [] k x e f h = cc
    take_no (y ∷ ys) zero x e f h = (let is : y ≡ x = cc in rw (ap p is ∙ f) refl)
    take_no (y ∷ ys) (suc k) x e f h = (let g : suc k + 1 ≡ suc (k + 1) = omega arith in rw g (go (p y) h (take_no ys k x e f))) where
      go : (t : Bool) → cond t (Some y) (find p (take k ys)) ≡ None → (find p (take k ys) ≡ None → find p (take (k + 1) ys) ≡ None) → cond t (Some y) (find p (take (k + 1) ys)) ≡ None
      go true h ih = cc
      go false h ih = ih h

    pub take_yes : (xs : List T) (k : ℕ) (x : T) → slice_get xs k ≡ Some x → p x ≡ true → find p (take k xs) ≡ None → find p xs ≡ Some x
    take_yes [] k x e f h = cc
    take_yes (y ∷ ys) zero x e f h = (let is : y ≡ x = cc in rw (ap p is ∙ f) (ap Some is))
    take_yes (y ∷ ys) (suc k) x e f h = go (p y) h (take_yes ys k x e f) where
      go : (t : Bool) → cond t (Some y) (find p (take k ys)) ≡ None → (find p (take k ys) ≡ None → find p ys ≡ Some x) → cond t (Some y) (find p ys) ≡ Some x
      go true h ih = cc
      go false h ih = ih h

    pub none_drop : (i : ℕ) (xs : List T) → find p xs ≡ None → find p (drop i xs) ≡ None
    none_drop zero xs h = h
    none_drop (suc i) [] h = refl
    none_drop (suc i) (y ∷ ys) h = go (p y) h (none_drop i ys) where
      go : (t : Bool) → cond t (Some y) (find p ys) ≡ None → (find p ys ≡ None → find p (drop i ys) ≡ None) → find p (drop i ys) ≡ None
      go true h ih = cc
      go false h ih = ih h

    pub never_found : (xs : List T) → ((x : T) → p x ≡ false) → find p xs ≡ None
    never_found [] h = refl
    never_found (y ∷ ys) h = rw (h y) (never_found ys h)

    pub none_counted : (xs : List T) → count_by p xs ≡ 0 → find p xs ≡ None
    none_counted [] h = refl
    none_counted (y ∷ ys) h = go (p y) refl (none_counted ys) where
      go : (t : Bool) → p y ≡ t → (count_by p ys ≡ 0 → find p ys ≡ None) → cond t (Some y) (find p ys) ≡ None
      go true t ih = (let n = count_yes p y ys t in absurd (omega arith))
      go false t ih = ih (sym (count_no p y ys t) ∙ h)

    -- what is counted is found
    pub counted_found : (id : T → ℕ) (xs : List T) → 0 < count_by p xs → IsSome (least id p xs)
    counted_found id [] h = absurd (omega arith)
    counted_found id (y ∷ ys) h = go (p y) refl (counted_found id ys) where
      go : (t : Bool) → p y ≡ t → (0 < count_by p ys → IsSome (least id p ys)) → IsSome (option_map id (cond t (Some y) (find p ys)))
      go true t ih = refl
      go false t ih = (let n = count_no p y ys t in ih (omega arith))

    -- from an index on
    pub from_no : (xs : List T) (from index : ℕ) (x : T) → from ≤ index → slice_get xs index ≡ Some x → p x ≡ false → find p (take (index - from) (drop from xs)) ≡ None → find p (take (index + 1 - from) (drop from xs)) ≡ None
    from_no xs from index x le e f h =
        let at : slice_get (drop from xs) (index - from) ≡ Some x = get_drop from xs (index - from) ∙ ap (λ (k : ℕ). slice_get xs k) (let q : from + (index - from) ≡ index = omega arith in q) ∙ e in
        let next : index + 1 - from ≡ index - from + 1 = omega arith in
        rw next (take_no (drop from xs) (index - from) x at f h)

    pub from_yes : (xs : List T) (from index : ℕ) (x : T) → from ≤ index → slice_get xs index ≡ Some x → p x ≡ true → find p (take (index - from) (drop from xs)) ≡ None → find p (drop from xs) ≡ Some x
    from_yes xs from index x le e f h =
        let at : slice_get (drop from xs) (index - from) ≡ Some x = get_drop from xs (index - from) ∙ ap (λ (k : ℕ). slice_get xs k) (let q : from + (index - from) ≡ index = omega arith in q) ∙ e in
        take_yes (drop from xs) (index - from) x at f h

  -- pairs, one row after another
  module _ (id : T → ℕ) (like : T → T → Bool) where
    pub pair_step : (xs : List T) (i : ℕ) (x : T) → slice_get xs i ≡ Some x
        → least_pair id like (drop i xs) ≡ option_or (option_map (λ y. (id x, id y)) (find (like x) (drop (i + 1) xs))) (least_pair id like (drop (i + 1) xs))
    pair_step xs i x e = ap (λ (ys : List T). least_pair id like ys) (drop_get xs i x e)

    -- ids rise from an item on
    pub rises_from : (low : ℕ) (xs : List T) (i : ℕ) (x : T) → Rises id low xs → slice_get xs i ≡ Some x → Rises id (id x) (drop (i + 1) xs)
    rises_from low [] i x r e = cc
    rises_from low (y ∷ ys) zero x r e = (let is : y ≡ x = cc in subst (λ (z : T). Rises id (id z) ys) is r.1)
    rises_from low (y ∷ ys) (suc i) x r e = (let f : suc i + 1 ≡ suc (i + 1) = omega arith in rw f (rises_from (id y) ys i x r.1 e))
