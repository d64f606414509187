-- What a slot has after one slot is written, after one more is put behind all, and after the last one moves to another.
use Rattle.std.proofs.Common.{◌≡◌, ◌≢◌, ℕ, zero, suc, ◌+◌, ◌-◌, ◌<◌, List, [], ◌∷◌, ◌++◌, length, Some, set, take, get_or, slice_get, refl, ap, ◌∙◌, arith}
use Rattle.std.specs.List.{swap_remove}
use Rattle.std.proofs.lemmas.Option.{slice_get_within}

module _ {T : Type 0} where
  pub set_here : (xs : List T) (k : ℕ) (v : T) → k < length xs → slice_get (set xs k v) k ≡ Some v
  set_here [] k v h = absurd (omega arith)
  set_here (x ∷ xs) zero v h = refl
  set_here (x ∷ xs) (suc k) v h = set_here xs k v (omega arith)

  pub set_else : (xs : List T) (i k : ℕ) (v : T) → k ≢ i → slice_get (set xs i v) k ≡ slice_get xs k
  set_else [] i k v h = refl
  set_else (x ∷ xs) zero zero v h = absurd (h refl)
  set_else (x ∷ xs) zero (suc k) v h = refl
  set_else (x ∷ xs) (suc i) zero v h = refl
  set_else (x ∷ xs) (suc i) (suc k) v h = set_else xs i k v (λ e. h (ap suc e))

  pub more_here : (xs : List T) (v : T) → slice_get (xs ++ v ∷ []) (length xs) ≡ Some v
  more_here [] v = refl
  more_here (x ∷ xs) v = more_here xs v

  pub more_else : (xs : List T) (k : ℕ) (v y : T) → slice_get xs k ≡ Some y → slice_get (xs ++ v ∷ []) k ≡ Some y
  more_else [] k v y h = cc
  more_else (x ∷ xs) zero v y h = h
  more_else (x ∷ xs) (suc k) v y h = more_else xs k v y h

  take_get : (n : ℕ) (xs : List T) (k : ℕ) → k < n → slice_get (take n xs) k ≡ slice_get xs k
  take_get zero xs k h = absurd (omega arith)
  take_get (suc n) [] k h = refl
  take_get (suc n) (x ∷ xs) zero h = refl
  take_get (suc n) (x ∷ xs) (suc k) h = take_get n xs k (omega arith)

  get_as : (xs : List T) (k : ℕ) (d y : T) → slice_get xs k ≡ Some y → get_or xs k d ≡ y
  get_as [] k d y h = cc
  get_as (x ∷ xs) zero d y h = cc
  get_as (x ∷ xs) (suc k) d y h = get_as xs k d y h

  -- the last slot's row stands in the place of the one that went
  pub swap_here : (xs : List T) (i last : ℕ) (d x : T) → i < length xs → last + 1 ≡ length xs → last ≢ i → slice_get xs last ≡ Some x → slice_get (swap_remove xs i d) i ≡ Some x
  swap_here xs i last d x h l n g =
      let e : length xs - 1 ≡ last = omega arith in
      rw (e, get_as xs last d x g)
      (take_get last (set xs i x) i (omega arith) ∙ set_here xs i x h)

  -- and every other row where it stood
  pub swap_else : (xs : List T) (i last k : ℕ) (d y : T) → last + 1 ≡ length xs → k ≢ last → k ≢ i → slice_get xs k ≡ Some y → slice_get (swap_remove xs i d) k ≡ Some y
  swap_else xs i last k d y l m n g =
      let w = slice_get_within xs k y g in
      take_get (length xs - 1) (set xs i (get_or xs (length xs - 1) d)) k (omega arith) ∙ set_else xs i k (get_or xs (length xs - 1) d) n ∙ g
