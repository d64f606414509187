-- Lists and tests: members, places and what tests say of them.
use Rattle.std.proofs.Common.{◌++◌, ◌<◌, ◌||◌, ◌∙◌, ◌∷◌, ◌≡◌, ◌⊎◌, Bool, Contains, List, None, Option, Some, [], ap, arith, cond, false, filter, inl, inr, length, map, refl, subst, suc, sym, true, zero, ℕ}
use Rattle.std.specs.List.{AllByRecursion, list_any, slice_get}
use Rattle.ipam_data.specs.Checks.{first}
use Rattle.ipam_data.proofs.RowLists.{contains_cases, contains_head, contains_rest}

-- ---- tests

pub not_both : (t : Bool) → t ≡ true → t ≡ false → ⊥
not_both t e f = let w : true ≡ false = sym e ∙ f in cc

pub false_if_not : (t : Bool) → (t ≡ true → ⊥) → t ≡ false
false_if_not true h = absurd (h refl)
false_if_not false h = refl

pub or_cases : (t u : Bool) → (t || u) ≡ true → (t ≡ true) ⊎ (u ≡ true)
or_cases true u e = inl refl
or_cases false u e = inr e

pub or_left : (t u : Bool) → (t || u) ≡ false → t ≡ false
or_left true u e = e
or_left false u e = refl

pub or_right : (t u : Bool) → (t || u) ≡ false → u ≡ false
or_right true u e = cc
or_right false u e = e

pub or_true : (t : Bool) → (t || true) ≡ true
or_true true = refl
or_true false = refl

pub any_false : {T : Type 0} (t : T → Bool) (xs : List T) → ((x : T) → Contains xs x → t x ≡ true → ⊥) → list_any t xs ≡ false
any_false t [] h = refl
any_false t (x ∷ xs) h = go (t x) refl (any_false t xs (λ y c. h y (contains_rest x y xs c)))
  where
    go : (b : Bool) → t x ≡ b → list_any t xs ≡ false → (b || list_any t xs) ≡ false
    go true e ih = absurd (h x (contains_head x xs) e)
    go false e ih = ih

pub none_of_any : {T : Type 0} (t : T → Bool) (xs : List T) (x : T) → list_any t xs ≡ false → Contains xs x → t x ≡ false
none_of_any t [] x f c = let l = c.1 in absurd (omega arith)
none_of_any t (y ∷ ys) x f c = elim (contains_cases y x ys c) [
  | inl e ↦ ap t (sym e) ∙ or_left (t y) (list_any t ys) f
  | inr d ↦ none_of_any t ys x (or_right (t y) (list_any t ys) f) d
]

-- ---- members

pub each_contained : {T : Type 0} (Q : T → Type 0) (xs : List T) (x : T) → AllByRecursion Q xs → Contains xs x → Q x
each_contained Q [] x h c = let l = c.1 in absurd (omega arith)
each_contained Q (y ∷ ys) x h c = elim (contains_cases y x ys c) [ inl e ↦ subst Q e h.0 | inr d ↦ each_contained Q ys x h.1 d ]

pub filtered : {T : Type 0} (t : T → Bool) (xs : List T) (x : T) → Contains (filter t xs) x → Contains xs x × (t x ≡ true)
filtered t [] x c = let l = c.1 in absurd (omega arith)
filtered t (y ∷ ys) x c = go (t y) refl c (filtered t ys x)
  where
    go : (b : Bool) → t y ≡ b → Contains (cond b (y ∷ filter t ys) (filter t ys)) x → (Contains (filter t ys) x → Contains ys x × (t x ≡ true)) → Contains (y ∷ ys) x × (t x ≡ true)
    go true e c ih = elim (contains_cases y x (filter t ys) c) [
      | inl q ↦ ((0, omega arith, q), ap t (sym q) ∙ e)
      | inr d ↦ (let r = ih d in (contains_rest y x ys r.0, r.1))
    ]
    go false e c ih = let r = ih c in (contains_rest y x ys r.0, r.1)

pub filter_has : {T : Type 0} (t : T → Bool) (xs : List T) (x : T) → Contains xs x → t x ≡ true → Contains (filter t xs) x
filter_has t [] x c e = c
filter_has t (y ∷ ys) x c e = go (t y) refl (contains_cases y x ys c) (λ d. filter_has t ys x d e)
  where
    go : (b : Bool) → t y ≡ b → (y ≡ x) ⊎ Contains ys x → (Contains ys x → Contains (filter t ys) x) → Contains (cond b (y ∷ filter t ys) (filter t ys)) x
    go true b (inl q) ih = (0, omega arith, q)
    go true b (inr d) ih = contains_rest y x (filter t ys) (ih d)
    go false b (inl q) ih = absurd (not_both (t x) e (ap t (sym q) ∙ b))
    go false b (inr d) ih = ih d

pub mapped_has : {T U : Type 0} (f : T → U) (xs : List T) (x : T) → Contains xs x → Contains (map f xs) (f x)
mapped_has f [] x c = let l = c.1 in absurd (omega arith)
mapped_has f (y ∷ ys) x c = elim (contains_cases y x ys c) [
  | inl e ↦ (0, omega arith, ap f e)
  | inr d ↦ contains_rest (f y) (f x) (map f ys) (mapped_has f ys x d)
]

-- ---- places of lists

pub contains_place : {T : Type 0} (xs : List T) (x : T) → Contains xs x → (k : ℕ) × (slice_get xs k ≡ Some x)
contains_place [] x c = let l = c.1 in absurd (omega arith)
contains_place (y ∷ ys) x c = elim (contains_cases y x ys c) [
  | inl e ↦ (0, ap (λ z. Some z) e)
  | inr d ↦ (let r = contains_place ys x d in (suc r.0, r.1))
]

pub place_contains : {T : Type 0} (xs : List T) (k : ℕ) (x : T) → slice_get xs k ≡ Some x → Contains xs x
place_contains [] k x q = cc
place_contains (y ∷ ys) zero x q = (let e : y ≡ x = cc in (0, omega arith, e))
place_contains (y ∷ ys) (suc k) x q = contains_rest y x ys (place_contains ys k x q)

pub place_within : {T : Type 0} (xs : List T) (k : ℕ) (x : T) → slice_get xs k ≡ Some x → k < length xs
place_within [] k x q = cc
place_within (y ∷ ys) zero x q = omega arith
place_within (y ∷ ys) (suc k) x q = (let a = place_within ys k x q in omega arith)

-- ---- checks

pub none_both : {A : Type 0} (xs ys : List (Option A)) → first xs ≡ None → first ys ≡ None → first (xs ++ ys) ≡ None
none_both [] ys e f = f
none_both (None ∷ xs) ys e f = none_both xs ys e f
none_both (Some x ∷ xs) ys e f = cc
