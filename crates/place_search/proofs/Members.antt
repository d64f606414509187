-- What lists contain that are mapped, filtered and joined.
use Rattle.std.proofs.Common.{◌≡◌, ℕ, ◌++◌, ◌&&◌, Bool, true, false, cond, List, [], ◌∷◌, map, filter, refl, ap, sym, ◌∙◌, arith, inl, inr, subst, ◌⊎◌, Contains}
use Rattle.std.specs.List.{flat_map}
use Rattle.std.proofs.lemmas.List.Concat.{flat_map-cons}
use Rattle.std.proofs.lemmas.List.Elements.{Contains-append_left, Contains-append_right, Contains-append_cases}
use Rattle.ipam_data.proofs.RowLists.{contains_cases, contains_head, contains_rest}
use Rattle.ipam_data.proofs.Kept.{contains_map}

pub both : (a b : Bool) → (a && b) ≡ true → (a ≡ true) × (b ≡ true)
both true b e = (refl, e)
both false b e = cc

pub none : {A : Type 0} (x : A) → Contains [] x → {P : Type 0} → P
none x c = let h = c.1 in absurd (omega arith)

module _ {A : Type 0} where
  pub map_has : {B : Type 0} (f : A → B) (xs : List A) (x : A) → Contains xs x → Contains (map f xs) (f x)
  map_has f [] x c = none x c
  map_has f (y ∷ ys) x c = elim (contains_cases y x ys c) [
    | inl e ↦ (0, omega arith, ap f e)
    | inr d ↦ contains_rest (f y) (f x) (map f ys) (map_has f ys x d)
  ]

  pub filter_has : (p : A → Bool) (xs : List A) (x : A) → Contains xs x → p x ≡ true → Contains (filter p xs) x
  filter_has p [] x c t = c
  filter_has p (y ∷ ys) x c t = go (p y) refl (contains_cases y x ys c) (λ d. filter_has p ys x d t)
    where
      go : (s : Bool) → p y ≡ s → (y ≡ x) ⊎ Contains ys x → (Contains ys x → Contains (filter p ys) x) → Contains (cond s (y ∷ filter p ys) (filter p ys)) x
      go true s (inl e) ih = (0, omega arith, e)
      go true s (inr d) ih = contains_rest y x (filter p ys) (ih d)
      go false s (inl e) ih = let f : true ≡ false = sym t ∙ ap p (sym e) ∙ s in cc
      go false s (inr d) ih = ih d

  pub filter_from : (p : A → Bool) (xs : List A) (x : A) → Contains (filter p xs) x → Contains xs x × (p x ≡ true)
  filter_from p [] x c = none x c
  filter_from p (y ∷ ys) x c = go (p y) refl c (filter_from p ys x)
    where
      go : (s : Bool) → p y ≡ s → Contains (cond s (y ∷ filter p ys) (filter p ys)) x → (Contains (filter p ys) x → Contains ys x × (p x ≡ true)) → Contains (y ∷ ys) x × (p x ≡ true)
      go true s d ih = elim (contains_cases y x (filter p ys) d) [
        | inl e ↦ ((0, omega arith, e), ap p (sym e) ∙ s)
        | inr r ↦ (let k = ih r in (contains_rest y x ys k.0, k.1))
      ]
      go false s d ih = let k = ih d in (contains_rest y x ys k.0, k.1)

  pub flat_has : {B : Type 0} (f : A → List B) (xs : List A) (x : A) (y : B) → Contains xs x → Contains (f x) y → Contains (flat_map f xs) y
  flat_has f [] x y c d = none x c
  flat_has f (z ∷ zs) x y c d = rw (flat_map-cons f z zs) (elim (contains_cases z x zs c) [
    | inl e ↦ Contains-append_left (f z) (flat_map f zs) y (subst (λ a. Contains (f a) y) (sym e) d)
    | inr r ↦ Contains-append_right (f z) (flat_map f zs) y (flat_has f zs x y r d)
  ])

  pub flat_from : {B : Type 0} (f : A → List B) (xs : List A) (y : B) → Contains (flat_map f xs) y → (x : A) × Contains xs x × Contains (f x) y
  flat_from f [] y c = none y c
  flat_from f (z ∷ zs) y c = elim (Contains-append_cases (f z) (flat_map f zs) y (rw (flat_map-cons f z zs) at c)) [
    | inl d ↦ (z, contains_head z zs, d)
    | inr d ↦ (let r = flat_from f zs y d in (r.0, contains_rest z r.0 zs r.1, r.2))
  ]
