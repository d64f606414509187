use Rattle.std.proofs.Common.{◌≡◌, ◌⊎◌, ℕ, zero, suc, ◌+◌, ◌-◌, ◌≤◌, refl, sym, ◌∙◌, ap, subst, arith, inl, inr, List, [], ◌∷◌}
use Rattle.std.specs.List.{AllByRecursion, Contains}
use Rattle.std.proofs.lemmas.Nat.{pow_pos}
use Rattle.inet_num.specs.Net.{width_of, Cidr, size_of}
use Rattle.inet_num.specs.Free.{InOrder, ListsAvailable}

-- membership by recursion
abbrev pub Member : List Cidr → Cidr → Type 0
Member [] m = ⊥
Member (x ∷ xs) m = (m ≡ x) ⊎ Member xs m

pub Member-from_Contains : (xs : List Cidr) (m : Cidr) → Contains xs m → Member xs m
Member-from_Contains [] m h = absurd (omega (arith, h.1))
Member-from_Contains (x ∷ xs) m (zero, l, e) = inl (sym e)
Member-from_Contains (x ∷ xs) m (suc k, l, e) = inr (Member-from_Contains xs m (k, omega arith, e))

pub Contains-from_Member : (xs : List Cidr) (m : Cidr) → Member xs m → Contains xs m
Contains-from_Member [] m h = elim h [ ]
Contains-from_Member (x ∷ xs) m (inl e) = (0, omega arith, sym e)
Contains-from_Member (x ∷ xs) m (inr h) = let later = Contains-from_Member xs m h in (suc later.0, (let l = later.1 in omega arith), later.2)

-- what is listed in order begins at the number or after it
after : (from : ℕ) (xs : List Cidr) (m : Cidr) → InOrder from xs → Member xs m → from ≤ m.first
after from [] m o h = elim h [ ]
after from (x ∷ xs) m o (inl e) = (let f = ap (λ (b : Cidr). b.first) e in let low = o.0 in omega arith)
after from (x ∷ xs) m o (inr h) = (let later = after (x.first + size_of x) xs m o.1 h in let low = o.0 in omega arith)

-- two lists in order with the same members are one
pub same_lists : (a b : ℕ) (xs ys : List Cidr) → InOrder a xs → InOrder b ys → ((m : Cidr) → Member xs m → Member ys m) → ((m : Cidr) → Member ys m → Member xs m) → xs ≡ ys
same_lists a b [] [] o p f g = refl
same_lists a b [] (y ∷ ys) o p f g = absurd (g y (inl refl))
same_lists a b (x ∷ xs) [] o p f g = absurd (f x (inl refl))
same_lists a b (x ∷ xs) (y ∷ ys) o p f g =
    let some_x = pow_pos (width_of x.family - x.len) in
    let some_y = pow_pos (width_of y.family - y.len) in
    let heads : x ≡ y = elim (f x (inl refl)) [
      | inl e ↦ e
      | inr h ↦ elim (g y (inl refl)) [
        | inl e ↦ sym e
        | inr k ↦
            let low = after (y.first + size_of y) ys x p.1 h in
            let high = after (x.first + size_of x) xs y o.1 k in
            absurd (omega arith)
      ]
    ] in
    let first = ap (λ (c : Cidr). c.first) heads in
    let tails : xs ≡ ys = same_lists (x.first + size_of x) (y.first + size_of y) xs ys o.1 p.1
    (λ m h. elim (f m (inr h)) [ inr k ↦ k | inl e ↦ (let low = after (x.first + size_of x) xs m o.1 h in let n = ap (λ (c : Cidr). c.first) e in absurd (omega arith)) ])
    (λ m h. elim (g m (inr h)) [ inr k ↦ k | inl e ↦ (let low = after (y.first + size_of y) ys m p.1 h in let n = ap (λ (c : Cidr). c.first) e in absurd (omega arith)) ]) in
    ap (λ (c : Cidr). c ∷ xs) heads ∙ ap (λ (zs : List Cidr). y ∷ zs) tails

member_is : (P : Cidr → Type 0) (xs : List Cidr) (m : Cidr) → AllByRecursion P xs → Member xs m → P m
member_is P [] m h k = elim k [ ]
member_is P (x ∷ xs) m h (inl e) = subst P (sym e) h.0
member_is P (x ∷ xs) m h (inr k) = member_is P xs m h.1 k

-- the available blocks are one list
pub one_list : (within : Cidr) (blocks xs ys : List Cidr) → ListsAvailable within blocks xs → ListsAvailable within blocks ys → xs ≡ ys
one_list within blocks xs ys h k = same_lists within.first within.first xs ys h.ordered k.ordered
    (λ m i. Member-from_Contains ys m (k.complete m (member_is _ xs m h.each i)))
    (λ m i. Member-from_Contains xs m (h.complete m (member_is _ ys m k.each i)))
