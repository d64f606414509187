use Rattle.std.proofs.Common.{◌≡◌, ◌⊎◌, ℕ, ◌+◌, ◌<◌, ◌≤◌, refl, arith, inl, inr, Bool, true, false, IsTrue, Result, Ok, Err, OnOk, OnErr, List, [], ◌∷◌, ◌++◌}
use Rattle.std.specs.List.{AllByRecursion}
use Rattle.std.proofs.lemmas.Bool.Decides.{nat_tests}
use Rattle.span_set.specs.declared.runs.Run.{Run}
use Rattle.span_set.specs.Runs.{in_run, in_runs, IsBetween, AreApart}

-- some run has the number, by recursion on the list
abbrev pub InRuns : List Run → ℕ → Type 0
InRuns [] a = ⊥
InRuns (run ∷ runs) a = IsBetween run.first run.last a ⊎ InRuns runs a

-- the test tells it
pub in_from_test : (runs : List Run) (a : ℕ) → IsTrue (in_runs runs a) → InRuns runs a
in_from_test [] a h = let f : IsTrue false = h in cc
in_from_test (run ∷ runs) a h = go (in_run run a) refl (in_from_test runs a) where
  go : (t : Bool) → in_run run a ≡ t → (IsTrue (in_runs runs a) → InRuns runs a) → InRuns (run ∷ runs) a
  go true e later = inl (grind (arith, nat_tests), grind (arith, nat_tests))
  go false e later = let rest : IsTrue (in_runs runs a) = grind arith in inr (later rest)

pub test_from_in : (runs : List Run) (a : ℕ) → InRuns runs a → IsTrue (in_runs runs a)
test_from_in [] a h = absurd h
test_from_in (run ∷ runs) a (inl h) =
    let low = h.0 in
    let high = h.1 in
    let here : in_run run a ≡ true = grind (arith, nat_tests) in
    grind arith
test_from_in (run ∷ runs) a (inr h) = let rest : IsTrue (in_runs runs a) = test_from_in runs a h in grind arith

-- ---- in lists joined end to end

pub In-left : (xs ys : List Run) (a : ℕ) → InRuns xs a → InRuns (xs ++ ys) a
In-left [] ys a h = elim h [ ]
In-left (x ∷ xs) ys a (inl h) = inl h
In-left (x ∷ xs) ys a (inr h) = inr (In-left xs ys a h)

pub In-right : (xs ys : List Run) (a : ℕ) → InRuns ys a → InRuns (xs ++ ys) a
In-right [] ys a h = h
In-right (x ∷ xs) ys a h = inr (In-right xs ys a h)

pub In-cases : (xs ys : List Run) (a : ℕ) → InRuns (xs ++ ys) a → InRuns xs a ⊎ InRuns ys a
In-cases [] ys a h = inr h
In-cases (x ∷ xs) ys a (inl h) = inl (inl h)
In-cases (x ∷ xs) ys a (inr h) = elim (In-cases xs ys a h) [ inl k ↦ inl (inr k) | inr k ↦ inr k ]

-- ---- the numbers of runs lie between bounds of the runs

pub In_from : (from : ℕ) (runs : List Run) (a : ℕ) → AreApart from runs → InRuns runs a → from ≤ a
In_from from [] a h k = absurd k
In_from from (run ∷ runs) a h (inl k) = omega (arith, h.0, k.0)
In_from from (run ∷ runs) a h (inr k) = let later = In_from (run.last + 2) runs a h.2 k in omega (arith, h.0, h.1)

pub In_before : (gap first : ℕ) (runs : List Run) (a : ℕ) → AllByRecursion (λ run. run.last + gap < first) runs → InRuns runs a → a + gap < first
In_before gap first [] a h k = absurd k
In_before gap first (run ∷ runs) a h (inl k) = omega (arith, h.0, k.1)
In_before gap first (run ∷ runs) a h (inr k) = In_before gap first runs a h.1 k

pub In_behind : (gap last : ℕ) (runs : List Run) (a : ℕ) → AllByRecursion (λ run. last + gap < run.first) runs → InRuns runs a → last + gap < a
In_behind gap last [] a h k = absurd k
In_behind gap last (run ∷ runs) a h (inl k) = omega (arith, h.0, k.0)
In_behind gap last (run ∷ runs) a h (inr k) = In_behind gap last runs a h.1 k

-- ---- runs that are apart, in lists joined end to end

pub apart_from : (m n : ℕ) (runs : List Run) → m ≤ n → AreApart n runs → AreApart m runs
apart_from m n [] le h = tt
apart_from m n (run ∷ runs) le h = (let l = h.0 in omega arith, h.1, h.2)

-- a higher number, where the first run begins there or behind
pub apart_raised : (m n : ℕ) (runs : List Run) → AreApart n runs → AllByRecursion (λ run. m ≤ run.first) runs → AreApart m runs
apart_raised m n [] h k = tt
apart_raised m n (run ∷ runs) h k = (k.0, h.1, h.2)

pub apart_joined : (from mid : ℕ) (xs ys : List Run) → AreApart from xs → AllByRecursion (λ run. run.last + 2 ≤ mid) xs → from ≤ mid → AreApart mid ys → AreApart from (xs ++ ys)
apart_joined from mid [] ys h g l k = apart_from from mid ys l k
apart_joined from mid (x ∷ xs) ys h g l k = (h.0, h.1, apart_joined (x.last + 2) mid xs ys h.2 g.1 g.0 k)

pub apart_front : (from : ℕ) (xs ys : List Run) → AreApart from (xs ++ ys) → AreApart from xs
apart_front from [] ys h = tt
apart_front from (x ∷ xs) ys h = (h.0, h.1, apart_front (x.last + 2) xs ys h.2)

pub apart_back : (from : ℕ) (xs ys : List Run) → AreApart from (xs ++ ys) → AreApart from ys
apart_back from [] ys h = h
apart_back from (x ∷ xs) ys h = apart_from from (x.last + 2) ys (omega (arith, h.0, h.1)) (apart_back (x.last + 2) xs ys h.2)

-- the runs in front of one end two before it begins
pub ends_ahead : (from : ℕ) (xs : List Run) (run : Run) (ys : List Run) → AreApart from (xs ++ run ∷ ys) → AllByRecursion (λ x. x.last + 2 ≤ run.first) xs
ends_ahead from [] run ys h = tt
ends_ahead from (x ∷ xs) run ys h =
    let later = apart_back (x.last + 2) xs (run ∷ ys) h.2 in
    (later.0, ends_ahead (x.last + 2) xs run ys h.2)

pub All-append : (P : Run → Type 0) (xs ys : List Run) → AllByRecursion P xs → AllByRecursion P ys → AllByRecursion P (xs ++ ys)
All-append P [] ys h k = k
All-append P (x ∷ xs) ys h k = (h.0, All-append P xs ys h.1 k)

pub All-front : (P : Run → Type 0) (xs ys : List Run) → AllByRecursion P (xs ++ ys) → AllByRecursion P xs
All-front P [] ys h = tt
All-front P (x ∷ xs) ys h = (h.0, All-front P xs ys h.1)

pub All-back : (P : Run → Type 0) (xs ys : List Run) → AllByRecursion P (xs ++ ys) → AllByRecursion P ys
All-back P [] ys h = h
All-back P (x ∷ xs) ys h = All-back P xs ys h.1

pub All-weaker : (P Q : Run → Type 0) (xs : List Run) → ((x : Run) → P x → Q x) → AllByRecursion P xs → AllByRecursion Q xs
All-weaker P Q [] f h = tt
All-weaker P Q (x ∷ xs) f h = (f x h.0, All-weaker P Q xs f h.1)

-- what an Ok brings
pub on_ok : {T E : Type 0} (r : Result T E) {P Q : Type 0} → (P → Q) → OnOk r P → OnOk r Q
on_ok (Ok x) f h = f h
on_ok (Err e) f h = tt

-- a fact that either answer brings
pub either : {T E : Type 0} (r : Result T E) {P Q S : Type 0} → OnOk r P → OnErr r Q → (P → S) → (Q → S) → S
either (Ok x) h k f g = f h
either (Err e) h k f g = g k
