use Rattle.std.proofs.Common.{◌≡◌, ℕ, ◌+◌, ◌-◌, ◌<◌, ◌≤◌, ◌↔◌, refl, arith, inl, inr, Bool, true, false, cond, nat_lt, IsTrue, List, [], ◌∷◌, ◌++◌}
use Rattle.std.specs.List.{AllByRecursion}
use Rattle.std.proofs.lemmas.Bool.{cases_lt}
use Rattle.std.proofs.lemmas.Bool.Decides.{nat_tests}
use Rattle.span_set.specs.declared.runs.Run.{Run}
use Rattle.span_set.specs.Runs.{in_runs, IsBetween, AreApart, left_part, right_part}
use Rattle.span_set.proofs.Members.{InRuns, in_from_test, test_from_in, In-left, In-right, In-cases, In_before, In_behind, apart_from, apart_joined, apart_raised, All-weaker}
use Rattle.span_set.proofs.Joined.{Touches, ends_of}

-- the new list has the numbers of the old one but those from first to last
abbrev pub IsTaken : ℕ → ℕ → List Run → List Run → Type 0
IsTaken first last old new = (a : ℕ) → IsTrue (in_runs new a) ↔ (IsTrue (in_runs old a) × ¬ IsBetween first last a)

-- what is left of a run before a number, and behind one
pub data LeftPart (first : ℕ) (run : Run) (part : List Run) : Type 0 where
  some : run.first < first → part ≡ record { first = run.first; last = first - 1 } ∷ [] → LeftPart first run part
  none : first ≤ run.first → part ≡ [] → LeftPart first run part

pub left_cases : (first : ℕ) (run : Run) → LeftPart first run (left_part first run)
left_cases first run = go (nat_lt run.first first) refl where
  go : (t : Bool) → nat_lt run.first first ≡ t → LeftPart first run (cond t (record { first = run.first; last = first - 1 } ∷ []) [])
  go true e = some (grind (arith, nat_tests)) refl
  go false e = none (grind (arith, nat_tests)) refl

pub data RightPart (last : ℕ) (run : Run) (part : List Run) : Type 0 where
  more : last < run.last → part ≡ record { first = last + 1; last = run.last } ∷ [] → RightPart last run part
  less : run.last ≤ last → part ≡ [] → RightPart last run part

pub right_cases : (last : ℕ) (run : Run) → RightPart last run (right_part last run)
right_cases last run = go (nat_lt last run.last) refl where
  go : (t : Bool) → nat_lt last run.last ≡ t → RightPart last run (cond t (record { first = last + 1; last = run.last } ∷ []) [])
  go true e = more (grind (arith, nat_tests)) refl
  go false e = less (grind (arith, nat_tests)) refl

left_members : (first : ℕ) (run : Run) (part : List Run) → LeftPart first run part → (a : ℕ) → InRuns part a ↔ ((run.first ≤ a) × (a < first))
left_members first run part (some p e) a = rw e (
  (λ h. elim h [ inl k ↦ (let l = k.0 in let u = k.1 in (omega arith, omega arith)) | inr k ↦ absurd k ]),
  (λ h. let l = h.0 in let u = h.1 in inl (omega arith, omega arith)),
)
left_members first run part (none p e) a = rw e ((λ h. absurd h), (λ h. let l = h.0 in let u = h.1 in absurd (omega arith)))

right_members : (last : ℕ) (run : Run) (part : List Run) → RightPart last run part → (a : ℕ) → InRuns part a ↔ ((last < a) × (a ≤ run.last))
right_members last run part (more p e) a = rw e (
  (λ h. elim h [ inl k ↦ (let l = k.0 in let u = k.1 in (omega arith, omega arith)) | inr k ↦ absurd k ]),
  (λ h. let l = h.0 in let u = h.1 in inl (omega arith, omega arith)),
)
right_members last run part (less p e) a = rw e ((λ h. absurd h), (λ h. let l = h.0 in let u = h.1 in absurd (omega arith)))

-- some runs, what is left of the first and of the last run that are met, and the runs behind
abbrev pub parted : ℕ → ℕ → List Run → Run → Run → List Run → List Run
parted first last xs low high ys = xs ++ (left_part first low ++ (right_part last high ++ ys))

pub taken_parted : (first last : ℕ) (runs xs ys : List Run) (low high : Run) → first ≤ last → Touches 0 first last runs xs ys low high
    → AllByRecursion (λ run. run.last + 0 < first) xs → AllByRecursion (λ run. last + 0 < run.first) ys
    → IsTaken first last runs (parted first last xs low high ys)
taken_parted first last runs xs ys low high o t before behind a =
    let e = ends_of 0 first last runs xs ys low high t in
    let reached = t.reached in
    let begun = t.begun in
    let left = left_part first low in
    let right = right_part last high in
    let in_left = left_members first low left (left_cases first low) a in
    let in_right = right_members last high right (right_cases last high) a in (
      (λ s. elim (In-cases xs (left ++ (right ++ ys)) a (in_from_test (parted first last xs low high ys) a s)) [
        | inl h ↦ (test_from_in runs a (e.front a h), λ b. omega (arith, b.0, In_before 0 first xs a before h))
        | inr h ↦ elim (In-cases left (right ++ ys) a h) [
          | inl k ↦ let l = in_left.0 k in (test_from_in runs a (e.low_in a (l.0, omega (arith, l.1))), λ b. omega (arith, b.0, l.1))
          | inr k ↦ elim (In-cases right ys a k) [
            | inl g ↦ let r = in_right.0 g in (test_from_in runs a (e.high_in a (omega (arith, r.0), r.1)), λ b. omega (arith, b.1, r.0))
            | inr g ↦ (test_from_in runs a (e.back a g), λ b. omega (arith, b.1, In_behind 0 last ys a behind g))
          ]
        ]
      ]),
      (λ s. test_from_in (parted first last xs low high ys) a (elim (e.split a (in_from_test runs a s.0)) [
        | inl h ↦ In-left xs (left ++ (right ++ ys)) a h
        | inr h ↦ In-right xs (left ++ (right ++ ys)) a (elim h [
          | inl g ↦ In-right left (right ++ ys) a (In-right right ys a g)
          | inr g ↦ elim (cases_lt a first) [
            | inl under ↦ In-left left (right ++ ys) a (in_left.1 (g.0, under))
            | inr from ↦ elim (cases_lt last a) [
              | inl over ↦ In-right left (right ++ ys) a (In-left right ys a (in_right.1 (over, g.1)))
              | inr upto ↦ absurd (s.1 (from, upto))
            ]
          ]
        ])
      ])),
    )

right_apart : (last : ℕ) (high : Run) (part ys : List Run) → RightPart last high part → AreApart (high.last + 2) ys → AllByRecursion (λ run. last + 0 < run.first) ys → AreApart (last + 1) (part ++ ys)
right_apart last high part ys (more p e) h behind = rw e (omega arith, omega arith, h)
right_apart last high part ys (less p e) h behind = rw e (apart_raised (last + 1) (high.last + 2) ys h (All-weaker _ _ ys (λ x (k : last + 0 < x.first). (let r : last + 1 ≤ x.first = omega arith in r)) behind))

left_apart : (first last : ℕ) (low : Run) (xs part rest : List Run) → first ≤ last → LeftPart first low part → AreApart 0 xs → AllByRecursion (λ run. run.last + 2 ≤ low.first) xs
    → AllByRecursion (λ run. run.last + 0 < first) xs → AreApart (last + 1) rest → AreApart 0 (xs ++ (part ++ rest))
left_apart first last low xs part rest o (some p e) h ahead before k =
    rw e (apart_joined 0 low.first xs _ h ahead (omega arith) (omega arith, omega arith, apart_from _ (last + 1) rest (omega arith) k))
left_apart first last low xs part rest o (none p e) h ahead before k =
    rw e (apart_joined 0 (last + 1) xs rest h (All-weaker _ _ xs (λ x (l : x.last + 0 < first). (let r : x.last + 2 ≤ last + 1 = omega arith in r)) before) (omega arith) k)

pub apart_parted : (first last : ℕ) (runs xs ys : List Run) (low high : Run) → first ≤ last → Touches 0 first last runs xs ys low high
    → AllByRecursion (λ run. run.last + 0 < first) xs → AllByRecursion (λ run. last + 0 < run.first) ys
    → AreApart 0 (parted first last xs low high ys)
apart_parted first last runs xs ys low high o t before behind =
    let e = ends_of 0 first last runs xs ys low high t in
    let right = right_apart last high (right_part last high) ys (right_cases last high) e.back_apart behind in
    left_apart first last low xs (left_part first low) (right_part last high ++ ys) o (left_cases first low) e.front_apart e.ahead before right
