use Rattle.std.proofs.Common.{◌≡◌, ◌⊎◌, ℕ, ◌+◌, ◌-◌, ◌<◌, ◌≤◌, ◌↔◌, min, max, sym, ◌∙◌, ap, subst, arith, inl, inr, IsTrue, List, [], ◌∷◌, ◌++◌, length, take, drop, get_or}
use Rattle.std.specs.List.{AllByRecursion}
use Rattle.std.proofs.lemmas.List.{drop_more, take-append-drop, length-take, get_or-take}
use Rattle.std.proofs.lemmas.List.Elements.{All-from_recursion}
use Rattle.std.proofs.lemmas.Bool.{cases_lt}
use Rattle.span_set.specs.declared.runs.Run.{Run}
use Rattle.span_set.specs.Runs.{in_runs, IsBetween, AreApart}
use Rattle.span_set.proofs.Members.{InRuns, in_from_test, test_from_in, In-left, In-right, In-cases, In_from, apart_joined, apart_raised, apart_front, apart_back, ends_ahead, All-weaker}

-- the new list has the numbers of the old one, and those from first to last
abbrev pub IsAdded : ℕ → ℕ → List Run → List Run → Type 0
IsAdded first last old new = (a : ℕ) → IsTrue (in_runs new a) ↔ (IsTrue (in_runs old a) ⊎ IsBetween first last a)

-- a run between some runs and others
pub added_between : (first last : ℕ) (xs ys : List Run) → IsAdded first last (xs ++ ys) (xs ++ record { first = first; last = last } ∷ ys)
added_between first last xs ys a =
    let run : Run = record { first = first; last = last } in (
      (λ t. elim (In-cases xs (run ∷ ys) a (in_from_test (xs ++ run ∷ ys) a t)) [
        | inl h ↦ inl (test_from_in (xs ++ ys) a (In-left xs ys a h))
        | inr h ↦ elim h [ inl k ↦ inr k | inr k ↦ inl (test_from_in (xs ++ ys) a (In-right xs ys a k)) ]
      ]),
      (λ t. test_from_in (xs ++ run ∷ ys) a (elim t [
        | inr k ↦ In-right xs (run ∷ ys) a (inl k)
        | inl k ↦ elim (In-cases xs ys a (in_from_test (xs ++ ys) a k)) [ inl h ↦ In-left xs (run ∷ ys) a h | inr h ↦ In-right xs (run ∷ ys) a (inr h) ]
      ])),
    )

pub apart_between : (first last : ℕ) (xs ys : List Run) → first ≤ last → AreApart 0 (xs ++ ys) → AllByRecursion (λ run. run.last + 1 < first) xs → AllByRecursion (λ run. last + 1 < run.first) ys
    → AreApart 0 (xs ++ record { first = first; last = last } ∷ ys)
apart_between first last xs ys o h before behind =
    let run : Run = record { first = first; last = last } in
    apart_joined 0 first xs (run ∷ ys) (apart_front 0 xs ys h) (All-weaker _ _ xs (λ x (k : x.last + 1 < first). (let e : x.last + 2 ≤ first = omega arith in e)) before) (omega arith)
    (omega arith, o, apart_raised (last + 2) 0 ys (apart_back 0 xs ys h) (All-weaker _ _ ys (λ x (k : last + 1 < x.first). (let e : last + 2 ≤ x.first = omega arith in e)) behind))

-- the runs of a list from the first one, low, to the last one, high, that the span touches
pub record Touches (gap first last : ℕ) (runs xs ys : List Run) (low high : Run) : Type 0 where
  pub tail : List Run
  pub head : List Run
  pub begins : runs ≡ xs ++ low ∷ tail
  pub ends : runs ≡ head ++ high ∷ ys
  pub apart : AreApart 0 runs
  pub reached : first ≤ low.last + gap
  pub begun : high.first ≤ last + gap

-- what is known of the two
pub record Ends (runs xs ys : List Run) (low high : Run) : Type 0 where
  pub low_in : (a : ℕ) → IsBetween low.first low.last a → InRuns runs a
  pub high_in : (a : ℕ) → IsBetween high.first high.last a → InRuns runs a
  pub low_own : low.first ≤ low.last
  pub high_own : high.first ≤ high.last
  pub split : (a : ℕ) → InRuns runs a → InRuns xs a ⊎ (InRuns ys a ⊎ IsBetween low.first high.last a)
  pub front : (a : ℕ) → InRuns xs a → InRuns runs a
  pub back : (a : ℕ) → InRuns ys a → InRuns runs a
  pub ahead : AllByRecursion (λ x. x.last + 2 ≤ low.first) xs
  pub front_apart : AreApart 0 xs
  pub back_apart : AreApart (high.last + 2) ys

-- a number of the runs up to a last one is not above its end
In_until : (from : ℕ) (xs : List Run) (run : Run) (ys : List Run) (a : ℕ) → AreApart from (xs ++ run ∷ ys) → InRuns (xs ++ run ∷ ys) a → InRuns ys a ⊎ (a ≤ run.last)
In_until from [] run ys a h (inl k) = inr k.1
In_until from [] run ys a h (inr k) = inl k
In_until from (x ∷ xs) run ys a h (inl k) =
    let later = apart_back (x.last + 2) xs (run ∷ ys) h.2 in
    inr (omega (arith, k.1, later.0, later.1))
In_until from (x ∷ xs) run ys a h (inr k) = In_until (x.last + 2) xs run ys a h.2 k

pub ends_of : (gap first last : ℕ) (runs xs ys : List Run) (low high : Run) → Touches gap first last runs xs ys low high → Ends runs xs ys low high
ends_of gap first last runs xs ys low high t =
    let begins_apart : AreApart 0 (xs ++ low ∷ t.tail) = subst (AreApart 0) t.begins t.apart in
    let ends_apart : AreApart 0 (t.head ++ high ∷ ys) = subst (AreApart 0) t.ends t.apart in
    let low_apart = apart_back 0 xs (low ∷ t.tail) begins_apart in
    let high_apart = apart_back 0 t.head (high ∷ ys) ends_apart in
    let by_begins = λ (a : ℕ) (k : InRuns (xs ++ low ∷ t.tail) a). subst (λ (zs : List Run). InRuns zs a) (sym t.begins) k in
    let by_ends = λ (a : ℕ) (k : InRuns (t.head ++ high ∷ ys) a). subst (λ (zs : List Run). InRuns zs a) (sym t.ends) k in
    record {
      low_in = λ a k. by_begins a (In-right xs (low ∷ t.tail) a (inl k));
      high_in = λ a k. by_ends a (In-right t.head (high ∷ ys) a (inl k));
      low_own = low_apart.1;
      high_own = high_apart.1;
      front = λ a k. by_begins a (In-left xs (low ∷ t.tail) a k);
      back = λ a k. by_ends a (In-right t.head (high ∷ ys) a (inr k));
      ahead = ends_ahead 0 xs low t.tail begins_apart;
      front_apart = apart_front 0 xs (low ∷ t.tail) begins_apart;
      back_apart = high_apart.2;
      split = λ a k. elim (In-cases xs (low ∷ t.tail) a (subst (λ (zs : List Run). InRuns zs a) t.begins k)) [
        | inl h ↦ inl h
        | inr h ↦ elim (In_until 0 t.head high ys a ends_apart (subst (λ (zs : List Run). InRuns zs a) t.ends k)) [
          | inl g ↦ inr (inl g)
          | inr g ↦ inr (inr (In_from low.first (low ∷ t.tail) a (omega arith, low_apart.1, low_apart.2) h, g))
        ]
      ];
    }

-- from the indexes of the first run that is touched, and of the one behind the last
pub touches_at : (gap first last : ℕ) (runs : List Run) (from to : ℕ) (low high : Run) → AreApart 0 runs → from < to → to ≤ length runs
    → low ≡ get_or runs from low → high ≡ get_or runs (to - 1) high
    → AllByRecursion (λ run. first ≤ run.last + gap) (drop from runs) → AllByRecursion (λ run. run.first ≤ last + gap) (take to runs)
    → Touches gap first last runs (take from runs) (drop to runs) low high
touches_at gap first last runs from to low high h o l low_is high_is reached begun =
    let P : Run → Type 0 = λ run. first ≤ run.last + gap in
    let Q : Run → Type 0 = λ run. run.first ≤ last + gap in
    let inside : from < length runs = omega arith in
    let low_here : drop from runs ≡ low ∷ drop (from + 1) runs = drop_more runs from low inside ∙ ap (λ (run : Run). run ∷ drop (from + 1) runs) (sym low_is) in
    let next : to - 1 + 1 ≡ to = omega arith in
    let high_here : drop (to - 1) runs ≡ high ∷ drop to runs =
    drop_more runs (to - 1) high (omega arith) ∙ ap (λ (run : Run). run ∷ drop (to - 1 + 1) runs) (sym high_is) ∙ ap (λ k. high ∷ drop k runs) next in
    let short : to - 1 < length (take to runs) = omega (arith, length-take to runs) in
    let high_there : get_or (take to runs) (to - 1) high ≡ high = get_or-take to runs (to - 1) high (omega arith) ∙ sym high_is in
    record {
      tail = drop (from + 1) runs;
      head = take (to - 1) runs;
      begins = sym (take-append-drop from runs) ∙ ap (λ zs. take from runs ++ zs) low_here;
      ends = sym (take-append-drop (to - 1) runs) ∙ ap (λ zs. take (to - 1) runs ++ zs) high_here;
      apart = h;
      reached = (subst (λ (zs : List Run). AllByRecursion P zs) low_here reached).0;
      begun = subst Q high_there (All-from_recursion Q (take to runs) begun (to - 1) high short);
    }

-- the span and the runs that it touches, as one run
abbrev pub joined : ℕ → ℕ → Run → Run → Run
joined first last low high = record { first = min first low.first; last = max last high.last }

pub added_joined : (first last : ℕ) (runs xs ys : List Run) (low high : Run) → first ≤ last → Touches 1 first last runs xs ys low high
    → IsAdded first last runs (xs ++ joined first last low high ∷ ys)
added_joined first last runs xs ys low high o t a =
    let e = ends_of 1 first last runs xs ys low high t in
    let run : Run = joined first last low high in
    let reached = t.reached in
    let begun = t.begun in (
      (λ s. elim (In-cases xs (run ∷ ys) a (in_from_test (xs ++ run ∷ ys) a s)) [
        | inl h ↦ inl (test_from_in runs a (e.front a h))
        | inr h ↦ elim h [
          | inr k ↦ inl (test_from_in runs a (e.back a k))
          | inl k ↦ elim (cases_lt a first) [
            | inl less ↦ inl (test_from_in runs a (e.low_in a (omega (arith, k.0), omega arith)))
            | inr from ↦ elim (cases_lt last a) [
              | inl more ↦ inl (test_from_in runs a (e.high_in a (omega arith, omega (arith, k.1))))
              | inr upto ↦ inr (from, upto)
            ]
          ]
        ]
      ]),
      (λ s. test_from_in (xs ++ run ∷ ys) a (elim s [
        | inr k ↦ In-right xs (run ∷ ys) a (inl (omega (arith, k.0), omega (arith, k.1)))
        | inl k ↦ elim (e.split a (in_from_test runs a k)) [
          | inl h ↦ In-left xs (run ∷ ys) a h
          | inr h ↦ elim h [ inl g ↦ In-right xs (run ∷ ys) a (inr g) | inr g ↦ In-right xs (run ∷ ys) a (inl (omega (arith, g.0), omega (arith, g.1))) ]
        ]
      ])),
    )

pub apart_with_joined : (first last : ℕ) (runs xs ys : List Run) (low high : Run) → first ≤ last → Touches 1 first last runs xs ys low high
    → AllByRecursion (λ run. run.last + 1 < first) xs → AllByRecursion (λ run. last + 1 < run.first) ys
    → AreApart 0 (xs ++ joined first last low high ∷ ys)
apart_with_joined first last runs xs ys low high o t before behind =
    let e = ends_of 1 first last runs xs ys low high t in
    let run : Run = joined first last low high in
    apart_joined 0 run.first xs (run ∷ ys) e.front_apart (both xs before e.ahead) (omega arith)
    (omega arith, omega arith, further ys behind e.back_apart) where
      both : (zs : List Run) → AllByRecursion (λ run. run.last + 1 < first) zs → AllByRecursion (λ x. x.last + 2 ≤ low.first) zs → AllByRecursion (λ x. x.last + 2 ≤ min first low.first) zs
      both [] h k = tt
      both (z ∷ zs) h k = (omega (arith, h.0, k.0), both zs h.1 k.1)

      further : (zs : List Run) → AllByRecursion (λ run. last + 1 < run.first) zs → AreApart (high.last + 2) zs → AreApart (max last high.last + 2) zs
      further [] h k = tt
      further (z ∷ zs) h k = (omega (arith, h.0, k.0), k.1, k.2)
