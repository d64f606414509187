use Rattle.std.proofs.Common.{◌≡◌, ℕ, zero, suc, ◌+◌, ◌-◌, ◌<◌, ◌≤◌, min, max, refl, sym, ◌∙◌, ap, subst, arith, Bool, true, false, ◌&&◌, nat_le, IsTrue, List, [], ◌∷◌, length, take, drop, get_or}
use Rattle.std.specs.List.{AllByRecursion, count_by, sum_by}
use Rattle.std.proofs.lemmas.Bool.Decides.{nat_tests}
use Rattle.std.proofs.lemmas.List.{take-append-drop, take_all, drop-drop, get_or-take, get_or-drop, length-take, length-drop}
use Rattle.std.proofs.lemmas.List.Elements.{All-from_recursion}
use Rattle.std.proofs.lemmas.List.Sums.{sum_by-cons, sum_by-take-drop, sum_by_more_le}
use Rattle.std.proofs.lemmas.Nat.{pow_pos}
use Rattle.inet_num.specs.Net.{Cidr, width_of, size_of}
use Rattle.inet_num.specs.Count.{numbers_from, addresses_of, count_of}
use Rattle.inet_num.proofs.Counts.{count-cons, count_either}
use Rattle.span_set.specs.declared.runs.Run.{Run}
use Rattle.span_set.specs.Runs.{in_run, in_runs, AreApart, shared}
use Rattle.span_set.specs.Spans.{Spans, is_in}
use Rattle.span_set.proofs.Members.{in_from_test, In_from, apart_front, apart_back}
use Rattle.span_set.proofs.Rising.{at_least}

-- ---- the count one by one is the sum of what each run shares

-- how many numbers of a range lie from one to another
counted_run : (low high a n : ℕ) → count_by (λ x. nat_le low x && nat_le x high) (numbers_from a n) ≡ min (a + n) (high + 1) - max a low
unfolding numbers_from
counted_run low high a zero = omega arith
counted_run low high a (suc n) =
    let rest = counted_run low high (a + 1) n in
    count-cons (λ x. nat_le low x && nat_le x high) a (numbers_from (a + 1) n) ∙ grind (arith, nat_tests, rest)

counted_none : (xs : List ℕ) → count_by (λ x. false) xs ≡ 0
counted_none [] = refl
counted_none (x ∷ xs) = omega (arith, count-cons (λ x. false) x xs, counted_none xs)

-- no number is in a run and in those behind it
excluded : (from : ℕ) (run : Run) (runs : List Run) → AreApart from (run ∷ runs) → (x : ℕ) → (in_run run x && in_runs runs x) ≡ false
excluded from run runs h x = go (in_run run x) refl (in_runs runs x) refl where
  go : (s : Bool) → in_run run x ≡ s → (t : Bool) → in_runs runs x ≡ t → (s && t) ≡ false
  go false e t f = refl
  go true e false f = refl
  go true e true f =
      let there = In_from (run.last + 2) runs x h.2 (in_from_test runs x (let k : IsTrue (in_runs runs x) = grind arith in k)) in
      let here : x ≤ run.last = grind (arith, nat_tests) in
      absurd (omega arith)

pub counted : (from : ℕ) (runs : List Run) → AreApart from runs → (a n : ℕ) → 0 < n → count_by (in_runs runs) (numbers_from a n) ≡ sum_by (shared a (a + n - 1)) runs
counted from [] h a n some = counted_none (numbers_from a n)
counted from (run ∷ runs) h a n some =
    let rest = counted (run.last + 2) runs h.2 a n some in
    let own = counted_run run.first run.last a n in
    let both = count_either (in_run run) (in_runs runs) (numbers_from a n) (excluded from run runs h) in
    let here : min (a + n) (run.last + 1) - max a run.first ≡ shared a (a + n - 1) run = omega arith in
    both ∙ omega (arith, own, rest, here, sum_by-cons (shared a (a + n - 1)) run runs)

-- ---- the sum over the runs that are met

-- it is at most the range's size
pub sum_within : (first last from : ℕ) (runs : List Run) → AreApart from runs → sum_by (shared first last) runs ≤ (last + 1) - max first from
sum_within first last from [] h = omega arith
sum_within first last from (run ∷ runs) h =
    let rest = sum_within first last (run.last + 2) runs h.2 in
    let low = h.0 in
    let own = h.1 in
    omega (arith, sum_by-cons (shared first last) run runs)

pub sum_before : (first last : ℕ) (runs : List Run) → AllByRecursion (λ run. run.last + 0 < first) runs → sum_by (shared first last) runs ≡ 0
sum_before first last [] h = refl
sum_before first last (run ∷ runs) h =
    let rest = sum_before first last runs h.1 in
    let here = h.0 in
    omega (arith, sum_by-cons (shared first last) run runs)

pub sum_behind : (first last : ℕ) (runs : List Run) → AllByRecursion (λ run. last + 0 < run.first) runs → sum_by (shared first last) runs ≡ 0
sum_behind first last [] h = refl
sum_behind first last (run ∷ runs) h =
    let rest = sum_behind first last runs h.1 in
    let here = h.0 in
    omega (arith, sum_by-cons (shared first last) run runs)

-- ---- the runs that are met, by their indexes

-- they are apart
met_apart : (runs : List Run) (from to : ℕ) → AreApart 0 runs → AreApart 0 (take (to - from) (drop from runs))
met_apart runs from to h =
    let behind = apart_back 0 (take from runs) (drop from runs) (subst (AreApart 0) (sym (take-append-drop from runs)) h) in
    apart_front 0 (take (to - from) (drop from runs)) (drop (to - from) (drop from runs)) (subst (AreApart 0) (sym (take-append-drop (to - from) (drop from runs))) behind)

-- and each of them meets the range
pub met_at : (first last : ℕ) (runs : List Run) (from to i : ℕ) (d : Run) → from ≤ to → to ≤ length runs → AreApart 0 runs
    → AllByRecursion (λ run. first ≤ run.last + 0) (drop from runs) → AllByRecursion (λ run. run.first ≤ last + 0) (take to runs)
    → i < length (take (to - from) (drop from runs))
    → ((get_or (take (to - from) (drop from runs)) i d).first ≤ (get_or (take (to - from) (drop from runs)) i d).last)
    × (first ≤ (get_or (take (to - from) (drop from runs)) i d).last) × ((get_or (take (to - from) (drop from runs)) i d).first ≤ last)
met_at first last runs from to i d o l h reached begun inside =
    let behind : i < length (drop from runs) = omega (arith, length-take (to - from) (drop from runs)) in
    let less : i < to - from = omega (arith, length-take (to - from) (drop from runs)) in
    let within : from + i < length runs = omega (arith, length-drop from runs) in
    let front : from + i < length (take to runs) = omega (arith, length-take to runs) in
    let taken : get_or (take (to - from) (drop from runs)) i d ≡ get_or (drop from runs) i d = get_or-take (to - from) (drop from runs) i d less in
    let there : get_or (take (to - from) (drop from runs)) i d ≡ get_or runs (from + i) d = taken ∙ get_or-drop from runs i d in
    let own = (at_least 0 runs h (from + i) d within).1 in
    let P : Run → Type 0 = λ run. first ≤ run.last + 0 in
    let Q : Run → Type 0 = λ run. run.first ≤ last + 0 in
    let low : first ≤ (get_or (drop from runs) i d).last + 0 = All-from_recursion P (drop from runs) reached i d behind in
    let high : (get_or runs (from + i) d).first ≤ last + 0 = subst Q (get_or-take to runs (from + i) d (omega arith)) (All-from_recursion Q (take to runs) begun (from + i) d front) in
    let last_is : (get_or (take (to - from) (drop from runs)) i d).last ≡ (get_or (drop from runs) i d).last = ap (λ (run : Run). run.last) taken in
    let last_there : (get_or (take (to - from) (drop from runs)) i d).last ≡ (get_or runs (from + i) d).last = ap (λ (run : Run). run.last) there in
    let first_there : (get_or (take (to - from) (drop from runs)) i d).first ≡ (get_or runs (from + i) d).first = ap (λ (run : Run). run.first) there in
    (omega arith, omega arith, omega arith)

-- what is summed up and what comes next are within the range's size
pub sum_fits : (first last : ℕ) (runs : List Run) (from to i : ℕ) (d : Run) → AreApart 0 runs → i < length (take (to - from) (drop from runs))
    → sum_by (shared first last) (take i (take (to - from) (drop from runs))) + shared first last (get_or (take (to - from) (drop from runs)) i d) ≤ (last + 1) - first
sum_fits first last runs from to i d h inside =
    let all = sum_within first last 0 (take (to - from) (drop from runs)) (met_apart runs from to h) in
    omega (arith, sum_by_more_le (shared first last) (take (to - from) (drop from runs)) i d inside)

-- the other runs share nothing
pub sum_whole : (first last : ℕ) (runs : List Run) (from to i : ℕ) → from ≤ to → AllByRecursion (λ run. run.last + 0 < first) (take from runs) → AllByRecursion (λ run. last + 0 < run.first) (drop to runs)
    → length (take (to - from) (drop from runs)) ≤ i → sum_by (shared first last) (take i (take (to - from) (drop from runs))) ≡ sum_by (shared first last) runs
sum_whole first last runs from to i o before behind all =
    let met : take i (take (to - from) (drop from runs)) ≡ take (to - from) (drop from runs) = take_all i (take (to - from) (drop from runs)) all in
    let met_is : sum_by (shared first last) (take i (take (to - from) (drop from runs))) ≡ sum_by (shared first last) (take (to - from) (drop from runs)) = ap (λ zs. sum_by (shared first last) zs) met in
    let rest : drop (to - from) (drop from runs) ≡ drop to runs = drop-drop (to - from) from runs ∙ ap (λ k. drop k runs) (let e : from + (to - from) ≡ to = omega arith in e) in
    let rest_is : sum_by (shared first last) (drop (to - from) (drop from runs)) ≡ sum_by (shared first last) (drop to runs) = ap (λ zs. sum_by (shared first last) zs) rest in
    let low = sum_before first last (take from runs) before in
    let high = sum_behind first last (drop to runs) behind in
    omega (arith, sum_by-take-drop (shared first last) runs from, sum_by-take-drop (shared first last) (drop from runs) (to - from))

-- ---- as the public call has it

pub counted_within : (set : Spans) (slice : List Run) (within : Cidr) (first last total : ℕ) → slice ≡ set.runs → AreApart 0 set.runs → first ≡ within.first → last ≡ within.first + size_of within - 1
    → total ≡ sum_by (shared first last) slice → total ≡ count_of (is_in set) within
unfolding addresses_of
counted_within set slice within first last total e h first_is last_is t =
    let some = pow_pos (width_of within.family - within.len) in
    let law = counted 0 set.runs h within.first (size_of within) some in
    t ∙ ap (λ zs. sum_by (shared first last) zs) e ∙ ap (λ n. sum_by (shared n last) set.runs) first_is ∙ ap (λ n. sum_by (shared within.first n) set.runs) last_is ∙ sym law
