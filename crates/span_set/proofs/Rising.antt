use Rattle.std.proofs.Common.{◌≡◌, ℕ, zero, suc, ◌+◌, ◌-◌, ◌<◌, ◌≤◌, refl, sym, ◌∙◌, ap, subst, arith, Bool, true, false, nat_le, nat_lt, List, [], ◌∷◌, length, take, drop, get_or}
use Rattle.std.specs.List.{AllByRecursion, AllWithin}
use Rattle.std.specs.List.Sorted.{IsPartitionedBy}
use Rattle.std.proofs.lemmas.Bool.Decides.{nat_tests}
use Rattle.std.proofs.lemmas.List.{get_or-take, get_or-drop, length-take, length-drop}
use Rattle.std.proofs.lemmas.List.Elements.{recursion_from_All, All-from_recursion}
use Rattle.span_set.specs.declared.runs.Run.{Run}
use Rattle.span_set.specs.Runs.{AreApart}

-- each run begins at the number or after it, and not after its end
pub at_least : (from : ℕ) (runs : List Run) → AreApart from runs → (k : ℕ) (d : Run) → k < length runs → (from ≤ (get_or runs k d).first) × ((get_or runs k d).first ≤ (get_or runs k d).last)
at_least from [] h k d l = absurd (omega arith)
at_least from (run ∷ runs) h zero d l = (h.0, h.1)
at_least from (run ∷ runs) h (suc k) d l =
    let later = at_least (run.last + 2) runs h.2 k d (omega arith) in
    let low = h.0 in
    let own = h.1 in
    (omega (arith, later.0), later.1)

-- a later run neither begins nor ends before an earlier one
pub rises : (from : ℕ) (runs : List Run) → AreApart from runs → (i j : ℕ) (d : Run) → i ≤ j → j < length runs → ((get_or runs i d).first ≤ (get_or runs j d).first) × ((get_or runs i d).last ≤ (get_or runs j d).last)
rises from [] h i j d le l = absurd (omega arith)
rises from (run ∷ runs) h zero zero d le l = (omega arith, omega arith)
rises from (run ∷ runs) h zero (suc j) d le l =
    let later = at_least (run.last + 2) runs h.2 j d (omega arith) in
    let own = h.1 in
    (omega (arith, later.0), omega (arith, later.0, later.1))
rises from (run ∷ runs) h (suc i) zero d le l = absurd (omega arith)
rises from (run ∷ runs) h (suc i) (suc j) d le l = rises (run.last + 2) runs h.2 i j d (omega arith) (omega arith)

-- the test of the one search, and of the other
abbrev pub ends_before : ℕ → Run → Bool
ends_before before run = nat_lt run.last before

abbrev pub begins_by : ℕ → ℕ → Run → Bool
begins_by gap last run = nat_le (run.first - gap) last

pub ends_in_order : (before : ℕ) (runs : List Run) → AreApart 0 runs → IsPartitionedBy (ends_before before) runs
ends_in_order before runs h = λ i j d le l t.
    let up = (rises 0 runs h i j d le l).1 in
    let less : (get_or runs j d).last < before = grind (arith, nat_tests) in
    grind (arith, nat_tests)

pub begins_in_order : (gap last : ℕ) (runs : List Run) → AreApart 0 runs → IsPartitionedBy (begins_by gap last) runs
begins_in_order gap last runs h = λ i j d le l t.
    let up = (rises 0 runs h i j d le l).0 in
    let less : (get_or runs j d).first - gap ≤ last = grind (arith, nat_tests) in
    grind (arith, nat_tests)

-- what holds of each run below an index, and of each from it on
pub in_front : (P Q : Run → Type 0) → ((run : Run) → P run → Q run) → (runs : List Run) (i : ℕ) → AllWithin P runs 0 i → AllByRecursion Q (take i runs)
in_front P Q f runs i h = recursion_from_All Q (take i runs) (λ k d l.
    let less : k < i = omega (arith, length-take i runs) in
    subst Q (sym (get_or-take i runs k d less)) (f _ (h k d (omega arith) less)))

pub from_there : (P Q : Run → Type 0) → ((run : Run) → P run → Q run) → (runs : List Run) (i : ℕ) → AllWithin P runs i (length runs) → AllByRecursion Q (drop i runs)
from_there P Q f runs i h = recursion_from_All Q (drop i runs) (λ k d l.
    let less : i + k < length runs = omega (arith, length-drop i runs) in
    subst Q (sym (get_or-drop i runs k d)) (f _ (h (i + k) d (omega arith) less)))

-- the runs that end before the one number are among those that begin by the other
pub touched_in_order : (runs : List Run) (from to first last gap : ℕ) → first ≤ last → AreApart 0 runs → from ≤ length runs → to ≤ length runs
    → AllByRecursion (λ run. run.last + gap < first) (take from runs) → AllByRecursion (λ run. last + gap < run.first) (drop to runs) → from ≤ to
touched_in_order runs from to first last gap o h lf lt before behind = go (nat_lt to from) refl where
  go : (t : Bool) → nat_lt to from ≡ t → from ≤ to
  go false e = grind (arith, nat_tests)
  go true e =
      let less : to < from = grind (arith, nat_tests) in
      let d : Run = record { first = 0; last = 0 } in
      let own = at_least 0 runs h to d (omega arith) in
      let inside : to < length (take from runs) = omega (arith, length-take from runs) in
      let P : Run → Type 0 = λ run. run.last + gap < first in
      let Q : Run → Type 0 = λ run. last + gap < run.first in
      let low : (get_or runs to d).last + gap < first = subst P (get_or-take from runs to d less) (All-from_recursion P (take from runs) before to d inside) in
      let there : 0 < length (drop to runs) = omega (arith, length-drop to runs) in
      let at : get_or (drop to runs) 0 d ≡ get_or runs to d = get_or-drop to runs 0 d ∙ ap (λ k. get_or runs k d) (let e : to + 0 ≡ to = omega arith in e) in
      let high : last + gap < (get_or runs to d).first = subst Q at (All-from_recursion Q (drop to runs) behind 0 d there) in
      absurd (omega (arith, own.1))
