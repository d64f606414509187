use Rattle.std.proofs.Common.{◌≡◌, ℕ, ◌+◌, ◌-◌, ◌<◌, ◌≤◌, ◌++◌, ◌∷◌, List, length, take, drop, get_or, min, max, refl, sym, ◌∙◌, ap, subst, arith}
use Rattle.std.specs.List.{AllByRecursion}
use Rattle.std.proofs.lemmas.List.{take-append-drop}
use Rattle.span_set.specs.declared.runs.Run.{Run}
use Rattle.span_set.specs.Runs.{AreApart}
use Rattle.span_set.proofs.Members.{on_ok}
use Rattle.span_set.proofs.Joined.{IsAdded, Touches, touches_at, joined, added_between, apart_between, added_joined, apart_with_joined}
use Rattle.span_set.proofs.runs.add_run.Goals as goal

-- the runs in front of an index, the added one, and the runs from it on
put_between : (first last : ℕ) (runs new : List Run) (from to : ℕ) → from ≡ to → new ≡ take from runs ++ record { first = first; last = last } ∷ drop to runs → IsAdded first last runs new
put_between first last runs new from to same e =
    let whole : take from runs ++ drop to runs ≡ runs = ap (λ k. take from runs ++ drop k runs) (sym same) ∙ take-append-drop from runs in
    let law = added_between first last (take from runs) (drop to runs) in
    rw e (subst (λ (zs : List Run). IsAdded first last zs (take from runs ++ record { first = first; last = last } ∷ drop to runs)) whole law)

apart_there : (first last : ℕ) (runs new : List Run) (from to : ℕ) → from ≡ to → new ≡ take from runs ++ record { first = first; last = last } ∷ drop to runs → first ≤ last → AreApart 0 runs
    → AllByRecursion (λ run. run.last + 1 < first) (take from runs) → AllByRecursion (λ run. last + 1 < run.first) (drop to runs) → AreApart 0 new
apart_there first last runs new from to same e o h before behind =
    let whole : take from runs ++ drop to runs ≡ runs = ap (λ k. take from runs ++ drop k runs) (sym same) ∙ take-append-drop from runs in
    rw e (apart_between first last (take from runs) (drop to runs) o (subst (AreApart 0) (sym whole) h) before behind)

pub returns-then-from-to-clause-added : goal.returns-then-from-to-clause-added
returns-then-from-to-clause-added c =
    on_ok c.put_over.result (put_between c.args.first c.args.last c.args.runs.now.items c.put_over.new.runs.items _ _ c.if-from-to.true) c.put_over.ensures.ok

pub returns-then-from-to-clause-apart : goal.returns-then-from-to-clause-apart
returns-then-from-to-clause-apart c =
    on_ok c.put_over.result (λ e. apart_there c.args.first c.args.last c.args.runs.now.items c.put_over.new.runs.items _ _ c.if-from-to.true e c.requires.order c.requires.apart
    (rw c.deref.ensures.value at c.touched-from.ensures.before) (rw c.deref.ensures.value at c.touched-from.ensures.behind)) c.put_over.ensures.ok

-- the runs that are touched, by the indexes
touch : (first last : ℕ) (runs slice : List Run) (from to : ℕ) (low high : Run) → slice ≡ runs → AreApart 0 runs → from ≤ to → (from ≡ to → ⊥) → to ≤ length slice
    → low ≡ get_or runs from low → high ≡ get_or runs (to - 1) high
    → AllByRecursion (λ run. first ≤ run.last + 1) (drop from slice) → AllByRecursion (λ run. run.first ≤ last + 1) (take to slice)
    → Touches 1 first last runs (take from runs) (drop to runs) low high
touch first last runs slice from to low high e h o other l low_is high_is reached begun =
    touches_at 1 first last runs from to low high h (omega arith) (subst (λ (zs : List Run). to ≤ length zs) e l) low_is high_is
    (subst (λ (zs : List Run). AllByRecursion (λ run. first ≤ run.last + 1) (drop from zs)) e reached) (subst (λ (zs : List Run). AllByRecursion (λ run. run.first ≤ last + 1) (take to zs)) e begun)

-- the list with the joined run, by what the code reads and computes
is_joined : (first last : ℕ) (xs ys new : List Run) (low high : Run) (f l : ℕ) → f ≡ min first low.first → l ≡ max last high.last → new ≡ xs ++ record { first = f; last = l } ∷ ys → xs ++ joined first last low high ∷ ys ≡ new
is_joined first last xs ys new low high f l f_is l_is e = rw (e, f_is, l_is) refl

pub returns-clause-added : goal.returns-clause-added
returns-clause-added c =
    let low = c.index.result.now in
    let high = c.index-2.result.now in
    let t = touch c.args.first c.args.last c.args.runs.now.items c.deref.result.now _ _ low high c.deref.ensures.value c.requires.apart c.touched-from.ensures.order c.if-from-to.false c.touched-from.ensures.bound c.index.ensures c.index-2.ensures c.touched-from.ensures.reached c.touched-from.ensures.begun in
    let law = added_joined c.args.first c.args.last c.args.runs.now.items _ _ low high c.requires.order t in
    on_ok c.put_over-2.result (λ e. subst (IsAdded c.args.first c.args.last c.args.runs.now.items) (is_joined c.args.first c.args.last _ _ _ low high _ _ c.min.ensures c.max.ensures e) law) c.put_over-2.ensures.ok

pub returns-clause-apart : goal.returns-clause-apart
returns-clause-apart c =
    let low = c.index.result.now in
    let high = c.index-2.result.now in
    let t = touch c.args.first c.args.last c.args.runs.now.items c.deref.result.now _ _ low high c.deref.ensures.value c.requires.apart c.touched-from.ensures.order c.if-from-to.false c.touched-from.ensures.bound c.index.ensures c.index-2.ensures c.touched-from.ensures.reached c.touched-from.ensures.begun in
    let law = apart_with_joined c.args.first c.args.last c.args.runs.now.items _ _ low high c.requires.order t (rw c.deref.ensures.value at c.touched-from.ensures.before) (rw c.deref.ensures.value at c.touched-from.ensures.behind) in
    on_ok c.put_over-2.result (λ e. subst (AreApart 0) (is_joined c.args.first c.args.last _ _ _ low high _ _ c.min.ensures c.max.ensures e) law) c.put_over-2.ensures.ok
