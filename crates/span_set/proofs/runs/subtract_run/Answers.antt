use Rattle.std.proofs.Common.{◌≡◌, ℕ, ◌+◌, ◌-◌, ◌<◌, ◌≤◌, ◌++◌, List, length, take, drop, get_or, refl, sym, ◌∙◌, ap, subst, arith, inl, inr}
use Rattle.std.specs.List.{AllByRecursion}
use Rattle.std.proofs.lemmas.List.{take-append-drop}
use Rattle.span_set.specs.declared.runs.Run.{Run}
use Rattle.span_set.specs.Runs.{AreApart, left_part, right_part}
use Rattle.span_set.proofs.Members.{InRuns, in_from_test, In-cases, In_before, In_behind, on_ok}
use Rattle.span_set.proofs.Joined.{Touches, touches_at}
use Rattle.span_set.proofs.Parted.{IsTaken, parted, taken_parted, apart_parted}
use Rattle.span_set.proofs.runs.subtract_run.Goals as goal

-- where no run is met, none has a number of the span
none_met : (first last : ℕ) (runs slice : List Run) (from to : ℕ) → from ≡ to → slice ≡ runs
    → AllByRecursion (λ run. run.last + 0 < first) (take from slice) → AllByRecursion (λ run. last + 0 < run.first) (drop to slice) → IsTaken first last runs runs
none_met first last runs slice from to same e before behind a = (
  (λ s. (
    s,
    λ b.
        let there : InRuns slice a = subst (λ (zs : List Run). InRuns zs a) (sym e) (in_from_test runs a s) in
        let whole : slice ≡ take from slice ++ drop to slice = sym (take-append-drop from slice) ∙ ap (λ k. take from slice ++ drop k slice) same in
        elim (In-cases (take from slice) (drop to slice) a (subst (λ (zs : List Run). InRuns zs a) whole there)) [
          | inl h ↦ omega (arith, b.0, In_before 0 first (take from slice) a before h)
          | inr h ↦ omega (arith, b.1, In_behind 0 last (drop to slice) a behind h)
        ],
  )),
  (λ s. s.0),
)

pub returns-then-from-to-clause-taken : goal.returns-then-from-to-clause-taken
returns-then-from-to-clause-taken c =
    none_met c.args.first c.args.last c.args.runs.now.items c.deref.result.now _ _ c.if-from-to.true c.deref.ensures.value c.touched-from.ensures.before c.touched-from.ensures.behind

-- the runs that are met, by the indexes
touch : (first last : ℕ) (runs slice : List Run) (from to : ℕ) (low high : Run) → slice ≡ runs → AreApart 0 runs → from ≤ to → (from ≡ to → ⊥) → to ≤ length slice
    → low ≡ get_or runs from low → high ≡ get_or runs (to - 1) high
    → AllByRecursion (λ run. first ≤ run.last + 0) (drop from slice) → AllByRecursion (λ run. run.first ≤ last + 0) (take to slice)
    → Touches 0 first last runs (take from runs) (drop to runs) low high
touch first last runs slice from to low high e h o other l low_is high_is reached begun =
    touches_at 0 first last runs from to low high h (omega arith) (subst (λ (zs : List Run). to ≤ length zs) e l) low_is high_is
    (subst (λ (zs : List Run). AllByRecursion (λ run. first ≤ run.last + 0) (drop from zs)) e reached) (subst (λ (zs : List Run). AllByRecursion (λ run. run.first ≤ last + 0) (take to zs)) e begun)

-- the list with what is left, by what the code computes
is_parted : (first last : ℕ) (xs ys new : List Run) (low high : Run) (left right : List Run) → left ≡ left_part first low → right ≡ right_part last high → new ≡ xs ++ (left ++ (right ++ ys)) → parted first last xs low high ys ≡ new
is_parted first last xs ys new low high left right left_is right_is e = rw (e, left_is, right_is) refl

pub returns-clause-taken : goal.returns-clause-taken
returns-clause-taken c =
    let low = c.index.result.now in
    let high = c.index-2.result.now in
    let t = touch c.args.first c.args.last c.args.runs.now.items c.deref.result.now _ _ low high c.deref.ensures.value c.requires.apart c.touched-from.ensures.order c.if-from-to.false c.touched-from.ensures.bound c.index.ensures c.index-2.ensures c.touched-from.ensures.reached c.touched-from.ensures.begun in
    let law = taken_parted c.args.first c.args.last c.args.runs.now.items _ _ low high c.requires.order t (rw c.deref.ensures.value at c.touched-from.ensures.before) (rw c.deref.ensures.value at c.touched-from.ensures.behind) in
    on_ok c.put_rests.result (λ e. subst (IsTaken c.args.first c.args.last c.args.runs.now.items) (is_parted c.args.first c.args.last _ _ _ low high _ _ c.left_of-left.ensures c.right_of-right.ensures e) law) c.put_rests.ensures.ok

pub returns-clause-apart : goal.returns-clause-apart
returns-clause-apart c =
    let low = c.index.result.now in
    let high = c.index-2.result.now in
    let t = touch c.args.first c.args.last c.args.runs.now.items c.deref.result.now _ _ low high c.deref.ensures.value c.requires.apart c.touched-from.ensures.order c.if-from-to.false c.touched-from.ensures.bound c.index.ensures c.index-2.ensures c.touched-from.ensures.reached c.touched-from.ensures.begun in
    let law = apart_parted c.args.first c.args.last c.args.runs.now.items _ _ low high c.requires.order t (rw c.deref.ensures.value at c.touched-from.ensures.before) (rw c.deref.ensures.value at c.touched-from.ensures.behind) in
    on_ok c.put_rests.result (λ e. subst (AreApart 0) (is_parted c.args.first c.args.last _ _ _ low high _ _ c.left_of-left.ensures c.right_of-right.ensures e) law) c.put_rests.ensures.ok
