use Rattle.std.proofs.Common.{◌≡◌, ◌⊎◌, ℕ, ◌+◌, ◌-◌, ◌<◌, ◌≤◌, ◌↔◌, sym, subst, arith, inl, inr, IsTrue, List, [], ◌∷◌, ◌++◌, length, take, drop, get_or}
use Rattle.std.specs.List.{AllByRecursion}
use Rattle.std.proofs.lemmas.Bool.{cases_lt}
use Rattle.std.proofs.lemmas.Nat.{pow_pos}
use Rattle.std.proofs.lemmas.List.{take-append-drop, take_more, take_all}
use Rattle.std.proofs.lemmas.List.Elements.{Contains-append_left, Contains-append_right}
use Rattle.inet_num.specs.declared.Family.{Family}
use Rattle.inet_num.specs.Net.{width_of, Cidr, size_of, HasAddress, enclosing_of}
use Rattle.inet_num.specs.Free.{InOrder, is_taken}
use Rattle.span_set.specs.declared.runs.Run.{Run}
use Rattle.span_set.specs.Runs.{IsBetween, AreApart}
use Rattle.span_set.specs.Spans.{Spans, IsIn}
use Rattle.span_set.specs.Blocks.{AllIn, IsLargest, IsFewest}
use Rattle.span_set.proofs.Members.{InRuns, in_from_test, test_from_in, In-left, In-right, In-cases, In_from, apart_front, ends_ahead}
use Rattle.span_set.proofs.Greedy.{All-more, All-weaker, InOrder-more, taken_left, taken_right, in_from_taken, enclosing_has}

-- a block has its first address and its last one
pub first_in : (m : Cidr) → HasAddress m m.first
first_in m = (omega arith, omega (arith, pow_pos (width_of m.family - m.len)))

-- a block of the runs' numbers is one of the first run's or of the others', since no two runs touch
one_run : (from : ℕ) (x : Run) (xs : List Run) → AreApart from (x ∷ xs) → (m : Cidr) → AllIn (InRuns (x ∷ xs)) m → AllIn (IsBetween x.first x.last) m ⊎ AllIn (InRuns xs) m
one_run from x xs h m all = elim (cases_lt x.last m.first) [
  | inl behind ↦ inr (λ a i. elim (all a i) [ inl k ↦ absurd (omega (arith, i.0, k.1)) | inr k ↦ k ])
  | inr here ↦ elim (cases_lt (x.last + 1) (m.first + size_of m)) [
    | inl over ↦ elim (all (x.last + 1) (omega arith, over)) [ inl k ↦ absurd (omega (arith, k.1)) | inr k ↦ absurd (omega (arith, In_from (x.last + 2) xs (x.last + 1) h.2 k)) ]
    | inr within ↦
        let low = In_from x.first (x ∷ xs) m.first (omega arith, h.1, h.2) (all m.first (first_in m)) in
        inl (λ a i. (omega (arith, i.0), omega (arith, i.1)))
  ]
]

-- and so of the runs in front or of those behind
one_side : (from : ℕ) (xs ys : List Run) → AreApart from (xs ++ ys) → (m : Cidr) → AllIn (InRuns (xs ++ ys)) m → AllIn (InRuns xs) m ⊎ AllIn (InRuns ys) m
one_side from [] ys h m all = inr all
one_side from (x ∷ xs) ys h m all = elim (one_run from x (xs ++ ys) h m all) [
  | inl k ↦ inl (λ a i. inl (k a i))
  | inr k ↦ elim (one_side (x.last + 2) xs ys h.2 m k) [ inl g ↦ inl (λ a i. inr (g a i)) | inr g ↦ inr g ]
]

-- the numbers of runs that end two before a number are below it
In_ahead : (first : ℕ) (xs : List Run) (a : ℕ) → AllByRecursion (λ x. x.last + 2 ≤ first) xs → InRuns xs a → a + 2 ≤ first
In_ahead first [] a h k = absurd k
In_ahead first (x ∷ xs) a h (inl k) = omega (arith, h.0, k.1)
In_ahead first (x ∷ xs) a h (inr k) = In_ahead first xs a h.1 k

alone : (x : Run) (m : Cidr) → AllIn (InRuns (x ∷ [])) m → AllIn (IsBetween x.first x.last) m
alone x m all = λ a i. elim (all a i) [ inl k ↦ k | inr k ↦ absurd k ]

-- where a block ends that has numbers below one
end_below : (first : ℕ) (xs : List Run) (m : Cidr) → AllByRecursion (λ x. x.last + 2 ≤ first) xs → AllIn (InRuns xs) m → m.first + size_of m ≤ first
end_below first xs m ahead all =
    let some = pow_pos (width_of m.family - m.len) in
    let there = In_ahead first xs (m.first + size_of m - 1) ahead (all (m.first + size_of m - 1) (omega arith, omega arith)) in
    omega arith

-- in order from a number on, where the first begins there or behind
pub order_raised : (from first : ℕ) (bs : List Cidr) → InOrder from bs → AllByRecursion (λ m. first ≤ m.first) bs → InOrder first bs
order_raised from first [] h k = tt
order_raised from first (b ∷ bs) h k = (k.0, h.1)

-- the fewest blocks of some runs, and then those of a run behind them
pub fewest_more : (family : Family) (xs : List Run) (x : Run) (bs cs : List Cidr) → AreApart 0 (xs ++ x ∷ []) → IsFewest family (InRuns xs) bs → IsFewest family (IsBetween x.first x.last) cs
    → IsFewest family (InRuns (xs ++ x ∷ [])) (bs ++ cs)
fewest_more family xs x bs cs h f g =
    let ahead = ends_ahead 0 xs x [] h in
    let P : Cidr → Type 0 = IsLargest family (InRuns (xs ++ x ∷ [])) in
    let lower : (m : Cidr) → IsLargest family (InRuns xs) m → P m = λ m k. record {
      lawful = k.lawful;
      family_is = k.family_is;
      inside = λ a i. In-left xs (x ∷ []) a (k.inside a i);
      largest = λ some all. elim (one_side 0 xs (x ∷ []) h (enclosing_of m) all) [
        | inl here ↦ k.largest some here
        | inr there ↦
            let own = alone x (enclosing_of m) there m.first (enclosing_has m) in
            let below = In_ahead x.first xs m.first ahead (k.inside m.first (first_in m)) in
            omega (arith, own.0)
      ];
    } in
    let upper : (m : Cidr) → IsLargest family (IsBetween x.first x.last) m → P m = λ m k. record {
      lawful = k.lawful;
      family_is = k.family_is;
      inside = λ a i. In-right xs (x ∷ []) a (inl (k.inside a i));
      largest = λ some all. elim (one_side 0 xs (x ∷ []) h (enclosing_of m) all) [
        | inr there ↦ k.largest some (alone x (enclosing_of m) there)
        | inl here ↦
            let own = k.inside m.first (first_in m) in
            let below = In_ahead x.first xs m.first ahead (here m.first (enclosing_has m)) in
            omega (arith, own.0)
      ];
    } in
    record {
      lists = record {
        each = All-more P bs cs (All-weaker _ P bs lower f.lists.each) (All-weaker _ P cs upper g.lists.each);
        ordered = InOrder-more 0 x.first bs cs f.lists.ordered
            (All-weaker _ _ bs (λ m (k : IsLargest family (InRuns xs) m). end_below x.first xs m ahead k.inside) f.lists.each) (omega arith)
            (order_raised 0 x.first cs g.lists.ordered (All-weaker _ _ cs (λ m (k : IsLargest family (IsBetween x.first x.last) m). (k.inside m.first (first_in m)).0) g.lists.each));
        complete = λ m k. elim (one_side 0 xs (x ∷ []) h m k.inside) [
          | inl here ↦ Contains-append_left bs cs m (f.lists.complete m (record {
            lawful = k.lawful;
            family_is = k.family_is;
            inside = here;
            largest = λ some all. k.largest some (λ a i. In-left xs (x ∷ []) a (all a i));
          }))
          | inr there ↦ Contains-append_right bs cs m (g.lists.complete m (record {
            lawful = k.lawful;
            family_is = k.family_is;
            inside = alone x m there;
            largest = λ some all. k.largest some (λ a i. In-right xs (x ∷ []) a (inl (all a i)));
          }))
        ];
      };
      covers = λ a k. elim (In-cases xs (x ∷ []) a k) [
        | inl here ↦ taken_left bs cs a (f.covers a here)
        | inr there ↦ taken_right bs cs a (g.covers a (elim there [ inl i ↦ i | inr i ↦ absurd i ]))
      ];
    }

-- no run has no blocks
pub fewest_none : (family : Family) → IsFewest family (InRuns []) []
fewest_none family = record {
  lists = record { each = tt; ordered = tt; complete = λ m k. absurd (k.inside m.first (first_in m)) };
  covers = λ a k. absurd k;
}

-- a set with the same addresses has the same blocks
pub fewest_same : (family : Family) (S T : ℕ → Type 0) (bs : List Cidr) → ((a : ℕ) → S a → T a) → ((a : ℕ) → T a → S a) → IsFewest family S bs → IsFewest family T bs
fewest_same family S T bs f g h = record {
  lists = record {
    each = All-weaker _ _ bs (λ m (k : IsLargest family S m). (let l : IsLargest family T m = record {
      lawful = k.lawful;
      family_is = k.family_is;
      inside = λ a i. f a (k.inside a i);
      largest = λ some all. k.largest some (λ a i. g a (all a i));
    } in l)) h.lists.each;
    ordered = h.lists.ordered;
    complete = λ m k. h.lists.complete m (record {
      lawful = k.lawful;
      family_is = k.family_is;
      inside = λ a i. g a (k.inside a i);
      largest = λ some all. k.largest some (λ a i. f a (all a i));
    });
  };
  covers = λ a k. h.covers a (g a k);
}

-- the blocks have just the set's addresses
pub fewest_members : (family : Family) (S : ℕ → Type 0) (bs : List Cidr) → IsFewest family S bs → (a : ℕ) → S a ↔ IsTrue (is_taken bs a)
fewest_members family S bs h a = (h.covers a, in_from_taken S bs a (All-weaker _ _ bs (λ m (k : IsLargest family S m). k.inside) h.lists.each))

-- ---- as the loop over the runs goes

-- a front of runs that are apart
pub apart_taken : (runs : List Run) (i : ℕ) → AreApart 0 runs → AreApart 0 (take i runs)
apart_taken runs i h = apart_front 0 (take i runs) (drop i runs) (subst (AreApart 0) (sym (take-append-drop i runs)) h)

-- one more run
pub fewest_step : (family : Family) (runs slice : List Run) (i : ℕ) (d : Run) (bs new : List Cidr) → slice ≡ runs → AreApart 0 runs → i < length slice
    → IsFewest family (InRuns (take i runs)) bs
    → (cs : List Cidr) × IsFewest family (IsBetween (get_or slice i d).first (get_or slice i d).last) cs × (new ≡ bs ++ cs)
    → IsFewest family (InRuns (take (i + 1) runs)) new
fewest_step family runs slice i d bs new e h l f g =
    let inside : i < length runs = subst (λ (zs : List Run). i < length zs) e l in
    let cut : take (i + 1) runs ≡ take i runs ++ get_or runs i d ∷ [] = take_more runs i d inside in
    let apart = subst (AreApart 0) cut (apart_taken runs (i + 1) h) in
    let here : IsFewest family (IsBetween (get_or runs i d).first (get_or runs i d).last) g.0 = subst (λ (zs : List Run). IsFewest family (IsBetween (get_or zs i d).first (get_or zs i d).last) g.0) e g.1 in
    let more = fewest_more family (take i runs) (get_or runs i d) bs g.0 apart f here in
    let named = subst (λ (zs : List Run). IsFewest family (InRuns zs) (bs ++ g.0)) (sym cut) more in
    subst (λ (zs : List Cidr). IsFewest family (InRuns (take (i + 1) runs)) zs) (sym g.2) named

-- all runs
pub fewest_whole : (set : Spans) (slice : List Run) (i : ℕ) (bs : List Cidr) → slice ≡ set.runs → length slice ≤ i → IsFewest set.family (InRuns (take i set.runs)) bs → IsFewest set.family (IsIn set) bs
fewest_whole set slice i bs e l f =
    let all : take i set.runs ≡ set.runs = take_all i set.runs (subst (λ (zs : List Run). length zs ≤ i) e l) in
    fewest_same set.family (InRuns set.runs) (IsIn set) bs (λ a k. test_from_in set.runs a k) (λ a k. in_from_test set.runs a k) (subst (λ (zs : List Run). IsFewest set.family (InRuns zs) bs) all f)
