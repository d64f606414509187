-- The walk through two lists in address order: what of the one is not in the other.
use Rattle.std.proofs.Common.{◌≡◌, ◌≢◌, ◌↔◌, ◌⊎◌, ℕ, zero, suc, ◌+◌, ◌-◌, ◌<◌, ◌≤◌, max, refl, sym, ◌∙◌, ap, subst, arith, inl, inr, Bool, true, false, not, ◌&&◌, ◌||◌, IsTrue, List, [], ◌∷◌, ◌++◌, length, take, drop, get_or}
use Rattle.std.specs.List.{AllByRecursion}
use Rattle.std.proofs.lemmas.Bool.{cases_lt, or_left, or_right, or_cases, or_from}
use Rattle.std.proofs.lemmas.Bool.Decides.{nat_tests}
use Rattle.std.proofs.lemmas.List.{take-append-drop, drop_more}
use Rattle.std.proofs.lemmas.List.Folds.{list_any-append}
use Rattle.std.proofs.lemmas.Nat.{pow_pos}
use Rattle.inet_num.specs.Net.{Cidr, HasAddress, width_of, size_of}
use Rattle.inet_num.specs.declared.Family.{Family}
use Rattle.inet_num.specs.Free.{InOrder, has_address, is_taken}
use Rattle.span_set.specs.Spans.{Spans, IsIn}
use Rattle.prefix_list.specs.Lists.{AreOf}
use Rattle.prefix_list.specs.Steps.{GainsUpTo, HasRest, IsSameFrom, IsBeyond}
use Rattle.prefix_list.proofs.JustSets.{to_test, from_test, has_as_test, as_has_test}

-- ---- blocks in address order

order_from : (m n : ℕ) (bs : List Cidr) → m ≤ n → InOrder n bs → InOrder m bs
order_from m n [] le h = tt
order_from m n (b ∷ bs) le h = (let l = h.0 in omega arith, h.1)

pub order_tail : (b : Cidr) (bs : List Cidr) → InOrder 0 (b ∷ bs) → InOrder 0 bs
order_tail b bs h = order_from 0 (b.first + size_of b) bs (omega arith) h.1

order_back : (from : ℕ) (xs ys : List Cidr) → InOrder from (xs ++ ys) → InOrder 0 ys
order_back from [] ys h = order_from 0 from ys (omega arith) h
order_back from (x ∷ xs) ys h = order_back (x.first + size_of x) xs ys h.1

all_behind : (from : ℕ) (bs : List Cidr) → InOrder from bs → AllByRecursion (λ b. from ≤ b.first) bs
all_behind from [] h = tt
all_behind from (b ∷ bs) h = (h.0, all_behind from bs (order_from from (b.first + size_of b) bs (let l = h.0 in omega arith) h.1))

has_not_before : (b : Cidr) (n : ℕ) → n < b.first → has_address b n ≡ false
has_not_before b n h = grind (arith, nat_tests)

has_not_behind : (b : Cidr) (n : ℕ) → b.first + size_of b ≤ n → has_address b n ≡ false
has_not_behind b n h = grind (arith, nat_tests)

none_before : (from : ℕ) (bs : List Cidr) (n : ℕ) → InOrder from bs → n < from → is_taken bs n ≡ false
none_before from [] n h less = refl
none_before from (b ∷ bs) n h less =
    or_from (has_address b n) (is_taken bs n) (has_not_before b n (let l = h.0 in omega arith))
    (none_before (b.first + size_of b) bs n h.1 (let l = h.0 in omega arith))

taken_append : (xs ys : List Cidr) (n : ℕ) → is_taken (xs ++ ys) n ≡ (is_taken xs n || is_taken ys n)
taken_append xs ys n = list_any-append (λ b. has_address b n) xs ys

-- ---- a block of the list, those before it and those behind it

-- none of the list has a number that those before have not and that comes before the block
clear_before : (xs : List Cidr) (c : Cidr) (ys : List Cidr) (n : ℕ) → InOrder 0 (xs ++ c ∷ ys) → is_taken xs n ≡ false → n < c.first → is_taken (xs ++ c ∷ ys) n ≡ false
clear_before xs c ys n order none less =
    let back = order_back 0 xs (c ∷ ys) order in
    taken_append xs (c ∷ ys) n ∙ or_from (is_taken xs n) (is_taken (c ∷ ys) n) none
    (or_from (has_address c n) (is_taken ys n) (has_not_before c n less) (none_before (c.first + size_of c) ys n back.1 (omega arith)))

taken_there : (xs : List Cidr) (c : Cidr) (ys : List Cidr) (n : ℕ) → HasAddress c n → is_taken (xs ++ c ∷ ys) n ≡ true
taken_there xs c ys n h =
    taken_append xs (c ∷ ys) n ∙ or_right (is_taken xs n) (is_taken (c ∷ ys) n) (or_left (has_address c n) (is_taken ys n) (has_as_test c n h))

-- a list is its front, the block at an index, and the rest
pub split_at : (bs : List Cidr) (i : ℕ) (c : Cidr) → i < length bs → c ≡ get_or bs i c → bs ≡ take i bs ++ c ∷ drop (i + 1) bs
split_at bs i c h is = sym (take-append-drop i bs) ∙ ap (λ (r : List Cidr). take i bs ++ r) (drop_more bs i c h ∙ ap (λ (b : Cidr). b ∷ drop (i + 1) bs) (sym is))

-- ---- the walk through the blocks beside one block

-- the set has gained the block's numbers below a bound that the list does not take
abbrev pub IsBelow : Spans → Spans → Cidr → List Cidr → ℕ → Type 0
IsBelow old set block by at = (n : ℕ) → IsIn set n ↔ (IsIn old n ⊎ ((block.first ≤ n) × (n < at) × (is_taken by n ≡ false)))

-- none of these blocks has a number from here on
abbrev pub IsPast : List Cidr → ℕ → Type 0
IsPast bs at = (n : ℕ) → at ≤ n → is_taken bs n ≡ false

pub below_none : (old : Spans) (block : Cidr) (by : List Cidr) → IsBelow old old block by block.first
below_none old block by n = ((λ h. inl h), (λ h. elim h [ inl k ↦ k | inr k ↦ (let l = k.0 in let u = k.1 in absurd (omega arith)) ]))

pub past_more : (xs : List Cidr) (c : Cidr) (at end next : ℕ) → IsPast xs at → c.first + size_of c ≤ end + 1 → next ≡ max at (end + 1) → IsPast (xs ++ c ∷ []) next
past_more xs c at end next past le is n h =
    taken_append xs (c ∷ []) n ∙ or_from (is_taken xs n) (is_taken (c ∷ []) n) (past n (omega arith))
    (or_from (has_address c n) false (has_not_behind c n (omega arith)) refl)

-- one more block, which ends within
pub below_more : (old set new : Spans) (block : Cidr) (by xs : List Cidr) (c : Cidr) (ys : List Cidr) (at end next : ℕ) → InOrder 0 by → by ≡ xs ++ c ∷ ys
    → IsBelow old set block by at → IsPast xs at → block.first ≤ at → c.first + size_of c ≡ end + 1 → next ≡ max at (end + 1)
    → GainsUpTo set new at c.first → IsBelow old new block by next
below_more old set new block by xs c ys at end next order e below past low ends is gains n =
    let some = pow_pos (width_of c.family - c.len) in (
      (λ h. elim ((gains n).0 h) [
        | inl k ↦ (elim ((below n).0 k) [ inl m ↦ inl m | inr m ↦ inr (m.0, (let u = m.1 in omega arith), m.2) ])
        | inr k ↦
            let l = k.0 in
            let u = k.1 in
            inr (
              omega arith,
              omega arith,
              subst (λ (bs : List Cidr). is_taken bs n ≡ false) (sym e)
                  (clear_before xs c ys n (subst (InOrder 0) e order) (past n l) u),
            )
      ]),
      (λ h. elim h [
        | inl k ↦ (gains n).1 (inl ((below n).1 (inl k)))
        | inr k ↦
            let l = k.0 in
            let u = k.1 in
            elim (cases_lt n at) [
              | inl less ↦ (gains n).1 (inl ((below n).1 (inr (l, less, k.2))))
              | inr le ↦ elim (cases_lt n c.first) [
                | inl less ↦ (gains n).1 (inr (le, less))
                | inr from ↦
                    let yes = taken_there xs c ys n (from, omega arith) in
                    let no : is_taken (xs ++ c ∷ ys) n ≡ false = subst (λ (bs : List Cidr). is_taken bs n ≡ false) e k.2 in
                    cc
              ]
            ]
      ]),
    )

-- one more block, which reaches the end of the one looked at
pub rest_ended : (old set new : Spans) (block : Cidr) (by xs : List Cidr) (c : Cidr) (ys : List Cidr) (at : ℕ) → InOrder 0 by → by ≡ xs ++ c ∷ ys
    → IsBelow old set block by at → IsPast xs at → block.first ≤ at → c.first < block.first + size_of block → block.first + size_of block ≤ c.first + size_of c
    → at ≤ block.first + size_of block → GainsUpTo set new at c.first → HasRest old new block by
rest_ended old set new block by xs c ys at order e below past low begins ends high gains n = (
  (λ h. elim ((gains n).0 h) [
    | inl k ↦ (elim ((below n).0 k) [ inl m ↦ inl m | inr m ↦ inr ((m.0, (let u = m.1 in omega arith)), m.2) ])
    | inr k ↦
        let l = k.0 in
        let u = k.1 in
        inr (
          (omega arith, omega arith),
          subst (λ (bs : List Cidr). is_taken bs n ≡ false) (sym e)
              (clear_before xs c ys n (subst (InOrder 0) e order) (past n l) u),
        )
  ]),
  (λ h. elim h [
    | inl k ↦ (gains n).1 (inl ((below n).1 (inl k)))
    | inr k ↦
        let l = k.0.0 in
        let u = k.0.1 in
        elim (cases_lt n at) [
          | inl less ↦ (gains n).1 (inl ((below n).1 (inr (l, less, k.1))))
          | inr le ↦ elim (cases_lt n c.first) [
            | inl less ↦ (gains n).1 (inr (le, less))
            | inr from ↦
                let yes = taken_there xs c ys n (from, omega arith) in
                let no : is_taken (xs ++ c ∷ ys) n ≡ false = subst (λ (bs : List Cidr). is_taken bs n ≡ false) e k.1 in
                cc
          ]
        ]
  ]),
)

-- the numbers from the bound to the end of the block are added, none of which the list takes
pub rest_added : (old set new : Spans) (block : Cidr) (by : List Cidr) (at : ℕ) → IsBelow old set block by at → block.first ≤ at → at ≤ block.first + size_of block
    → ((n : ℕ) → at ≤ n → n < block.first + size_of block → is_taken by n ≡ false) → GainsUpTo set new at (block.first + size_of block) → HasRest old new block by
rest_added old set new block by at below low high none gains n = (
  (λ h. elim ((gains n).0 h) [
    | inl k ↦ (elim ((below n).0 k) [ inl m ↦ inl m | inr m ↦ inr ((m.0, (let u = m.1 in omega arith)), m.2) ])
    | inr k ↦ (let l = k.0 in let u = k.1 in inr ((omega arith, u), none n l u))
  ]),
  (λ h. elim h [
    | inl k ↦ (gains n).1 (inl ((below n).1 (inl k)))
    | inr k ↦
        let l = k.0.0 in
        let u = k.0.1 in
        elim (cases_lt n at) [
          | inl less ↦ (gains n).1 (inl ((below n).1 (inr (l, less, k.1))))
          | inr le ↦ (gains n).1 (inr (le, u))
        ]
  ]),
)

-- none of the list takes a number from the bound on that comes before the next block
pub none_up_to : (by xs : List Cidr) (c : Cidr) (ys : List Cidr) (at n : ℕ) → InOrder 0 by → by ≡ xs ++ c ∷ ys → IsPast xs at → at ≤ n → n < c.first → is_taken by n ≡ false
none_up_to by xs c ys at n order e past le less =
    subst (λ (bs : List Cidr). is_taken bs n ≡ false) (sym e) (clear_before xs c ys n (subst (InOrder 0) e order) (past n le) less)

-- ---- the walk through the blocks of the first list

pub same_all : (by have : List Cidr) → AllByRecursion (λ h. IsSameFrom by by h.first) have
same_all by [] = tt
same_all by (h ∷ hs) = ((λ n le. refl), same_all by hs)

same_step : (left next by : List Cidr) (from : ℕ) (hs : List Cidr) → IsSameFrom next left from → AllByRecursion (λ h. from ≤ h.first) hs
    → AllByRecursion (λ h. IsSameFrom left by h.first) hs → AllByRecursion (λ h. IsSameFrom next by h.first) hs
same_step left next by from [] same behind old = tt
same_step left next by from (h ∷ hs) same behind old =
    ((λ n le. same n (let b = behind.0 in omega arith) ∙ old.0 n le), same_step left next by from hs same behind.1 old.1)

pub same_more : (left next by have : List Cidr) (i : ℕ) (c : Cidr) → InOrder 0 have → have ≡ take i have ++ c ∷ drop (i + 1) have → drop i have ≡ c ∷ drop (i + 1) have
    → IsSameFrom next left c.first → AllByRecursion (λ h. IsSameFrom left by h.first) (drop i have) → AllByRecursion (λ h. IsSameFrom next by h.first) (drop (i + 1) have)
same_more left next by have i c order e e2 same old =
    let back = order_back 0 (take i have) (c ∷ drop (i + 1) have) (subst (InOrder 0) e order) in
    let behind = all_behind c.first (drop (i + 1) have) (order_from c.first (c.first + size_of c) (drop (i + 1) have) (omega arith) back.1) in
    let there = subst (AllByRecursion (λ h. IsSameFrom left by h.first)) e2 old in
    same_step left next by c.first (drop (i + 1) have) same behind there.1

pub beyond_more : (old new : Spans) (have by left : List Cidr) (c : Cidr) → IsBeyond old have by → IsSameFrom left by c.first → HasRest old new c left → IsBeyond new (have ++ c ∷ []) by
beyond_more old new have by left c was same rest n =
    let more = taken_append have (c ∷ []) n in (
      (λ h. elim ((rest n).0 h) [
        | inl k ↦ (let m = (was n).0 k in (to_test (more ∙ or_left _ _ (from_test m.0)), m.1))
        | inr k ↦ (to_test (more ∙ or_right (is_taken have n) (is_taken (c ∷ []) n) (or_left (has_address c n) false (has_as_test c n k.0))), sym (same n k.0.0) ∙ k.1)
      ]),
      (λ h. elim (or_cases (is_taken have n) (is_taken (c ∷ []) n) (sym more ∙ from_test h.0)) [
        | inl k ↦ (rest n).1 (inl ((was n).1 (to_test k, h.1)))
        | inr k ↦ elim (or_cases (has_address c n) false k) [
          | inl m ↦ (let has = as_has_test c n m in (rest n).1 (inr (has, same n has.0 ∙ h.1)))
          | inr m ↦ cc
        ]
      ]),
    )

pub same_here : (left next by : List Cidr) (c : Cidr) (hs : List Cidr) → IsSameFrom next left c.first → AllByRecursion (λ h. IsSameFrom left by h.first) (c ∷ hs) → IsSameFrom next by c.first
same_here left next by c hs same old n le = same n le ∙ old.0 n le

pub beyond_none : (set : Spans) (by : List Cidr) → set.runs ≡ [] → IsBeyond set [] by
beyond_none set by e n = ((λ h. (let f : IsTrue false = rw e at h in cc)), (λ h. (let f : IsTrue false = h.0 in cc)))

pub of_at : (family : Family) (bs : List Cidr) (i : ℕ) (b : Cidr) → AreOf family bs → i < length bs → b ≡ get_or bs i b → b.family ≡ family
of_at family [] i b h l is = absurd (omega arith)
of_at family (c ∷ bs) zero b h l is = ap (λ (x : Cidr). x.family) is ∙ h.0
of_at family (c ∷ bs) (suc i) b h l is = of_at family bs i b h.1 (omega arith) is
