-- The laws of tallies.
use Rattle.std.proofs.Common.{◌≡◌, ◌⊎◌, inl, inr, ℕ, zero, suc, ◌+◌, ◌-◌, ◌<◌, ◌≤◌, ◌==◌, Bool, true, false, cond, List, [], ◌∷◌, ◌++◌, length, Contains, get_or, refl, ap, sym, subst, arith, if◌then◌else◌}
use Rattle.std.specs.List.{count_by}
use Rattle.std.proofs.lemmas.Bool.Decides.{nat_tests}
use Rattle.std.proofs.lemmas.List.Sums.{sum_by-cons, sum_by-append}
use Rattle.history_lock.specs.Replay.{own_entries}
use Rattle.ipam_data.specs.declared.calls.Call.{Call}
use Rattle.ipam_data.proofs.RowLists.{contains_cases, contains_head, contains_rest}
use Rattle.command_load.specs.LoadText.{load_address}
use Rattle.command_load.specs.Claims.{creation_of}
use Rattle.command_load.specs.Histories.{own_places, AreShared}
use Rattle.command_load.specs.Tallies.{IsTallyOf, NobodysTally, TalliesAdd, TallyOfAll}
use Rattle.command_load.proofs.Histories.{own_more, shares_add_up}

pub nobody : NobodysTally
nobody history least low = record {
  count = refl;
  below = λ n p c d. (let h = c.1 in absurd (omega arith));
  above = λ n p c d. (let h = c.1 in absurd (omega arith));
  low = low;
  high = omega arith;
}

-- what two lists together contain one of them does
contains_either : (xs ys : List ℕ) (x : ℕ) → Contains (xs ++ ys) x → Contains xs x ⊎ Contains ys x
contains_either [] ys x c = inr c
contains_either (z ∷ xs) ys x c = elim (contains_cases z x (xs ++ ys) c) [
  | inl e ↦ inl (subst (λ (y : ℕ). Contains (z ∷ xs) y) e (contains_head z xs))
  | inr d ↦ elim (contains_either xs ys x d) [ inl f ↦ inl (contains_rest z x xs f) | inr f ↦ inr f ]
]

pub both : TalliesAdd
both history ns ms a b least other greatest more s t = record {
  count = (let e = s.count in let f = t.count in let g = sum_by-append (λ n. length (own_entries n history)) ns ms in omega arith);
  below = λ n p c d. elim (contains_either ns ms n c) [ inl x ↦ (let h = s.below n p x d in omega arith) | inr x ↦ (let h = t.below n p x d in omega arith) ];
  above = λ n p c d. elim (contains_either ns ms n c) [ inl x ↦ (let h = s.above n p x d in omega arith) | inr x ↦ (let h = t.above n p x d in omega arith) ];
  low = (let h = s.low in let i = t.low in omega arith);
  high = (let h = s.high in let i = t.high in omega arith);
}

-- ---- all callers

-- a number that is counted is contained
counted : (numbers : List ℕ) (who : ℕ) → 1 ≤ count_by (λ n. who == n) numbers → Contains numbers who
counted [] who some = absurd (omega arith)
counted (n ∷ numbers) who some = go (who == n) refl (let e = sum_by-cons (λ m. cond (who == m) 1 0) n numbers in omega arith) (counted numbers who) where
  go : (t : Bool) → (who == n) ≡ t → 1 ≤ cond t 1 0 + count_by (λ m. who == m) numbers → (1 ≤ count_by (λ m. who == m) numbers → Contains numbers who) → Contains (n ∷ numbers) who
  go true e some ih = (let same : n ≡ who = grind (arith, nat_tests, e) in subst (λ (y : ℕ). Contains (n ∷ numbers) y) same (contains_head n numbers))
  go false e some ih = contains_rest n who numbers (ih (omega arith))

-- each entry has its place
placed : (entries : List (ℕ × Call)) (from p : ℕ) (d : ℕ × Call) → p < length entries → Contains (own_places (get_or entries p d).0 from entries) (from + p)
placed [] from p d h = absurd (omega arith)
placed (e ∷ es) from zero d h =
    let at : from + 0 ≡ from = omega arith in
    let own : (e.0 == e.0) ≡ true = grind (arith, nat_tests) in
    subst (λ (x : ℕ). Contains (own_places e.0 from (e ∷ es)) x) (sym at)
    (subst (λ (t : Bool). Contains (if t then from ∷ own_places e.0 (from + 1) es else own_places e.0 (from + 1) es) from) (sym own) (contains_head from (own_places e.0 (from + 1) es)))
placed (e ∷ es) from (suc p) d h =
    let at : (from + 1) + p ≡ from + suc p = omega arith in
    go (e.0 == (get_or es p d).0) (subst (λ (x : ℕ). Contains (own_places (get_or es p d).0 (from + 1) es) x) at (placed es (from + 1) p d (omega arith)))
  where
    go : (t : Bool) → Contains (own_places (get_or es p d).0 (from + 1) es) (from + suc p)
        → Contains (if t then from ∷ own_places (get_or es p d).0 (from + 1) es else own_places (get_or es p d).0 (from + 1) es) (from + suc p)
    go true c = contains_rest from (from + suc p) (own_places (get_or es p d).0 (from + 1) es) c
    go false c = c

-- where a number has no entry, no entry bears it
not_own : (entries : List (ℕ × Call)) (n p : ℕ) (d : ℕ × Call) → length (own_entries n entries) ≡ 0 → p < length entries → ((get_or entries p d).0 == n) ≡ false
not_own [] n p d none h = absurd (omega arith)
not_own (e ∷ es) n zero d none h = go (e.0 == n) (let m = own_more n e es in omega arith) where
  go : (t : Bool) → cond {A = ℕ} t 1 0 ≡ 0 → t ≡ false
  go true w = cc
  go false w = refl
not_own (e ∷ es) n (suc p) d none h = not_own es n p d (let m = own_more n e es in omega arith) (omega arith)

-- so each bears one of the other numbers
pub shared_at : (entries : List (ℕ × Call)) (n : ℕ) (numbers : List ℕ) (p : ℕ) (d : ℕ × Call) → AreShared (n ∷ numbers) entries → length (own_entries n entries) ≡ 0 → p < length entries
    → Contains numbers (get_or entries p d).0
shared_at entries n numbers p d shared none h =
    let once : count_by (λ m. (get_or entries p d).0 == m) (n ∷ numbers) ≡ 1 = at entries p shared h in
    let parts = sum_by-cons (λ m. cond ((get_or entries p d).0 == m) 1 0) n numbers in
    let zero_ : cond {A = ℕ} ((get_or entries p d).0 == n) 1 0 ≡ 0 = ap (λ (t : Bool). cond {A = ℕ} t 1 0) (not_own entries n p d none h) in
    counted numbers (get_or entries p d).0 (omega arith)
  where
    at : (xs : List (ℕ × Call)) (k : ℕ) → AreShared (n ∷ numbers) xs → k < length xs → count_by (λ m. (get_or xs k d).0 == m) (n ∷ numbers) ≡ 1
    at [] k s l = absurd (omega arith)
    at (x ∷ xs) zero s l = s.0
    at (x ∷ xs) (suc k) s l = at xs k s.1 (omega arith)

all_of : (first : ℕ × Call) (claims : List (ℕ × Call)) (numbers : List ℕ) (claimed least greatest : ℕ) → length (own_entries first.0 (first ∷ claims)) ≡ 1
    → AreShared (first.0 ∷ numbers) (first ∷ claims) → 2 ≤ length (first ∷ claims) → IsTallyOf (first ∷ claims) numbers claimed least greatest
    → (claimed + 1 ≡ length (first ∷ claims)) × (least ≡ (load_address 1).value) × (greatest ≡ (load_address claimed).value)
all_of first claims numbers claimed least greatest one shared long tally =
    let mine : (first.0 == first.0) ≡ true = grind (arith, nat_tests) in
    let more = own_more first.0 first claims in
    let self : cond {A = ℕ} (first.0 == first.0) 1 0 ≡ 1 = ap (λ (t : Bool). cond {A = ℕ} t 1 0) mine in
    let none : length (own_entries first.0 claims) ≡ 0 = omega arith in
    let count = tally.count in
    let sums = shares_add_up (first.0 ∷ numbers) (first ∷ claims) shared in
    let parts = sum_by-cons (λ n. length (own_entries n (first ∷ claims))) first.0 numbers in
    let many : claimed + 1 ≡ length (first ∷ claims) = omega arith in
    let last = length claims - 1 in
    let one_place : 0 + 1 ≡ 1 = refl in
    let low = tally.low in
    let high = tally.high in
    let start = tally.below (get_or (first ∷ claims) 1 first).0 1 (shared_at claims first.0 numbers 0 first shared.1 none (omega arith)) (placed (first ∷ claims) 0 1 first (omega arith)) in
    let at : suc last ≡ claimed = omega arith in
    let stop = tally.above (get_or (first ∷ claims) (suc last) first).0 (0 + suc last) (shared_at claims first.0 numbers last first shared.1 none (omega arith)) (placed (first ∷ claims) 0 (suc last) first (omega arith)) in
    (many, omega arith, omega arith)

pub all : TallyOfAll
all len history numbers claimed least greatest h =
    subst (λ (l : List (ℕ × Call)). length (own_entries h.maker l) ≡ 1 → AreShared (h.maker ∷ numbers) l → 2 ≤ length l → IsTallyOf l numbers claimed least greatest
    → (claimed + 1 ≡ length l) × (least ≡ (load_address 1).value) × (greatest ≡ (load_address claimed).value))
    (sym h.is) (all_of (h.maker, creation_of len) h.claims numbers claimed least greatest)
