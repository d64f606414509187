-- What the closed history of a load is, once all workers were dismissed.
use Rattle.std.proofs.Common.{◌≡◌, ◌⊎◌, inl, inr, ◌+◌, ◌<◌, ◌≤◌, ◌==◌, ℕ, Bool, true, false, cond, List, [], ◌∷◌, length, Contains, refl, sym, ap, ◌∙◌, subst, arith}
use Rattle.std.specs.Prelude.{map, sum_by}
use Rattle.std.specs.List.{AllByRecursion, count_by}
use Rattle.std.proofs.lemmas.Bool.Decides.{nat_tests}
use Rattle.std.proofs.lemmas.List.Sums.{sum_by-cons}
use mathlib.Core.List.{IsPrefix}
use Rattle.history_lock.specs.Replay.{own_entries}
use Rattle.ipam_data.specs.declared.calls.Call.{Call}
use Rattle.ipam_data.proofs.RowLists.{contains_cases, contains_head, contains_rest}
use Rattle.command_load.specs.Claims.{creation_of}
use Rattle.command_load.specs.Histories.{AreClaims, AreShared, IsLoadHistory, HasRoomFor}
use Rattle.command_load.proofs.Notes.{notes_tally}
use Rattle.command_load.proofs.Others.{others_claim}
use Rattle.command_load.proofs.Histories.{shares_add_up}
use Rattle.command_load.proofs.Tallies.{all}
use Rattle.command_load.specs.LoadText.{load_address}
use Rattle.command_load.specs.declared.tally.Tally.{Tally}
use Rattle.command_load.specs.Hired.{Caller, last_of_v4}
use Rattle.command_load.specs.Dismissed.{AreNumberedFrom, HasDismissed, IsNotedPart, IsTally, Part, ended_of, number_of}

-- numbers that follow one another are at least the first
numbers_from : (first e : ℕ) (ps : List Part) → AreNumberedFrom first ps → Contains (map number_of ps) e → first ≤ e
numbers_from first e [] k c = absurd (omega (arith, c.1))
numbers_from first e (p ∷ ps) k c = elim (contains_cases (number_of p) e (map number_of ps) c)
    [ inl is ↦ (let one = k.0 in omega arith) | inr rest ↦ (let later = numbers_from (first + 1) e ps k.1 rest in omega arith) ]

-- a number before the first is none of them
none_before : (first e : ℕ) (ps : List Part) → AreNumberedFrom first ps → e < first → count_by (λ n. e == n) (map number_of ps) ≡ 0
none_before first e [] k lt = refl
none_before first e (p ∷ ps) k lt =
    let one = k.0 in
    let parts = sum_by-cons (λ m. cond (e == m) 1 0) (number_of p) (map number_of ps) in
    let other_test : (e == number_of p) ≡ false = grind (arith, nat_tests) in
    let other : cond {A = ℕ} (e == number_of p) 1 0 ≡ 0 = ap (λ (t : Bool). cond {A = ℕ} t 1 0) other_test in
    let rest = none_before (first + 1) e ps k.1 (omega arith) in
    omega arith

-- one of them stands among them once
one_once : (first e : ℕ) (ps : List Part) → AreNumberedFrom first ps → Contains (map number_of ps) e → count_by (λ n. e == n) (map number_of ps) ≡ 1
one_once first e [] k c = absurd (omega (arith, c.1))
one_once first e (p ∷ ps) k c =
    let parts = sum_by-cons (λ m. cond (e == m) 1 0) (number_of p) (map number_of ps) in
    let one = k.0 in
    elim (contains_cases (number_of p) e (map number_of ps) c) [
      | inl is ↦
          (let mine_test : (e == number_of p) ≡ true = grind (arith, nat_tests) in
          let mine : cond {A = ℕ} (e == number_of p) 1 0 ≡ 1 = ap (λ (t : Bool). cond {A = ℕ} t 1 0) mine_test in
          let rest = none_before (first + 1) e ps k.1 (omega arith) in
          omega arith)
      | inr rest ↦
          (let later = numbers_from (first + 1) e ps k.1 rest in
          let other_test : (e == number_of p) ≡ false = grind (arith, nat_tests) in
          let other : cond {A = ℕ} (e == number_of p) 1 0 ≡ 0 = ap (λ (t : Bool). cond {A = ℕ} t 1 0) other_test in
          let again = one_once (first + 1) e ps k.1 rest in
          omega arith)
    ]

-- each entry bears just one of the numbers, the maker's or one of those
all_shared : (first : ℕ) (ps : List Part) (history : List (ℕ × Call)) → 1 ≤ first → AreNumberedFrom first ps
    → ((e : ℕ × Call) → Contains history e → (e.0 ≡ 0) ⊎ Contains (map number_of ps) e.0) → AreShared (0 ∷ map number_of ps) history
all_shared first ps [] low k has = tt
all_shared first ps (e ∷ es) low k has =
    let parts = sum_by-cons (λ m. cond (e.0 == m) 1 0) 0 (map number_of ps) in (
      elim (has e (contains_head e es)) [
        | inl zero_ ↦
            (let mine_test : (e.0 == 0) ≡ true = grind (arith, nat_tests) in
            let mine : cond {A = ℕ} (e.0 == 0) 1 0 ≡ 1 = ap (λ (t : Bool). cond {A = ℕ} t 1 0) mine_test in
            let rest = none_before first e.0 ps k (omega arith) in
            omega arith)
        | inr there ↦
            (let high = numbers_from first e.0 ps k there in
            let other_test : (e.0 == 0) ≡ false = grind (arith, nat_tests) in
            let other : cond {A = ℕ} (e.0 == 0) 1 0 ≡ 0 = ap (λ (t : Bool). cond {A = ℕ} t 1 0) other_test in
            let one = one_once first e.0 ps k there in
            omega arith)
      ],
      all_shared first ps es low k (λ x c. has x (contains_rest e x es c)),
    )

-- what is kept of a part has its number
ended_number : (ps : List Part) (n : ℕ) (es : List (ℕ × Call)) → Contains (map ended_of ps) (n, es) → Contains (map number_of ps) n
ended_number [] n es c = absurd (omega (arith, c.1))
ended_number (p ∷ ps) n es c = elim (contains_cases (ended_of p) (n, es) (map ended_of ps) c) [
  | inl is ↦ subst (λ (m : ℕ). Contains (map number_of (p ∷ ps)) m) (ap (λ (x : ℕ × List (ℕ × Call)). x.0) is) (contains_head (number_of p) (map number_of ps))
  | inr rest ↦ contains_rest (number_of p) n (map number_of ps) (ended_number ps n es rest)
]

-- the entries of each part are those that its seat had seen
abbrev IsKept : List (ℕ × Call) → Part → Type 0
IsKept history p = own_entries p.seat.number history ≡ own_entries p.seat.number p.seat.seen

all_kept : (history : List (ℕ × Call)) (ps : List Part) → ((e : ℕ × List (ℕ × Call)) → Contains (map ended_of ps) e → own_entries e.0 history ≡ e.1) → AllByRecursion (IsKept history) ps
all_kept history [] f = tt
all_kept history (p ∷ ps) f = (f (ended_of p) (contains_head (ended_of p) (map ended_of ps)), all_kept history ps (λ e c. f e (contains_rest (ended_of p) e (map ended_of ps) c)))

-- as many entries as they tell
lengths_are : (history : List (ℕ × Call)) (ps : List Part) → AllByRecursion (IsKept history) ps → AllByRecursion IsNotedPart ps
    → sum_by (λ n. length (own_entries n history)) (map number_of ps) ≡ sum_by (λ p. p.tally.claimed) ps
lengths_are history [] kept noted = refl
lengths_are history (p ∷ ps) kept noted =
    let here = ap length kept.0 in
    let count = noted.0.count in
    let rest = lengths_are history ps kept.1 noted.1 in
    let left = sum_by-cons (λ n. length (own_entries n history)) (number_of p) (map number_of ps) in
    let right = sum_by-cons (λ (q : Part). q.tally.claimed) p ps in
    omega arith

-- which are claims
all_claims : (history : List (ℕ × Call)) (ps : List Part) → AllByRecursion (IsKept history) ps → AllByRecursion IsNotedPart ps
    → (n : ℕ) → Contains (map number_of ps) n → AreClaims (own_entries n history)
all_claims history [] kept noted n c = absurd (omega (arith, c.1))
all_claims history (p ∷ ps) kept noted n c = elim (contains_cases (number_of p) n (map number_of ps) c) [
  | inl is ↦ subst (λ (m : ℕ). AreClaims (own_entries m history)) is (subst AreClaims (sym kept.0) noted.0.claims)
  | inr rest ↦ all_claims history ps kept.1 noted.1 n rest
]

-- and each part's tally is its tally in the history
all_tallies : (len first : ℕ) (history : List (ℕ × Call)) (ps : List Part) (h : IsLoadHistory len history) → HasRoomFor len (length history) → (load_address (length history)).value ≤ last_of_v4 → h.maker < first
    → AreNumberedFrom first ps → AllByRecursion (λ p. IsPrefix p.seat.seen history) ps → AllByRecursion (IsKept history) ps → AllByRecursion IsNotedPart ps
    → AllByRecursion (λ p. IsTally history (number_of p ∷ []) p.tally) ps
all_tallies len first history [] h room most low k seen kept noted = tt
all_tallies len first history (p ∷ ps) h room most low k seen kept noted =
    let one = k.0 in (
      notes_tally true len last_of_v4 history p.seat p.tally.claimed p.tally.least p.tally.greatest h room noted.0 seen.0 kept.0 (λ e. absurd (omega arith)) most,
      all_tallies len (first + 1) history ps h room most (omega arith) k.1 seen.1 kept.1 noted.1,
    )

-- a closed history: the creation, and as many claims as were asked for; the tally of all is from the first address to the last
pub record IsClaimedWhole (count len : ℕ) (history : List (ℕ × Call)) (sum : Tally) : Type 0 where
  pub is_load : IsLoadHistory len history
  pub long : length history ≡ count + 1
  pub least : sum.least ≡ (load_address 1).value
  pub greatest : sum.greatest ≡ (load_address count).value

-- once the lock is closed, the history has the creation and as many claims as were asked for, and the tally of all is from the first address to the last
pub closed_tally : (count len first many : ℕ) (v : Caller) (sum : Tally) → HasRoomFor len (count + 1) → (load_address (count + 1)).value ≤ last_of_v4 → 1 ≤ count → 1 ≤ first
    → HasDismissed true first many v sum → sum.claimed ≡ count → IsPrefix ((0, creation_of len) ∷ []) v.seen → own_entries 0 v.seen ≡ (0, creation_of len) ∷ [] → v.number ≡ 0
    → ((e : ℕ × Call) → Contains v.seen e → (e.0 ≡ v.number) ⊎ ((es : List (ℕ × Call)) × Contains v.ended (e.0, es)))
    → ((e : ℕ × List (ℕ × Call)) → Contains v.ended e → own_entries e.0 v.seen ≡ e.1)
    → IsClaimedWhole count len v.seen sum
closed_tally count len first many v sum room most some low k claimed_is start own number seats ended_kept =
    let ps = k.parts in
    let claims = start.0 in
    let is : v.seen ≡ (0, creation_of len) ∷ claims = sym start.1 in
    let kept = all_kept v.seen ps (λ e c. ended_kept e (subst (λ (l : List (ℕ × List (ℕ × Call))). Contains l e) (sym k.ended) c)) in
    let noted = k.noted refl in
    let shared = all_shared first ps v.seen low k.numbers (λ e c. elim (seats e c) [
      | inl mine ↦ inl (mine ∙ number)
      | inr other ↦ inr (ended_number ps e.0 other.0 (subst (λ (l : List (ℕ × List (ℕ × Call))). Contains l (e.0, other.0)) k.ended other.1))
    ]) in
    let one : length (own_entries 0 v.seen) ≡ 1 = ap length own in
    let each = others_claim len 0 claims (map number_of ps) (subst (λ (h : List (ℕ × Call)). length (own_entries 0 h) ≡ 1) is one)
    (subst (AreShared (0 ∷ map number_of ps)) is shared) (λ n c. subst (λ (h : List (ℕ × Call)). AreClaims (own_entries n h)) is (all_claims v.seen ps kept noted n c)) in
    let h : IsLoadHistory len v.seen = record { maker = 0; claims = claims; is = is; each = each } in
    let sums = shares_add_up (0 ∷ map number_of ps) v.seen shared in
    let parts = sum_by-cons (λ n. length (own_entries n v.seen)) 0 (map number_of ps) in
    let lens = lengths_are v.seen ps kept noted in
    let counted = k.count in
    let long : length v.seen ≡ count + 1 = omega arith in
    let tallies = all_tallies len first v.seen ps h (subst (HasRoomFor len) (sym long) room) (subst (λ (n : ℕ). (load_address n).value ≤ last_of_v4) (sym long) most) low k.numbers k.seen kept noted in
    let r = all len v.seen (map number_of ps) sum.claimed sum.least sum.greatest h one shared (omega arith) (k.tally v.seen tallies) in
    record { is_load = h; long = long; least = r.1; greatest = r.2 ∙ ap (λ (n : ℕ). (load_address n).value) claimed_is }
