-- Sets of addresses as sets of numbers of one family, and what the fewest blocks of such a set say of lists.
use Rattle.std.proofs.Common.{◌≡◌, ◌≢◌, ◌↔◌, ◌⊎◌, ℕ, ◌+◌, ◌-◌, ◌<◌, ◌≤◌, refl, sym, ◌∙◌, ap, subst, arith, inl, inr, Bool, true, false, not, ◌&&◌, ◌||◌, IsTrue, List, [], ◌∷◌, ◌++◌, length, get_or, Result, Ok, Err, IfOk, IfErr}
use Rattle.std.specs.List.{AllByRecursion}
use Rattle.std.specs.List.Sorted.{IsPermutation}
use Rattle.std.proofs.lemmas.List.Elements.{recursion_from_All, All-from_recursion}
use Rattle.std.proofs.lemmas.List.Sorted.{All-permutation, list_any-IsPermutation}
use Rattle.std.proofs.lemmas.Bool.{or_left, or_right, or_cases}
use Rattle.std.proofs.lemmas.Bool.Decides.{nat_tests}
use Rattle.std.proofs.lemmas.List.Recursion.{or_push}
use Rattle.std.proofs.lemmas.Nat.{pow_pos}
use Rattle.inet_num.specs.declared.Family.{Family}
use Rattle.inet_num.specs.declared.Family.TheVariants.{V4, V6}
use Rattle.inet_num.specs.Net.{Address, Cidr, IsBlock, HasAddress, width_of, size_of, first_of, last_of}
use Rattle.inet_num.specs.Blocks.{block_holds}
use Rattle.inet_num.specs.Free.{has_address, is_taken}
use Rattle.inet_num.specs.Fewest.{IsWithin, HaveJust}
use Rattle.span_set.specs.Runs.{IsBetween}
use Rattle.span_set.specs.Spans.{Spans, IsIn}
use Rattle.span_set.specs.Blocks as span_set
use Rattle.span_set.proofs.Rest.{between_of_block}
use Rattle.prefix_list.specs.Lists.{addresses_of_list, addresses_beyond, HasJust, NoneIsShorter, AreOf}
use Rattle.prefix_list.proofs.Members.{at, here, list_has, list_has_not}

-- the numbers in the set are those of the addresses that meet the test, which are all of the set's family
pub record IsSetOf (set : Spans) (test : Address → Bool) : Type 0 where
  pub own : (a : Address) → a.family ≢ set.family → test a ≡ false
  pub numbers : (n : ℕ) → IsIn set n ↔ IsTrue (test (at set.family n))

cases_family : (f g : Family) → (f ≡ g) ⊎ (f ≢ g)
cases_family V4 V4 = inl refl
cases_family V4 V6 = inr (λ e. cc)
cases_family V6 V4 = inr (λ e. cc)
cases_family V6 V6 = inl refl

same_test : (s t : Bool) → (IsTrue s → IsTrue t) → (IsTrue t → IsTrue s) → s ≡ t
same_test true true to from = refl
same_test false false to from = refl
same_test true false to from = (let h = to refl in cc)
same_test false true to from = (let h = from refl in cc)

pub to_test : {t : Bool} → t ≡ true → IsTrue t
to_test e = grind arith

pub from_test : {t : Bool} → IsTrue t → t ≡ true
from_test h = grind arith

pub has_as_test : (b : Cidr) (n : ℕ) → HasAddress b n → has_address b n ≡ true
has_as_test b n (low, high) = grind (arith, nat_tests)

pub as_has_test : (b : Cidr) (n : ℕ) → has_address b n ≡ true → HasAddress b n
as_has_test b n e = (grind (arith, nat_tests), grind (arith, nat_tests))

-- blocks that have the set's numbers have just the addresses
pub just : (set : Spans) (test : Address → Bool) (bs : List Cidr) → IsSetOf set test → AreOf set.family bs → ((n : ℕ) → IsIn set n ↔ IsTrue (is_taken bs n)) → HasJust test bs
just set test bs is family members a = elim (cases_family a.family set.family) [
  | inl same ↦
      subst (λ (f : Family). addresses_of_list bs (at f a.value) ≡ test (at f a.value)) (sym same)
      (list_has set.family bs a.value family ∙ same_test (is_taken bs a.value) (test (at set.family a.value))
      (λ h. (is.numbers a.value).0 ((members a.value).1 h)) (λ h. (members a.value).0 ((is.numbers a.value).1 h)))
  | inr other ↦ list_has_not set.family bs a family other ∙ sym (is.own a other)
]

taken_more : (bs : List Cidr) (c : Cidr) (n : ℕ) → is_taken (bs ++ c ∷ []) n ≡ (is_taken bs n || has_address c n)
taken_more bs c n = or_push (λ xs. is_taken xs n) (λ b. has_address b n) refl (λ _ _. refl) bs c

-- one more block is added
pub added_more : (old new : Spans) (c : Cidr) (bs : List Cidr) → ((n : ℕ) → IsIn old n ↔ IsTrue (is_taken bs n))
    → ((n : ℕ) → IsIn new n ↔ (IsIn old n ⊎ IsBetween (first_of c).value (last_of c).value n)) → (n : ℕ) → IsIn new n ↔ IsTrue (is_taken (bs ++ c ∷ []) n)
added_more old new c bs was added n =
    let span = between_of_block c n in
    let more = taken_more bs c n in
    let parts : (is_taken bs n ≡ true) ⊎ (has_address c n ≡ true) → is_taken (bs ++ c ∷ []) n ≡ true =
    λ h. elim h [ inl k ↦ more ∙ or_left (is_taken bs n) (has_address c n) k | inr k ↦ more ∙ or_right (is_taken bs n) (has_address c n) k ] in (
      (λ h. elim ((added n).0 h) [
        | inl k ↦ (let t = (was n).0 k in to_test (parts (inl (from_test t))))
        | inr k ↦ (let t = span.0 k in to_test (parts (inr (has_as_test c n t))))
      ]),
      (λ h. elim (or_cases (is_taken bs n) (has_address c n) (sym more ∙ from_test h)) [
        | inl k ↦ (added n).1 (inl ((was n).1 (to_test k)))
        | inr k ↦ (added n).1 (inr (span.1 (as_has_test c n k)))
      ]),
    )

-- ---- what the set's fewest blocks say of lists

-- a block of a list that has just the addresses of the set lies in it
within : (set : Spans) (test : Address → Bool) (c : Cidr) (cs : List Cidr) → IsSetOf set test → IsBlock c
    → ((a : Address) → block_holds c a ≡ true → test a ≡ true) → IsWithin set.family (IsIn set) c
within set test c cs is lawful inside =
    let some = pow_pos (width_of c.family - c.len) in
    let own : c.family ≡ set.family = elim (cases_family c.family set.family) [
      | inl same ↦ same
      | inr other ↦ (let yes = inside (at c.family c.first) (here c c.first ∙ has_as_test c c.first (omega arith, omega arith)) in let no = is.own (at c.family c.first) other in cc)
    ] in
    record {
      lawful = lawful;
      family_is = own;
      inside = λ n h. (is.numbers n).1 (to_test (inside (at set.family n)
          (subst (λ (f : Family). block_holds c (at f n) ≡ true) own (here c n ∙ has_as_test c n h))));
    }

all_within : (set : Spans) (test : Address → Bool) (cs : List Cidr) → IsSetOf set test → AllByRecursion IsBlock cs
    → ((a : Address) → addresses_of_list cs a ≡ true → test a ≡ true) → AllByRecursion (IsWithin set.family (IsIn set)) cs
all_within set test [] is lawful inside = tt
all_within set test (c ∷ cs) is lawful inside = (
  within set test c cs is lawful.0 (λ a h. inside a (or_left (block_holds c a) (addresses_of_list cs a) h)),
  all_within set test cs is lawful.1 (λ a h. inside a (or_right (block_holds c a) (addresses_of_list cs a) h)),
)

all_of : (family : Family) (set : ℕ → Type 0) (cs : List Cidr) → AllByRecursion (IsWithin family set) cs → AreOf family cs
all_of family set [] h = tt
all_of family set (c ∷ cs) h = (h.0.family_is, all_of family set cs h.1)

pub none_shorter : (set : Spans) (test : Address → Bool) (bs : List Cidr) → IsSetOf set test → span_set.NoneIsShorter set.family (IsIn set) bs → NoneIsShorter test bs
none_shorter set test bs is none cs lawful same =
    let each = all_within set test cs is lawful (λ a h. sym (same a) ∙ h) in
    let family = all_of set.family (IsIn set) cs each in
    none cs (record {
      each = each;
      covers = λ n h. to_test (sym (list_has set.family cs n family) ∙ same (at set.family n) ∙ from_test ((is.numbers n).0 h));
    })

-- the set of the numbers of a list's blocks is that of its addresses
pub is_list_set : (set : Spans) (family : Family) (bs : List Cidr) → set.family ≡ family → AreOf family bs → ((n : ℕ) → IsIn set n ↔ IsTrue (is_taken bs n))
    → IsSetOf set (addresses_of_list bs)
is_list_set set family bs e of members = record {
  own = λ a other. list_has_not family bs a of (λ same. other (same ∙ sym e));
  numbers = λ n.
      let has : addresses_of_list bs (at set.family n) ≡ is_taken bs n = subst (λ (f : Family). addresses_of_list bs (at f n) ≡ is_taken bs n) (sym e) (list_has family bs n of) in
      ((λ h. to_test (has ∙ from_test ((members n).0 h))), (λ h. (members n).1 (to_test (sym has ∙ from_test h))));
}

and_not : (s t : Bool) → s ≡ true → t ≡ false → (s && not t) ≡ true
and_not true false d e = refl
and_not true true d e = cc
and_not false t d e = cc

both : (s t : Bool) → (s && not t) ≡ true → (s ≡ true) × (t ≡ false)
both true false e = (refl, refl)
both true true e = cc
both false t e = cc

-- the set of the numbers that one list has and the other has not
pub is_beyond_set : (set : Spans) (family : Family) (have by : List Cidr) → set.family ≡ family → AreOf family have → AreOf family by
    → ((n : ℕ) → IsIn set n ↔ (IsTrue (is_taken have n) × (is_taken by n ≡ false))) → IsSetOf set (addresses_beyond have by)
is_beyond_set set family have by e of of_by members = record {
  own = λ a other. rw (list_has_not family have a of (λ same. other (same ∙ sym e))) refl;
  numbers = λ n.
      let has : addresses_of_list have (at set.family n) ≡ is_taken have n = subst (λ (f : Family). addresses_of_list have (at f n) ≡ is_taken have n) (sym e) (list_has family have n of) in
      let has_by : addresses_of_list by (at set.family n) ≡ is_taken by n = subst (λ (f : Family). addresses_of_list by (at f n) ≡ is_taken by n) (sym e) (list_has family by n of_by) in (
        (λ h. (let p = (members n).0 h in to_test (and_not _ _ (has ∙ from_test p.0) (has_by ∙ p.1)))),
        (λ h. (let p = both _ _ (from_test h) in (members n).1 (to_test (sym has ∙ p.0), sym has_by ∙ p.1))),
      );
}

-- ---- for callers

pub of_first : (family : Family) (bs : List Cidr) (b : Cidr) → AreOf family bs → 1 ≤ length bs → b ≡ get_or bs 0 b → b.family ≡ family
of_first family [] b h some is = absurd (omega arith)
of_first family (c ∷ bs) b h some is = ap (λ (x : Cidr). x.family) is ∙ h.0

pub ok_two : {T E : Type 0} (r : Result T E) {P Q S : T → Type 0} → ((x : T) → P x → Q x → S x) → IfOk r P → IfOk r Q → IfOk r S
ok_two (Ok x) f h k = f x h k
ok_two (Err e) f h k = tt

pub ok_one : {T E : Type 0} (r : Result T E) {P Q : T → Type 0} → ((x : T) → P x → Q x) → IfOk r P → IfOk r Q
ok_one (Ok x) f h = f x h
ok_one (Err e) f h = tt

pub same_numbers : (set : Spans) (bs cs : List Cidr) → ((n : ℕ) → IsIn set n ↔ IsTrue (is_taken bs n)) → ((n : ℕ) → IsIn set n ↔ IsTrue (is_taken cs n)) → (n : ℕ) → is_taken cs n ≡ is_taken bs n
same_numbers set bs cs one other n = same_test (is_taken cs n) (is_taken bs n) (λ h. (one n).0 ((other n).1 h)) (λ h. (other n).0 ((one n).1 h))

pub same_beyond : (set : Spans) (have by have' by' : List Cidr) → ((n : ℕ) → is_taken have' n ≡ is_taken have n) → ((n : ℕ) → is_taken by' n ≡ is_taken by n)
    → ((n : ℕ) → IsIn set n ↔ (IsTrue (is_taken have' n) × (is_taken by' n ≡ false))) → (n : ℕ) → IsIn set n ↔ (IsTrue (is_taken have n) × (is_taken by n ≡ false))
same_beyond set have by have' by' own others members n = (
  (λ h. (let p = (members n).0 h in (to_test (sym (own n) ∙ from_test p.0), sym (others n) ∙ p.1))),
  (λ h. (members n).1 (to_test (own n ∙ from_test h.0), others n ∙ h.1)),
)

-- the numbers of blocks in another order
pub in_any_order : (set : Spans) (bs cs : List Cidr) → IsPermutation bs cs → ((n : ℕ) → IsIn set n ↔ IsTrue (is_taken cs n)) → (n : ℕ) → IsIn set n ↔ IsTrue (is_taken bs n)
in_any_order set bs cs p members n =
    let same : is_taken bs n ≡ is_taken cs n = list_any-IsPermutation (λ c. has_address c n) bs cs p in
    ((λ h. to_test (same ∙ from_test ((members n).0 h))), (λ h. (members n).1 (to_test (sym same ∙ from_test h))))

pub of_any_order : (family : Family) (bs cs : List Cidr) → IsPermutation bs cs → AreOf family bs → AreOf family cs
of_any_order family bs cs p h =
    recursion_from_All (λ (b : Cidr). b.family ≡ family) cs (All-permutation (λ (b : Cidr). b.family ≡ family) bs cs p (All-from_recursion (λ (b : Cidr). b.family ≡ family) bs h))

pub err_one : {T E : Type 0} (r : Result T E) {P Q : E → Type 0} → ((x : E) → P x → Q x) → IfErr r P → IfErr r Q
err_one (Ok x) f h = tt
err_one (Err e) f h = f e h
