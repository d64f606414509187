-- The walk to the lowest place that fits: each block that meets the candidate moves it behind its end.
use Rattle.std.proofs.Common.{◌≡◌, ℕ, ◌+◌, ◌-◌, ◌^◌, ◌<◌, ◌≤◌, refl, sym, ◌∙◌, ap, subst, arith, inl, inr, Bool, true, false, ◌&&◌, ◌||◌, List, [], ◌∷◌, ◌++◌, length, take, get_or, Some, None}
use Rattle.std.specs.List.{AllByRecursion, list_any}
use Rattle.std.proofs.lemmas.Bool.{cases_lt}
use Rattle.std.proofs.lemmas.Bool.Decides.{nat_tests}
use Rattle.std.proofs.lemmas.Nat.{pow_pos}
use Rattle.std.proofs.lemmas.List.{take_more, take_all}
use Rattle.std.proofs.lemmas.List.Elements.{All-from_recursion}
use Rattle.inet_num.specs.Net.{width_of, Cidr, size_of}
use Rattle.inet_num.specs.Free.{IsFree, meets}
use Rattle.inet_num.proofs.Frees.{free_by_test, not_free_by_test}
use Rattle.block_space.specs.Listed.{counts, counting_of}
use Rattle.block_space.specs.Fit.{Fits, IsFirstFit}
use Rattle.block_space.proofs.Alike.{any_filter}
use Rattle.block_list.specs.Listing.{Rises}
use Rattle.block_list.specs.Places.{IsPlace, IsNextPlace}
use Rattle.block_list.proofs.Rising.{rises_take, before_next}

-- a place that no block so far meets, and no block that fits begins before it
pub record IsCandidate (w : Cidr) (all done : List Cidr) (strict : Bool) (len from : ℕ) (p : Cidr) : Type 0 where
  pub place : IsPlace w len p
  pub from_on : from ≤ p.first
  pub apart : AllByRecursion (λ b. counts w strict b ≡ true → meets p b ≡ false) done
  pub lowest : (c : Cidr) → Fits w (counting_of all w strict) len from c → p.first ≤ c.first

place_of : (w : Cidr) (blocks : List Cidr) (len from : ℕ) (c : Cidr) → Fits w blocks len from c → IsPlace w len c
place_of w blocks len from c h = record { lawful = h.lawful; len_is = h.len_is; inside = h.inside }

-- the walk begins at the lowest place
pub begins : (w : Cidr) (all : List Cidr) (strict : Bool) (len from : ℕ) (p : Cidr) → IsNextPlace w len from (Some p) → IsCandidate w all [] strict len from p
begins w all strict len from p h = record { place = h.0; from_on = h.1; apart = tt; lowest = λ c k. h.2 c (place_of w _ len from c k) k.from_on }

-- where there is none, nothing fits
pub begins_nowhere : (w : Cidr) (all : List Cidr) (strict : Bool) (len from : ℕ) → IsNextPlace w len from None → IsFirstFit w (counting_of all w strict) len from None
begins_nowhere w all strict len from h = λ c k. (let low = h c (place_of w _ len from c k) in let from_on = k.from_on in omega arith)

all_more : (P : Cidr → Type 0) (xs : List Cidr) (y : Cidr) → AllByRecursion P xs → P y → AllByRecursion P (xs ++ y ∷ [])
all_more P [] y h k = (k, tt)
all_more P (x ∷ xs) y h k = (h.0, all_more P xs y h.1 k)

-- a block that does not count or does not meet the candidate leaves it
pub stays : (w : Cidr) (all done : List Cidr) (strict : Bool) (len from : ℕ) (p b : Cidr) → IsCandidate w all done strict len from p → (counts w strict b && meets p b) ≡ false → IsCandidate w all (done ++ b ∷ []) strict len from p
stays w all done strict len from p b h e = record { place = h.place; from_on = h.from_on; apart = all_more _ done b h.apart (go (counts w strict b) e); lowest = h.lowest } where
  go : (t : Bool) → (t && meets p b) ≡ false → t ≡ true → meets p b ≡ false
  go true e k = e
  go false e k = cc

none_any : (p : Cidr → Bool) (xs : List Cidr) → list_any p xs ≡ false → AllByRecursion (λ x. p x ≡ false) xs
none_any p [] h = tt
none_any p (x ∷ xs) h = go (p x) refl h (none_any p xs) where
  go : (t : Bool) → p x ≡ t → (t || list_any p xs) ≡ false → (list_any p xs ≡ false → AllByRecursion (λ x. p x ≡ false) xs) → (p x ≡ false) × AllByRecursion (λ x. p x ≡ false) xs
  go true e k later = cc
  go false e k later = (e, later k)

-- a free block meets none of the blocks that count
pub met_none : (w : Cidr) (all : List Cidr) (strict : Bool) (c : Cidr) (i : ℕ) (d : Cidr) → IsFree (counting_of all w strict) c → i < length all → counts w strict (get_or all i d) ≡ true → meets c (get_or all i d) ≡ false
met_none w all strict c i d free l e =
    let none = none_any (λ x. counts w strict x && meets c x) all (sym (any_filter (meets c) (counts w strict) all) ∙ unmet (list_any (meets c) (counting_of all w strict)) refl) in
    let here : (counts w strict (get_or all i d) && meets c (get_or all i d)) ≡ false = All-from_recursion (λ (x : Cidr). (counts w strict x && meets c x) ≡ false) all none i d l in
    sym (ap (λ (t : Bool). t && meets c (get_or all i d)) e) ∙ here
  where
    unmet : (t : Bool) → list_any (meets c) (counting_of all w strict) ≡ t → t ≡ false
    unmet false k = refl
    unmet true k = absurd (not_free_by_test (counting_of all w strict) c k free)

-- the end of a block that meets the candidate is not behind a block that fits
past_end : (w : Cidr) (all done : List Cidr) (strict : Bool) (len from : ℕ) (p : Cidr) (i : ℕ) (d : Cidr) → IsCandidate w all done strict len from p → i < length all
    → counts w strict (get_or all i d) ≡ true → meets p (get_or all i d) ≡ true → (c : Cidr) → Fits w (counting_of all w strict) len from c → (get_or all i d).first + size_of (get_or all i d) ≤ c.first
past_end w all done strict len from p i d h l e m c k =
    let b : Cidr = get_or all i d in
    let free = met_none w all strict c i d k.free l e in
    let low = h.lowest c k in
    let size_is : size_of p ≡ size_of c = (
    let len_p = h.place.len_is in
    let len_c = k.len_is in
    let width_is : width_of p.family ≡ width_of c.family = ap width_of (h.place.inside.family ∙ sym k.inside.family) in
    let bits : width_of p.family - p.len ≡ width_of c.family - c.len = omega arith in
    ap (λ (n : ℕ). 2 ^ n) bits
    ) in
    ahead p c (get_or all i d) low size_is m free
  where
    ahead : (p c b : Cidr) → p.first ≤ c.first → size_of p ≡ size_of c → meets p b ≡ true → meets c b ≡ false → b.first + size_of b ≤ c.first
    ahead p c b low size_is m free = elim (cases_lt c.first (b.first + size_of b)) [
      | inr ok ↦ ok
      | inl under ↦
          let reach : b.first < p.first + size_of p = grind (arith, nat_tests) in
          let over : b.first < c.first + size_of c = omega arith in
          let met : meets c b ≡ true = grind (arith, nat_tests) in
          cc
    ]

-- what lies in front of a block that meets the candidate ends before it
front_apart : (w : Cidr) (done : List Cidr) (strict : Bool) (p q b : Cidr) → AllByRecursion (λ x. counts w strict x ≡ true → meets p x ≡ false) done → AllByRecursion (λ x. x.first ≤ b.first) done
    → meets p b ≡ true → b.first + size_of b ≤ q.first → AllByRecursion (λ x. counts w strict x ≡ true → meets q x ≡ false) done
front_apart w [] strict p q b h o m over = tt
front_apart w (x ∷ xs) strict p q b h o m over = (λ e. one x p q b (h.0 e) o.0 m over, front_apart w xs strict p q b h.1 o.1 m over) where
  one : (x p q b : Cidr) → meets p x ≡ false → x.first ≤ b.first → meets p b ≡ true → b.first + size_of b ≤ q.first → meets q x ≡ false
  one x p q b f le m over =
      let some_p = pow_pos (width_of p.family - p.len) in
      let reach : b.first < p.first + size_of p = grind (arith, nat_tests) in
      let start : p.first < b.first + size_of b = grind (arith, nat_tests) in
      let ended : x.first + size_of x ≤ p.first = grind (arith, nat_tests) in
      grind (arith, nat_tests)

apart_after : (q b : Cidr) → b.first + size_of b ≤ q.first → meets q b ≡ false
apart_after q b over = grind (arith, nat_tests)

-- the candidate moves behind a block that meets it
pub moves : (w : Cidr) (all done : List Cidr) (strict : Bool) (len from : ℕ) (p q : Cidr) (i : ℕ) (d : Cidr) → IsCandidate w all done strict len from p → i < length all
    → AllByRecursion (λ x. x.first ≤ (get_or all i d).first) done → counts w strict (get_or all i d) ≡ true → meets p (get_or all i d) ≡ true
    → (last : ℕ) → last + 1 ≡ (get_or all i d).first + size_of (get_or all i d) → IsNextPlace w len (last + 1) (Some q)
    → IsCandidate w all (done ++ get_or all i d ∷ []) strict len from q
moves w all done strict len from p q i d h l o e m last end n =
    let over : (get_or all i d).first + size_of (get_or all i d) ≤ q.first = (let low = n.1 in omega arith) in
    let start : p.first < (get_or all i d).first + size_of (get_or all i d) = grind (arith, nat_tests) in
    let from_on = h.from_on in
    record {
      place = n.0;
      from_on = omega arith;
      apart = all_more _ done (get_or all i d) (front_apart w done strict p q (get_or all i d) h.apart o m over) (λ k. apart_after q (get_or all i d) over);
      lowest = λ c k. n.2 c (place_of w _ len from c k) (let low = past_end w all done strict len from p i d h l e m c k in omega arith);
    }

-- or nothing fits, where no place is left behind it
pub moves_nowhere : (w : Cidr) (all done : List Cidr) (strict : Bool) (len from : ℕ) (p : Cidr) (i : ℕ) (d : Cidr) → IsCandidate w all done strict len from p → i < length all
    → counts w strict (get_or all i d) ≡ true → meets p (get_or all i d) ≡ true
    → (last : ℕ) → last + 1 ≡ (get_or all i d).first + size_of (get_or all i d) → IsNextPlace w len (last + 1) None
    → IsFirstFit w (counting_of all w strict) len from None
moves_nowhere w all done strict len from p i d h l e m last end n = λ c k.
    let low = past_end w all done strict len from p i d h l e m c k in
    let high = n c (place_of w _ len from c k) in
    omega arith

-- past all blocks the candidate fits
pub arrives : (w : Cidr) (all : List Cidr) (strict : Bool) (len from : ℕ) (p : Cidr) → IsCandidate w all all strict len from p → IsFirstFit w (counting_of all w strict) len from (Some p)
arrives w all strict len from p h = (
  record {
    lawful = h.place.lawful;
    len_is = h.place.len_is;
    inside = h.place.inside;
    free = free_by_test (counting_of all w strict) p (any_filter (meets p) (counts w strict) all ∙ unmet all h.apart);
    from_on = h.from_on;
  },
  h.lowest,
) where
  unmet : (xs : List Cidr) → AllByRecursion (λ b. counts w strict b ≡ true → meets p b ≡ false) xs → list_any (λ x. counts w strict x && meets p x) xs ≡ false
  unmet [] k = refl
  unmet (x ∷ xs) k = ap (λ (t : Bool). t || list_any (λ x. counts w strict x && meets p x) xs) (go (counts w strict x) refl k.0) ∙ unmet xs k.1 where
    go : (t : Bool) → counts w strict x ≡ t → (counts w strict x ≡ true → meets p x ≡ false) → (t && meets p x) ≡ false
    go true e f = f e
    go false e f = refl

-- ---- as the loop goes over the blocks

both : (p q r : Bool) → r ≡ (p && q) → r ≡ true → (p ≡ true) × (q ≡ true)
both true q r h k = (refl, sym h ∙ k)
both false q r h k = (sym h ∙ k, absurd (let wrong : false ≡ true = sym h ∙ k in cc))

item_ends : (b : Cidr) (last : ℕ) → last ≡ b.first + size_of b - 1 → last + 1 ≡ b.first + size_of b
item_ends b last e = let some = pow_pos (width_of b.family - b.len) in omega arith

pub walk_stays : (w : Cidr) (all : List Cidr) (strict r : Bool) (len from : ℕ) (p b : Cidr) (i : ℕ) → IsCandidate w all (take i all) strict len from p → i < length all → b ≡ get_or all i b
    → r ≡ (counts w strict b && meets p b) → r ≡ false → IsCandidate w all (take (i + 1) all) strict len from p
walk_stays w all strict r len from p b i h l is e f =
    let unmet : (counts w strict (get_or all i b) && meets p (get_or all i b)) ≡ false = subst (λ (x : Cidr). (counts w strict x && meets p x) ≡ false) is (sym e ∙ f) in
    subst (λ (done : List Cidr). IsCandidate w all done strict len from p) (sym (take_more all i b l)) (stays w all (take i all) strict len from p (get_or all i b) h unmet)

pub walk_moves : (w : Cidr) (all : List Cidr) (strict r : Bool) (len from : ℕ) (p q b : Cidr) (i last : ℕ) → Rises 0 all → IsCandidate w all (take i all) strict len from p → i < length all → b ≡ get_or all i b
    → r ≡ (counts w strict b && meets p b) → r ≡ true → last ≡ b.first + size_of b - 1 → IsNextPlace w len (last + 1) (Some q) → IsCandidate w all (take (i + 1) all) strict len from q
walk_moves w all strict r len from p q b i last o h l is e f end n =
    let met = both (counts w strict b) (meets p b) r e f in
    let counted : counts w strict (get_or all i b) ≡ true = subst (λ (x : Cidr). counts w strict x ≡ true) is met.0 in
    let meeting : meets p (get_or all i b) ≡ true = subst (λ (x : Cidr). meets p x ≡ true) is met.1 in
    let ends : last + 1 ≡ (get_or all i b).first + size_of (get_or all i b) = subst (λ (x : Cidr). last + 1 ≡ x.first + size_of x) is (item_ends b last end) in
    let front : AllByRecursion (λ x. x.first ≤ (get_or all i b).first) (take i all) = before_next 0 (take i all) (get_or all i b) [] (subst (Rises 0) (take_more all i b l) (rises_take all (i + 1) o)) in
    subst (λ (done : List Cidr). IsCandidate w all done strict len from q) (sym (take_more all i b l))
    (moves w all (take i all) strict len from p q i b h l front counted meeting last ends n)

pub walk_nowhere : (w : Cidr) (all : List Cidr) (strict r : Bool) (len from : ℕ) (p b : Cidr) (i last : ℕ) → IsCandidate w all (take i all) strict len from p → i < length all → b ≡ get_or all i b
    → r ≡ (counts w strict b && meets p b) → r ≡ true → last ≡ b.first + size_of b - 1 → IsNextPlace w len (last + 1) None → IsFirstFit w (counting_of all w strict) len from None
walk_nowhere w all strict r len from p b i last h l is e f end n =
    let met = both (counts w strict b) (meets p b) r e f in
    let counted : counts w strict (get_or all i b) ≡ true = subst (λ (x : Cidr). counts w strict x ≡ true) is met.0 in
    let meeting : meets p (get_or all i b) ≡ true = subst (λ (x : Cidr). meets p x ≡ true) is met.1 in
    let ends : last + 1 ≡ (get_or all i b).first + size_of (get_or all i b) = subst (λ (x : Cidr). last + 1 ≡ x.first + size_of x) is (item_ends b last end) in
    moves_nowhere w all (take i all) strict len from p i b h l counted meeting last ends n

pub walk_arrives : (w : Cidr) (all : List Cidr) (strict : Bool) (len from : ℕ) (p : Cidr) (i : ℕ) → IsCandidate w all (take i all) strict len from p → length all ≤ i → IsFirstFit w (counting_of all w strict) len from (Some p)
walk_arrives w all strict len from p i h l = arrives w all strict len from p (subst (λ (done : List Cidr). IsCandidate w all done strict len from p) (take_all i all l) h)
