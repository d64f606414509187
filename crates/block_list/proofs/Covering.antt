-- The count of covered addresses as the loop over the sorted blocks goes.
use Rattle.std.proofs.Common.{◌≡◌, ℕ, ◌+◌, ◌-◌, ◌<◌, ◌≤◌, min, max, refl, sym, ◌∙◌, ap, subst, arith, Bool, true, false, cond, not, ◌&&◌, ◌||◌, nat_lt, nat_le, List, [], ◌∷◌, ◌++◌, length, take, get_or}
use Rattle.std.specs.List.{AllByRecursion, count_by}
use Rattle.std.proofs.lemmas.Bool.Decides.{nat_tests}
use Rattle.std.proofs.lemmas.Nat.{pow_pos}
use Rattle.std.proofs.lemmas.List.{append-nil, take_more, take_all}
use Rattle.std.proofs.lemmas.List.Elements.{filter-append}
use Rattle.inet_num.specs.Net.{width_of, Cidr, size_of}
use Rattle.inet_num.specs.Count.{addresses_of}
use Rattle.inet_num.specs.Free.{has_address, is_taken, is_inside}
use Rattle.inet_num.proofs.Counts.{count-cons, count_between, count_either}
use Rattle.block_space.specs.Listed.{is_same, counts, counting_of, covered_of}
use Rattle.block_space.proofs.Alike.{count_agree}
use Rattle.block_list.specs.Listing.{Rises}
use Rattle.block_list.proofs.Rising.{rises_take, before_next}

-- so far: the count is that of the addresses that the blocks have, all of them before the end; and from the first address
-- of a block that does not begin before any of them up to the end all are taken
pub record IsCovered (w : Cidr) (strict : Bool) (done : List Cidr) (end total : ℕ) : Type 0 where
  pub counted : total ≡ covered_of (counting_of done w strict) w
  pub before : (a : ℕ) → is_taken (counting_of done w strict) a ≡ true → a < w.first + end
  pub filled : (a : ℕ) → w.first ≤ a → AllByRecursion (λ b. b.first ≤ a) done → a < w.first + end → is_taken (counting_of done w strict) a ≡ true
  pub few : total ≤ end
  pub within : end ≤ size_of w

counted_none : (xs : List ℕ) → count_by (λ x. false) xs ≡ 0
counted_none [] = refl
counted_none (x ∷ xs) = omega (arith, count-cons (λ x. false) x xs, counted_none xs)

pub covered_none : (w : Cidr) (strict : Bool) → IsCovered w strict [] 0 0
covered_none w strict = record {
  counted = sym (counted_none (addresses_of w));
  before = λ a h. absurd (let wrong : false ≡ true = h in cc);
  filled = λ a low h l. absurd (omega arith);
  few = omega arith;
  within = omega arith;
}

-- a block that counts lies between the ends
pub counted_ends : (w : Cidr) (strict : Bool) (b : Cidr) → counts w strict b ≡ true → (w.first ≤ b.first) × (b.first + size_of b ≤ w.first + size_of w)
counted_ends w strict b e = go (is_inside b w) refl e where
  go : (t : Bool) → is_inside b w ≡ t → (t && not (strict && is_same b w)) ≡ true → (w.first ≤ b.first) × (b.first + size_of b ≤ w.first + size_of w)
  go true i k = (grind (arith, nat_tests), grind (arith, nat_tests))
  go false i k = cc

taken_more : (xs : List Cidr) (b : Cidr) (a : ℕ) → is_taken (xs ++ b ∷ []) a ≡ (is_taken xs a || has_address b a)
taken_more [] b a = go (has_address b a) where
  go : (t : Bool) → (t || false) ≡ (false || t)
  go true = refl
  go false = refl
taken_more (x ∷ xs) b a = go (has_address x a) (taken_more xs b a) where
  go : (t : Bool) → is_taken (xs ++ b ∷ []) a ≡ (is_taken xs a || has_address b a) → (t || is_taken (xs ++ b ∷ []) a) ≡ ((t || is_taken xs a) || has_address b a)
  go true e = refl
  go false e = e

all_front : (P : Cidr → Type 0) (xs : List Cidr) (b : Cidr) → AllByRecursion P (xs ++ b ∷ []) → AllByRecursion P xs × P b
all_front P [] b h = (tt, h.0)
all_front P (x ∷ xs) b h = (let more = all_front P xs b h.1 in ((h.0, more.0), more.1))

-- one more block that does not count
pub covered_same : (w : Cidr) (strict : Bool) (done : List Cidr) (b : Cidr) (end total : ℕ) → counts w strict b ≡ false → IsCovered w strict done end total → IsCovered w strict (done ++ b ∷ []) end total
covered_same w strict done b end total e h =
    let same : counting_of (done ++ b ∷ []) w strict ≡ counting_of done w strict =
    filter-append (counts w strict) done (b ∷ []) ∙ ap (λ (t : Bool). counting_of done w strict ++ cond t (b ∷ []) []) e ∙ append-nil (counting_of done w strict) in
    record {
      counted = h.counted ∙ sym (ap (λ (bs : List Cidr). covered_of bs w) same);
      before = λ a k. h.before a (sym (ap (λ (bs : List Cidr). is_taken bs a) same) ∙ k);
      filled = λ a low k l. ap (λ (bs : List Cidr). is_taken bs a) same ∙ h.filled a low (all_front _ done b k).0 l;
      few = h.few;
      within = h.within;
    }

counted_between : (w : Cidr) (lo hi : ℕ) → count_by (λ x. nat_le lo x && nat_lt x hi) (addresses_of w) ≡ min (w.first + size_of w) hi - max w.first lo
unfolding addresses_of
counted_between w lo hi = count_between lo hi w.first (size_of w)

-- what begins by a number begins by a later one
reach : (m n : ℕ) → m ≤ n → (xs : List Cidr) → AllByRecursion (λ x. x.first ≤ m) xs → AllByRecursion (λ x. x.first ≤ n) xs
reach m n le [] k = tt
reach m n le (x ∷ xs) k = (let l = k.0 in omega arith, reach m n le xs k.1)

-- what one more block adds: what it has from the end on
abbrev added : Cidr → ℕ → Cidr → ℕ → Bool
added w end b a = nat_le (w.first + max end (b.first - w.first)) a && nat_lt a (b.first + size_of b)

-- one more block that counts
pub covered_more : (w : Cidr) (strict : Bool) (done : List Cidr) (b : Cidr) (end total behind : ℕ) → counts w strict b ≡ true → AllByRecursion (λ x. x.first ≤ b.first) done → IsCovered w strict done end total
    → w.first + behind ≡ b.first + size_of b → IsCovered w strict (done ++ b ∷ []) (max end behind) (total + (max end behind - max end (b.first - w.first)))
covered_more w strict done b end total behind e o h is =
    let ends = counted_ends w strict b e in
    let some = pow_pos (width_of b.family - b.len) in
    let few = h.few in
    let within = h.within in
    let same : counting_of (done ++ b ∷ []) w strict ≡ counting_of done w strict ++ b ∷ [] =
    filter-append (counts w strict) done (b ∷ []) ∙ ap (λ (t : Bool). counting_of done w strict ++ cond t (b ∷ []) []) e in
    let each : (a : ℕ) → is_taken (counting_of (done ++ b ∷ []) w strict) a ≡ (is_taken (counting_of done w strict) a || has_address b a) =
    λ a. ap (λ (bs : List Cidr). is_taken bs a) same ∙ taken_more (counting_of done w strict) b a in
    let sum = count_either (is_taken (counting_of done w strict)) (added w end b) (addresses_of w) (λ a. apart a (is_taken (counting_of done w strict) a) refl) in
    let agree = count_agree (is_taken (counting_of (done ++ b ∷ []) w strict)) (λ a. is_taken (counting_of done w strict) a || added w end b a) (λ a. each a ∙ alike ends.0 a (is_taken (counting_of done w strict) a) refl) (addresses_of w) in
    record {
      counted = (let own = own_count ends.1 ends.0 in let c = h.counted in omega (arith, agree, sum));
      before = λ a k. before_more some a (is_taken (counting_of done w strict) a) refl (sym (each a) ∙ k);
      filled = λ a low k l. each a ∙ filled_more a low (all_front _ done b k) l (nat_lt a (w.first + end)) refl;
      few = omega arith;
      within = omega (arith, ends.1);
    }
  where
    apart : (a : ℕ) → (t : Bool) → is_taken (counting_of done w strict) a ≡ t → (t && added w end b a) ≡ false
    apart a false k = refl
    apart a true k = (let low = h.before a k in grind (arith, nat_tests))

    alike : w.first ≤ b.first → (a : ℕ) → (t : Bool) → is_taken (counting_of done w strict) a ≡ t → (t || has_address b a) ≡ (t || added w end b a)
    alike low a true k = refl
    alike low a false k = go (nat_lt a (w.first + end)) refl (nat_le b.first a) refl where
      go : (u : Bool) → nat_lt a (w.first + end) ≡ u → (v : Bool) → nat_le b.first a ≡ v → has_address b a ≡ added w end b a
      go true f true g =
          let less : a < w.first + end = grind (arith, nat_tests) in
          let from : b.first ≤ a = grind (arith, nat_tests) in
          let full = h.filled a (omega arith) (reach b.first a from done o) less in
          cc
      go true f false g =
          let less : a < w.first + end = grind (arith, nat_tests) in
          let to : a < b.first = grind (arith, nat_tests) in
          grind (arith, nat_tests)
      go false f v g =
          let more : w.first + end ≤ a = grind (arith, nat_tests) in
          grind (arith, nat_tests)

    own_count : b.first + size_of b ≤ w.first + size_of w → w.first ≤ b.first → count_by (added w end b) (addresses_of w) ≡ max end behind - max end (b.first - w.first)
    own_count high low =
        let some_b = pow_pos (width_of b.family - b.len) in
        counted_between w (w.first + max end (b.first - w.first)) (b.first + size_of b) ∙ omega arith

    before_more : 0 < size_of b → (a : ℕ) → (t : Bool) → is_taken (counting_of done w strict) a ≡ t → (t || has_address b a) ≡ true → a < w.first + max end behind
    before_more some a true k l = (let low = h.before a k in omega arith)
    before_more some a false k l = (let to : a < b.first + size_of b = grind (arith, nat_tests) in omega arith)

    filled_more : (a : ℕ) → w.first ≤ a → AllByRecursion (λ x. x.first ≤ a) done × (b.first ≤ a) → a < w.first + max end behind → (u : Bool) → nat_lt a (w.first + end) ≡ u → (is_taken (counting_of done w strict) a || has_address b a) ≡ true
    filled_more a low k l true f =
        let less : a < w.first + end = grind (arith, nat_tests) in
        ap (λ (t : Bool). t || has_address b a) (h.filled a low k.0 less)
    filled_more a low k l false f =
        let more : w.first + end ≤ a = grind (arith, nat_tests) in
        let from = k.1 in
        let here : has_address b a ≡ true = grind (arith, nat_tests) in
        go (is_taken (counting_of done w strict) a) here where
          go : (t : Bool) → has_address b a ≡ true → (t || has_address b a) ≡ true
          go true e = refl
          go false e = e

-- ---- as the loop goes over the blocks

pub walk_same : (w : Cidr) (all : List Cidr) (strict r : Bool) (b : Cidr) (i end total : ℕ) → IsCovered w strict (take i all) end total → i < length all → b ≡ get_or all i b → r ≡ counts w strict b → r ≡ false
    → IsCovered w strict (take (i + 1) all) end total
walk_same w all strict r b i end total h l is e f =
    subst (λ (done : List Cidr). IsCovered w strict done end total) (sym (take_more all i b l))
    (covered_same w strict (take i all) (get_or all i b) end total (subst (λ (x : Cidr). counts w strict x ≡ false) is (sym e ∙ f)) h)

pub walk_more : (w : Cidr) (all : List Cidr) (strict r : Bool) (b : Cidr) (i end total first last base : ℕ) → Rises 0 all → IsCovered w strict (take i all) end total → i < length all → b ≡ get_or all i b → r ≡ counts w strict b → r ≡ true
    → first ≡ b.first → last + 1 ≡ b.first + size_of b → base ≡ w.first → IsCovered w strict (take (i + 1) all) (max end (last - base + 1)) (total + (max end (last - base + 1) - max end (first - base)))
walk_more w all strict r b i end total first last base o h l is e f first_is last_is base_is =
    let some = pow_pos (width_of b.family - b.len) in
    let ends = counted_ends w strict b (sym e ∙ f) in
    let low = ends.0 in
    let front : AllByRecursion (λ x. x.first ≤ (get_or all i b).first) (take i all) = before_next 0 (take i all) (get_or all i b) [] (subst (Rises 0) (take_more all i b l) (rises_take all (i + 1) o)) in
    let near : AllByRecursion (λ x. x.first ≤ b.first) (take i all) = subst (λ (y : Cidr). AllByRecursion (λ x. x.first ≤ y.first) (take i all)) (sym is) front in
    let more = covered_more w strict (take i all) b end total (last - base + 1) (sym e ∙ f) near h (omega arith) in
    let done_is : take i all ++ b ∷ [] ≡ take (i + 1) all = ap (λ (y : Cidr). take i all ++ y ∷ []) is ∙ sym (take_more all i b l) in
    let low_is : b.first - w.first ≡ first - base = ap (λ (n : ℕ). n - w.first) (sym first_is) ∙ ap (λ (n : ℕ). first - n) (sym base_is) in
    subst (λ (done : List Cidr). IsCovered w strict done (max end (last - base + 1)) (total + (max end (last - base + 1) - max end (first - base)))) done_is
    (subst (λ (n : ℕ). IsCovered w strict (take i all ++ b ∷ []) (max end (last - base + 1)) (total + (max end (last - base + 1) - max end n))) low_is more)

pub walk_ends : (w : Cidr) (all : List Cidr) (strict : Bool) (i end total : ℕ) → IsCovered w strict (take i all) end total → length all ≤ i → total ≡ covered_of (counting_of all w strict) w
walk_ends w all strict i end total h l = h.counted ∙ ap (λ (bs : List Cidr). covered_of (counting_of bs w strict) w) (take_all i all l)

pub covered_named : (w : Cidr) (strict : Bool) (done : List Cidr) (e f s t : ℕ) → f ≡ e → t ≡ s → IsCovered w strict done e s → IsCovered w strict done f t
covered_named w strict done e f s t fe ts h = subst (λ (n : ℕ). IsCovered w strict done n t) (sym fe) (subst (λ (n : ℕ). IsCovered w strict done e n) (sym ts) h)
