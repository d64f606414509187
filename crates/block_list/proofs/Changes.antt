-- Sorted blocks with one put in or taken out, and what is found among them.
use Rattle.std.proofs.Common.{◌≡◌, ℕ, zero, suc, ◌+◌, ◌-◌, ◌<◌, ◌≤◌, refl, sym, ◌∙◌, ap, subst, arith, Bool, true, false, cond, ◌&&◌, not, List, [], ◌∷◌, ◌++◌, length, take, drop, get_or, Some, None}
use Rattle.std.specs.List.{AllByRecursion, count_by, position, position_from}
use Rattle.std.proofs.lemmas.Bool.Decides.{nat_tests}
use Rattle.std.proofs.lemmas.Nat.{pow_pos}
use Rattle.std.proofs.lemmas.List.{take-append-drop, get_or-take, get_or-drop, length-take}
use Rattle.std.proofs.lemmas.List.Edits.{length-insert, length-remove}
use Rattle.std.proofs.lemmas.List.Sums.{sum_by-cons, length-filter}
use Rattle.std.proofs.lemmas.List.Elements.{All-from_recursion}
use Rattle.std.proofs.lemmas.List.Quantifiers.{position-Some}
use Rattle.std.proofs.lemmas.Iterator.Adapters.{position_from-zero}
use Rattle.std.proofs.Math.Seq.{drop-cons}
use Rattle.inet_num.specs.declared.Family.{Family}
use Rattle.inet_num.specs.Net.{width_of, Cidr, IsBlock, size_of}
use Rattle.inet_num.proofs.Numbers.{same_block}
use Rattle.inet_num.specs.Free.{is_inside}
use Rattle.block_space.specs.Listed.{IsBlockOf, AreBlocksOf, is_same, counts, counting_of, times_of}
use Rattle.block_list.specs.Listing.{Rises, IsListing}
use Rattle.block_list.proofs.Rising.{rises_take, rises_drop, filter_middle}

-- ---- one more and one fewer

raised : (m n : ℕ) (bs : List Cidr) → Rises m bs → AllByRecursion (λ b. n < b.first) bs → Rises n bs
raised m n [] h k = tt
raised m n (b ∷ bs) h k = (let l = k.0 in omega arith, h.1)

joined : (from : ℕ) (xs : List Cidr) (b : Cidr) (ys : List Cidr) → from ≤ b.first → Rises from xs → AllByRecursion (λ x. x.first ≤ b.first) xs → Rises b.first ys → Rises from (xs ++ b ∷ ys)
joined from [] b ys le h k r = (le, r)
joined from (x ∷ xs) b ys le h k r = (h.0, joined x.first xs b ys k.0 h.1 k.1 r)

pub rises_insert : (bs : List Cidr) (i : ℕ) (b : Cidr) → Rises 0 bs → AllByRecursion (λ x. x.first ≤ b.first) (take i bs) → AllByRecursion (λ x. b.first < x.first) (drop i bs) → Rises 0 (take i bs ++ b ∷ drop i bs)
rises_insert bs i b h below others = joined 0 (take i bs) b (drop i bs) (omega arith) (rises_take bs i h) below (raised 0 b.first (drop i bs) (rises_drop bs i h) others)

from_less : (m n : ℕ) (bs : List Cidr) → m ≤ n → Rises n bs → Rises m bs
from_less m n [] le h = tt
from_less m n (b ∷ bs) le h = (let l = h.0 in omega arith, h.1)

without : (from : ℕ) (xs : List Cidr) (b : Cidr) (ys : List Cidr) → Rises from (xs ++ b ∷ ys) → Rises from (xs ++ ys)
without from [] b ys h = from_less from b.first ys h.0 h.1
without from (x ∷ xs) b ys h = (h.0, without x.first xs b ys h.1)

cut_at : (bs : List Cidr) (i : ℕ) (d : Cidr) → i < length bs → bs ≡ take i bs ++ get_or bs i d ∷ drop (suc i) bs
cut_at bs i d l = sym (take-append-drop i bs) ∙ ap (λ (ys : List Cidr). take i bs ++ ys) (drop-cons bs i d l)

pub rises_remove : (bs : List Cidr) (i : ℕ) (d : Cidr) → i < length bs → Rises 0 bs → Rises 0 (take i bs ++ drop (suc i) bs)
rises_remove bs i d l h = without 0 (take i bs) (get_or bs i d) (drop (suc i) bs) (subst (Rises 0) (cut_at bs i d l) h)

all_joined : (P : Cidr → Type 0) (xs ys : List Cidr) → AllByRecursion P xs → AllByRecursion P ys → AllByRecursion P (xs ++ ys)
all_joined P [] ys h k = k
all_joined P (x ∷ xs) ys h k = (h.0, all_joined P xs ys h.1 k)

pub all_front : (P : Cidr → Type 0) (xs ys : List Cidr) → AllByRecursion P (xs ++ ys) → AllByRecursion P xs
all_front P [] ys h = tt
all_front P (x ∷ xs) ys h = (h.0, all_front P xs ys h.1)

pub all_back : (P : Cidr → Type 0) (xs ys : List Cidr) → AllByRecursion P (xs ++ ys) → AllByRecursion P ys
all_back P [] ys h = h
all_back P (x ∷ xs) ys h = all_back P xs ys h.1

pub all_insert : (P : Cidr → Type 0) (bs : List Cidr) (i : ℕ) (b : Cidr) → AllByRecursion P bs → P b → AllByRecursion P (take i bs ++ b ∷ drop i bs)
all_insert P bs i b h k =
    let cut = subst (AllByRecursion P) (sym (take-append-drop i bs)) h in
    all_joined P (take i bs) (b ∷ drop i bs) (all_front P (take i bs) (drop i bs) cut) (k, all_back P (take i bs) (drop i bs) cut)

pub all_remove : (P : Cidr → Type 0) (bs : List Cidr) (i : ℕ) (d : Cidr) → i < length bs → AllByRecursion P bs → AllByRecursion P (take i bs ++ drop (suc i) bs)
all_remove P bs i d l h =
    let cut = subst (AllByRecursion P) (cut_at bs i d l) h in
    all_joined P (take i bs) (drop (suc i) bs) (all_front P (take i bs) (get_or bs i d ∷ drop (suc i) bs) cut) (all_back P (take i bs) (get_or bs i d ∷ drop (suc i) bs) cut).1

-- ---- where a block stands

-- what begins elsewhere is another block
front_differs : (b : Cidr) (xs : List Cidr) → AllByRecursion (λ x. x.first < b.first) xs → AllByRecursion (λ x. is_same b x ≡ false) xs
front_differs b [] h = tt
front_differs b (x ∷ xs) h = ((let l = h.0 in grind (arith, nat_tests)), front_differs b xs h.1)

back_differs : (b : Cidr) (xs : List Cidr) → AllByRecursion (λ x. b.first < x.first) xs → AllByRecursion (λ x. is_same b x ≡ false) xs
back_differs b [] h = tt
back_differs b (x ∷ xs) h = ((let l = h.0 in grind (arith, nat_tests)), back_differs b xs h.1)

pub times_middle : (b : Cidr) (bs : List Cidr) (from to first : ℕ) → first ≡ b.first → from ≤ to → AllByRecursion (λ x. x.first < first) (take from bs) → AllByRecursion (λ x. first < x.first) (drop to bs)
    → times_of (take (to - from) (drop from bs)) b ≡ times_of bs b
times_middle b bs from to first e le before behind =
    let front = front_differs b (take from bs) (subst (λ (n : ℕ). AllByRecursion (λ x. x.first < n) (take from bs)) e before) in
    let back = back_differs b (drop to bs) (subst (λ (n : ℕ). AllByRecursion (λ x. n < x.first) (drop to bs)) e behind) in
    sym (length-filter (is_same b) (take (to - from) (drop from bs))) ∙ ap length (filter_middle (is_same b) bs from to le front back) ∙ length-filter (is_same b) bs

-- one that passes a test is counted
some_count : (p : Cidr → Bool) (xs : List Cidr) (i : ℕ) (d : Cidr) → i < length xs → p (get_or xs i d) ≡ true → 0 < count_by p xs
some_count p [] i d l e = absurd (omega arith)
some_count p (x ∷ xs) zero d l e = (let n : cond {A = ℕ} (p x) 1 0 ≡ 1 = ap (λ (t : Bool). let k : ℕ = cond t 1 0 in k) e in omega (arith, sum_by-cons (λ y. cond (p y) 1 0) x xs))
some_count p (x ∷ xs) (suc i) d l e = (let later = some_count p xs i d (omega arith) e in omega (arith, sum_by-cons (λ y. cond (p y) 1 0) x xs))

none_from : (p : Cidr → Bool) (i : ℕ) (xs : List Cidr) → position_from p i xs ≡ None → count_by p xs ≡ 0
none_from p i [] e = refl
none_from p i (x ∷ xs) e = go (p x) refl e (none_from p (i + 1) xs) where
  go : (t : Bool) → p x ≡ t → cond t (Some i) (position_from p (i + 1) xs) ≡ None → (position_from p (i + 1) xs ≡ None → count_by p xs ≡ 0) → count_by p (x ∷ xs) ≡ 0
  go true k f later = cc
  go false k f later = (let n : cond {A = ℕ} (p x) 1 0 ≡ 0 = ap (λ (t : Bool). let m : ℕ = cond t 1 0 in m) k in let rest = later f in omega (arith, sum_by-cons (λ y. cond (p y) 1 0) x xs))

pub none_found : (b : Cidr) (xs : List Cidr) → position (is_same b) xs ≡ None → times_of xs b ≡ 0
none_found b xs e = none_from (is_same b) 0 xs (sym (position_from-zero (is_same b) xs) ∙ e)

pub index_found : (b : Cidr) (bs : List Cidr) (from to i : ℕ) → from ≤ to → to ≤ length bs → position (is_same b) (take (to - from) (drop from bs)) ≡ Some i → (from + i < length bs) × (is_same b (get_or bs (from + i) b) ≡ true) × (0 < times_of bs b)
index_found b bs from to i le bound e =
    let found = position-Some (is_same b) (take (to - from) (drop from bs)) i b e in
    let inside : i < to - from = omega (arith, found.0, length-take (to - from) (drop from bs)) in
    let at : get_or (take (to - from) (drop from bs)) i b ≡ get_or bs (from + i) b = get_or-take (to - from) (drop from bs) i b inside ∙ get_or-drop from bs i b in
    let same : is_same b (get_or bs (from + i) b) ≡ true = subst (λ (x : Cidr). is_same b x ≡ true) at found.1 in
    (omega arith, same, some_count (is_same b) bs (from + i) b (omega arith) same)

-- the block that is found is the one that was looked for
pub found_is : (family : Family) (bs : List Cidr) (b : Cidr) (i : ℕ) → AreBlocksOf family bs → b.family ≡ family → i < length bs → is_same b (get_or bs i b) ≡ true → b ≡ get_or bs i b
found_is family bs b i h e l t =
    let own = All-from_recursion (IsBlockOf family) bs h i b l in
    same_block b (get_or bs i b) (e ∙ sym own.family_is) (grind (arith, nat_tests)) (grind (arith, nat_tests))

-- ---- what counts for a block begins in it

pub front_uncounted : (w : Cidr) (strict : Bool) (xs : List Cidr) → AllByRecursion (λ x. x.first < w.first) xs → AllByRecursion (λ x. counts w strict x ≡ false) xs
front_uncounted w strict [] h = tt
front_uncounted w strict (x ∷ xs) h = (uncounted, front_uncounted w strict xs h.1) where
  uncounted : counts w strict x ≡ false
  uncounted = (let l = h.0 in let e : is_inside x w ≡ false = grind (arith, nat_tests) in ap (λ (t : Bool). t && not (strict && is_same x w)) e)

pub back_uncounted : (w : Cidr) (strict : Bool) (last : ℕ) (xs : List Cidr) → last ≡ w.first + size_of w - 1 → AllByRecursion (λ x. last < x.first) xs → AllByRecursion (λ x. counts w strict x ≡ false) xs
back_uncounted w strict last [] e h = tt
back_uncounted w strict last (x ∷ xs) e h = (uncounted, back_uncounted w strict last xs e h.1) where
  uncounted : counts w strict x ≡ false
  uncounted =
      let l = h.0 in
      let some = pow_pos (width_of x.family - x.len) in
      let some_w = pow_pos (width_of w.family - w.len) in
      let over : w.first + size_of w < x.first + size_of x = omega arith in
      let f : is_inside x w ≡ false = grind (arith, nat_tests) in
      ap (λ (t : Bool). t && not (strict && is_same x w)) f

pub counting_middle : (w : Cidr) (strict : Bool) (bs : List Cidr) (from to first last : ℕ) → first ≡ w.first → last ≡ w.first + size_of w - 1 → from ≤ to → AllByRecursion (λ x. x.first < first) (take from bs) → AllByRecursion (λ x. last < x.first) (drop to bs)
    → counting_of (take (to - from) (drop from bs)) w strict ≡ counting_of bs w strict
counting_middle w strict bs from to first last e f le before behind =
    filter_middle (counts w strict) bs from to le (front_uncounted w strict (take from bs) (subst (λ (n : ℕ). AllByRecursion (λ x. x.first < n) (take from bs)) e before)) (back_uncounted w strict last (drop to bs) f behind)

pub rises_middle : (bs : List Cidr) (from to : ℕ) → Rises 0 bs → Rises 0 (take (to - from) (drop from bs))
rises_middle bs from to h = rises_take (drop from bs) (to - from) (rises_drop bs from h)

-- ---- as the calls have it

pub insert_listing : (family : Family) (bs slice new : List Cidr) (i first spare : ℕ) (b : Cidr) → IsListing (record { family = family; blocks = bs; spare = spare }) → slice ≡ bs → first ≡ b.first → i ≤ length slice
    → AllByRecursion (λ x. x.first ≤ first) (take i slice) → AllByRecursion (λ x. first < x.first) (drop i slice) → new ≡ take i bs ++ b ∷ drop i bs → IsBlock b → b.family ≡ family → 1 ≤ spare
    → IsListing (record { family = family; blocks = new; spare = spare - 1 })
insert_listing family bs slice new i first spare b h e f bound below others n hb own some =
    let low : AllByRecursion (λ x. x.first ≤ b.first) (take i bs) = subst (λ (xs : List Cidr). AllByRecursion (λ x. x.first ≤ b.first) (take i xs)) e (subst (λ (k : ℕ). AllByRecursion (λ x. x.first ≤ k) (take i slice)) f below) in
    let high : AllByRecursion (λ x. b.first < x.first) (drop i bs) = subst (λ (xs : List Cidr). AllByRecursion (λ x. b.first < x.first) (drop i xs)) e (subst (λ (k : ℕ). AllByRecursion (λ x. k < x.first) (drop i slice)) f others) in
    let within : i ≤ length bs = subst (λ (xs : List Cidr). i ≤ length xs) e bound in
    let longer = length-insert bs i b within in
    let few = h.few in
    let listing : IsListing (record { family = family; blocks = take i bs ++ b ∷ drop i bs; spare = spare - 1 }) = record {
      rises = rises_insert bs i b h.rises low high;
      lawful = all_insert (IsBlockOf family) bs i b h.lawful (record { lawful = hb; family_is = own });
      few = omega arith;
    } in
    subst (λ (xs : List Cidr). IsListing (record { family = family; blocks = xs; spare = spare - 1 })) (sym n) listing

pub remove_listing : (family : Family) (bs slice new : List Cidr) (i spare : ℕ) (d : Cidr) → IsListing (record { family = family; blocks = bs; spare = spare }) → slice ≡ bs → i < length slice → new ≡ take i bs ++ drop (suc i) bs
    → IsListing (record { family = family; blocks = new; spare = spare + 1 })
remove_listing family bs slice new i spare d h e l n =
    let within : i < length bs = subst (λ (xs : List Cidr). i < length xs) e l in
    let shorter = length-remove bs i within in
    let few = h.few in
    let listing : IsListing (record { family = family; blocks = take i bs ++ drop (suc i) bs; spare = spare + 1 }) = record {
      rises = rises_remove bs i d within h.rises;
      lawful = all_remove (IsBlockOf family) bs i d within h.lawful;
      few = omega arith;
    } in
    subst (λ (xs : List Cidr). IsListing (record { family = family; blocks = xs; spare = spare + 1 })) (sym n) listing
