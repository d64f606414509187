-- Blocks whose first addresses rise: what a binary search finds in them, and what of them counts.
use Rattle.std.proofs.Common.{◌≡◌, ℕ, zero, suc, ◌+◌, ◌-◌, ◌<◌, ◌≤◌, refl, sym, ◌∙◌, ap, subst, arith, Bool, false, cond, nat_le, List, [], ◌∷◌, ◌++◌, length, take, drop, get_or, filter}
use Rattle.std.specs.List.{AllByRecursion, AllWithin}
use Rattle.std.specs.List.Sorted.{IsPartitionedBy}
use Rattle.std.proofs.lemmas.Bool.Decides.{nat_tests}
use Rattle.std.proofs.lemmas.List.{append-nil, take-append-drop, drop-drop, get_or-take, get_or-drop, length-take, length-drop}
use Rattle.std.proofs.lemmas.List.Elements.{recursion_from_All, filter-append}
use Rattle.inet_num.specs.Net.{Cidr}
use Rattle.block_list.specs.Listing.{Rises}

-- each block begins at the number or after it
pub at_least : (from : ℕ) (bs : List Cidr) → Rises from bs → (k : ℕ) (d : Cidr) → k < length bs → from ≤ (get_or bs k d).first
at_least from [] h k d l = absurd (omega arith)
at_least from (b ∷ bs) h zero d l = h.0
at_least from (b ∷ bs) h (suc k) d l = (let later = at_least b.first bs h.1 k d (omega arith) in let low = h.0 in omega arith)

-- a later block does not begin before an earlier one
pub rises_by : (from : ℕ) (bs : List Cidr) → Rises from bs → (i j : ℕ) (d : Cidr) → i ≤ j → j < length bs → (get_or bs i d).first ≤ (get_or bs j d).first
rises_by from [] h i j d le l = absurd (omega arith)
rises_by from (b ∷ bs) h zero zero d le l = omega arith
rises_by from (b ∷ bs) h zero (suc j) d le l = at_least b.first bs h.1 j d (omega arith)
rises_by from (b ∷ bs) h (suc i) zero d le l = absurd (omega arith)
rises_by from (b ∷ bs) h (suc i) (suc j) d le l = rises_by b.first bs h.1 i j d (omega arith) (omega arith)

-- the test of the search
abbrev pub begins_by : ℕ → Cidr → Bool
begins_by last b = nat_le b.first last

pub begins_in_order : (last : ℕ) (bs : List Cidr) → Rises 0 bs → IsPartitionedBy (begins_by last) bs
begins_in_order last bs h = λ i j d le l t.
    let up = rises_by 0 bs h i j d le l in
    let less : (get_or bs j d).first ≤ last = grind (arith, nat_tests) in
    grind (arith, nat_tests)

-- what holds of each block below an index, and of each from it on
pub in_front : (P Q : Cidr → Type 0) → ((b : Cidr) → P b → Q b) → (bs : List Cidr) (i : ℕ) → AllWithin P bs 0 i → AllByRecursion Q (take i bs)
in_front P Q f bs i h = recursion_from_All Q (take i bs) (λ k d l.
    let less : k < i = omega (arith, length-take i bs) in
    subst Q (sym (get_or-take i bs k d less)) (f _ (h k d (omega arith) less)))

pub from_there : (P Q : Cidr → Type 0) → ((b : Cidr) → P b → Q b) → (bs : List Cidr) (i : ℕ) → AllWithin P bs i (length bs) → AllByRecursion Q (drop i bs)
from_there P Q f bs i h = recursion_from_All Q (drop i bs) (λ k d l.
    let less : i + k < length bs = omega (arith, length-drop i bs) in
    subst Q (sym (get_or-drop i bs k d)) (f _ (h (i + k) d (omega arith) less)))

-- ---- parts of a list that rises

rises_from : (m n : ℕ) (bs : List Cidr) → m ≤ n → Rises n bs → Rises m bs
rises_from m n [] le h = tt
rises_from m n (b ∷ bs) le h = (let l = h.0 in omega arith, h.1)

pub rises_front : (from : ℕ) (xs ys : List Cidr) → Rises from (xs ++ ys) → Rises from xs
rises_front from [] ys h = tt
rises_front from (x ∷ xs) ys h = (h.0, rises_front x.first xs ys h.1)

pub rises_back : (from : ℕ) (xs ys : List Cidr) → Rises from (xs ++ ys) → Rises from ys
rises_back from [] ys h = h
rises_back from (x ∷ xs) ys h = rises_from from x.first ys h.0 (rises_back x.first xs ys h.1)

-- none of those in front begins after the next one
pub before_next : (from : ℕ) (xs : List Cidr) (y : Cidr) (ys : List Cidr) → Rises from (xs ++ y ∷ ys) → AllByRecursion (λ x. x.first ≤ y.first) xs
before_next from [] y ys h = tt
before_next from (x ∷ xs) y ys h = ((rises_back x.first xs (y ∷ ys) h.1).0, before_next x.first xs y ys h.1)

pub rises_take : (bs : List Cidr) (i : ℕ) → Rises 0 bs → Rises 0 (take i bs)
rises_take bs i h = rises_front 0 (take i bs) (drop i bs) (subst (Rises 0) (sym (take-append-drop i bs)) h)

pub rises_drop : (bs : List Cidr) (i : ℕ) → Rises 0 bs → Rises 0 (drop i bs)
rises_drop bs i h = rises_back 0 (take i bs) (drop i bs) (subst (Rises 0) (sym (take-append-drop i bs)) h)

-- ---- what passes a test that fails in front and behind

none_pass : (p : Cidr → Bool) (xs : List Cidr) → AllByRecursion (λ x. p x ≡ false) xs → filter p xs ≡ []
none_pass p [] h = refl
none_pass p (x ∷ xs) h = ap (λ (t : Bool). cond t (x ∷ filter p xs) (filter p xs)) h.0 ∙ none_pass p xs h.1

pub filter_middle : (p : Cidr → Bool) (xs : List Cidr) (from to : ℕ) → from ≤ to → AllByRecursion (λ x. p x ≡ false) (take from xs) → AllByRecursion (λ x. p x ≡ false) (drop to xs)
    → filter p (take (to - from) (drop from xs)) ≡ filter p xs
filter_middle p xs from to le before behind =
    let rest : drop (to - from) (drop from xs) ≡ drop to xs = drop-drop (to - from) from xs ∙ ap (λ k. drop k xs) (let e : from + (to - from) ≡ to = omega arith in e) in
    let cut : filter p (drop from xs) ≡ filter p (take (to - from) (drop from xs)) ++ filter p (drop to xs) =
    sym (ap (filter p) (take-append-drop (to - from) (drop from xs))) ∙ filter-append p (take (to - from) (drop from xs)) (drop (to - from) (drop from xs))
    ∙ ap (λ (zs : List Cidr). filter p (take (to - from) (drop from xs)) ++ filter p zs) rest in
    let whole : filter p xs ≡ filter p (take from xs) ++ filter p (drop from xs) = sym (ap (filter p) (take-append-drop from xs)) ∙ filter-append p (take from xs) (drop from xs) in
    let front = none_pass p (take from xs) before in
    let back = none_pass p (drop to xs) behind in
    sym (whole ∙ ap (λ (zs : List Cidr). zs ++ filter p (drop from xs)) front ∙ cut ∙ ap (λ (zs : List Cidr). filter p (take (to - from) (drop from xs)) ++ zs) back ∙ append-nil (filter p (take (to - from) (drop from xs))))
