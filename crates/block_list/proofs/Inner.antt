-- Of sorted blocks those that begin behind a block's first address and not behind its last one all count for it.
use Rattle.std.proofs.Common.{◌≡◌, ℕ, ◌+◌, ◌-◌, ◌%◌, ◌^◌, ◌<◌, ◌≤◌, refl, sym, ◌∙◌, ap, subst, arith, inl, inr, Bool, true, false, cond, ◌&&◌, not, List, [], ◌∷◌, ◌++◌, length, take, drop, filter, length-append}
use Rattle.std.specs.List.{AllByRecursion}
use Rattle.std.proofs.lemmas.Bool.{cases_lt}
use Rattle.std.proofs.lemmas.Bool.Decides.{nat_tests}
use Rattle.std.proofs.lemmas.Nat.{pow_pos}
use Rattle.std.proofs.lemmas.List.{take-append-drop, length-take-le, drop-drop}
use Rattle.std.proofs.lemmas.List.Elements.{filter-append}
use Rattle.inet_num.specs.Net.{width_of, Cidr, IsBlock, size_of}
use Rattle.inet_num.proofs.Aligned.{multiples_apart, aligned_smaller, inside_by_start}
use Rattle.inet_num.proofs.Available.{inside_tested}
use Rattle.block_space.specs.Listed.{IsBlockOf, AreBlocksOf, is_same, counts, counting_of}
use Rattle.block_list.proofs.Changes.{front_uncounted, back_uncounted, all_front, all_back}

-- a block that begins in another one, behind its first address, is not shorter
longer : (b w : Cidr) → IsBlock b → IsBlock w → b.family ≡ w.family → w.first < b.first → b.first < w.first + size_of w → w.len ≤ b.len
longer b w hb hw e past within = elim (cases_lt b.len w.len) [
  | inr ok ↦ ok
  | inl less ↦
      let width_is : width_of b.family ≡ width_of w.family = ap width_of e in
      let coarse : b.first % 2 ^ (width_of w.family - b.len) ≡ 0 = subst (λ (n : ℕ). b.first % 2 ^ (n - b.len) ≡ 0) width_is hb.aligned in
      let fine = aligned_smaller b.first (width_of w.family) b.len w.len (omega arith) hw.short coarse in
      let apart = multiples_apart w.first b.first (size_of w) (pow_pos (width_of w.family - w.len)) hw.aligned fine past in
      absurd (omega arith)
]

-- so it counts
counted : (w b : Cidr) (strict : Bool) (last : ℕ) → IsBlock w → last + 1 ≡ w.first + size_of w → IsBlockOf w.family b → w.first < b.first → b.first ≤ last → counts w strict b ≡ true
counted w b strict last hw e own past within =
    let start : b.first < w.first + size_of w = omega arith in
    let le = longer b w own.lawful hw own.family_is past start in
    let inside = inside_tested b w (inside_by_start b w own.lawful hw own.family_is le (omega arith) start) in
    let other : is_same b w ≡ false = grind (arith, nat_tests) in
    ap (λ (t : Bool). t && not (strict && is_same b w)) inside ∙ go strict (is_same b w) other
  where
    go : (s t : Bool) → t ≡ false → (true && not (s && t)) ≡ true
    go true true h = cc
    go true false h = refl
    go false t h = refl

counted_all : (w : Cidr) (strict : Bool) (last : ℕ) (bs : List Cidr) → IsBlock w → last + 1 ≡ w.first + size_of w → AreBlocksOf w.family bs → AllByRecursion (λ b. w.first < b.first) bs → AllByRecursion (λ b. b.first ≤ last) bs
    → length (counting_of bs w strict) ≡ length bs
counted_all w strict last [] hw e own past within = refl
counted_all w strict last (b ∷ bs) hw e own past within =
    let here = counted w b strict last hw e own.0 past.0 within.0 in
    let rest = counted_all w strict last bs hw e own.1 past.1 within.1 in
    let is = ap (λ (t : Bool). length (cond t (b ∷ counting_of bs w strict) (counting_of bs w strict))) here in
    omega arith

counted_none : (p : Cidr → Bool) (bs : List Cidr) → AllByRecursion (λ b. p b ≡ false) bs → length (filter p bs) ≡ 0
counted_none p [] h = refl
counted_none p (b ∷ bs) h =
    let is = ap (λ (t : Bool). length (cond t (b ∷ filter p bs) (filter p bs))) h.0 in
    let rest = counted_none p bs h.1 in
    omega arith

split_count : (p : Cidr → Bool) (bs : List Cidr) (i : ℕ) → length (filter p bs) ≡ length (filter p (take i bs)) + length (filter p (drop i bs))
split_count p bs i =
    let whole : filter p bs ≡ filter p (take i bs) ++ filter p (drop i bs) = sym (ap (filter p) (take-append-drop i bs)) ∙ filter-append p (take i bs) (drop i bs) in
    ap length whole ∙ length-append (filter p (take i bs)) (filter p (drop i bs))

-- what counts is what does of those that begin at the block's first address, and all that begin behind it
count_inner : (w : Cidr) (strict : Bool) (bs rest : List Cidr) (from behind inside last : ℕ) → IsBlock w → last + 1 ≡ w.first + size_of w → AreBlocksOf w.family bs → from ≤ behind → behind ≤ length bs → rest ≡ drop behind bs
    → AllByRecursion (λ b. b.first < w.first) (take from bs) → AllByRecursion (λ b. w.first < b.first) (drop behind bs) → inside ≤ length rest → AllByRecursion (λ b. b.first ≤ last) (take inside rest)
    → AllByRecursion (λ b. last < b.first) (drop inside rest) → length (counting_of (take (behind - from) (drop from bs)) w strict) + inside ≡ length (counting_of bs w strict)
count_inner w strict bs rest from behind inside last hw e own le bound is before past short by over =
    let p : Cidr → Bool = counts w strict in
    let by_then = subst (λ (xs : List Cidr). AllByRecursion (λ b. b.first ≤ last) (take inside xs)) is by in
    let over_then = subst (λ (xs : List Cidr). AllByRecursion (λ b. last < b.first) (drop inside xs)) is over in
    let shorter : inside ≤ length (drop behind bs) = subst (λ (xs : List Cidr). inside ≤ length xs) is short in
    let back : drop (behind - from) (drop from bs) ≡ drop behind bs = drop-drop (behind - from) from bs ∙ ap (λ k. drop k bs) (let f : from + (behind - from) ≡ behind = omega arith in f) in
    let one = split_count p bs from in
    let two = split_count p (drop from bs) (behind - from) in
    let two_is = ap (λ (xs : List Cidr). length (filter p xs)) back in
    let three = split_count p (drop behind bs) inside in
    let none_before = counted_none p (take from bs) (front_uncounted w strict (take from bs) before) in
    let some = pow_pos (width_of w.family - w.len) in
    let none_over = counted_none p (drop inside (drop behind bs)) (back_uncounted w strict last (drop inside (drop behind bs)) (omega arith) over_then) in
    let own_behind = all_back (IsBlockOf w.family) (take behind bs) (drop behind bs) (subst (AllByRecursion (IsBlockOf w.family)) (sym (take-append-drop behind bs)) own) in
    let own_inside = all_front (IsBlockOf w.family) (take inside (drop behind bs)) (drop inside (drop behind bs)) (subst (AllByRecursion (IsBlockOf w.family)) (sym (take-append-drop inside (drop behind bs))) own_behind) in
    let past_inside = all_front (λ (b : Cidr). w.first < b.first) (take inside (drop behind bs)) (drop inside (drop behind bs)) (subst (AllByRecursion (λ (b : Cidr). w.first < b.first)) (sym (take-append-drop inside (drop behind bs))) past) in
    let all_inside = counted_all w strict last (take inside (drop behind bs)) hw e own_inside past_inside by_then in
    let as_many = length-take-le inside (drop behind bs) shorter in
    omega arith

-- no more count than there are
filtered_few : (p : Cidr → Bool) (bs : List Cidr) → length (filter p bs) ≤ length bs
filtered_few p [] = omega arith
filtered_few p (b ∷ bs) = go (p b) (filtered_few p bs) where
  go : (t : Bool) → length (filter p bs) ≤ length bs → length (cond t (b ∷ filter p bs) (filter p bs)) ≤ length (b ∷ bs)
  go true h = omega arith
  go false h = omega arith

-- the same of the ends that a call has read
pub count_read : (w : Cidr) (strict : Bool) (bs rest : List Cidr) (from behind inside first last : ℕ) → IsBlock w → first ≡ w.first → last + 1 ≡ w.first + size_of w → AreBlocksOf w.family bs → from ≤ behind → behind ≤ length bs
    → rest ≡ drop behind bs → AllByRecursion (λ b. b.first < first) (take from bs) → AllByRecursion (λ b. first < b.first) (drop behind bs) → inside ≤ length rest → AllByRecursion (λ b. b.first ≤ last) (take inside rest)
    → AllByRecursion (λ b. last < b.first) (drop inside rest)
    → (length (counting_of (take (behind - from) (drop from bs)) w strict) + inside ≡ length (counting_of bs w strict)) × (length (counting_of bs w strict) ≤ length bs)
count_read w strict bs rest from behind inside first last hw f e own le bound is before past short by over = (
  count_inner w strict bs rest from behind inside last hw e own le bound is (subst (λ (n : ℕ). AllByRecursion (λ (b : Cidr). b.first < n) (take from bs)) f before)
      (subst (λ (n : ℕ). AllByRecursion (λ (b : Cidr). n < b.first) (drop behind bs)) f past) short by over,
  filtered_few (counts w strict) bs,
)
