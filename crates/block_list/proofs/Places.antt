-- The lowest place from an address on.
use Rattle.std.proofs.Common.{◌≡◌, ℕ, ◌+◌, ◌-◌, ◌*◌, ◌/◌, ◌%◌, ◌^◌, ◌<◌, ◌≤◌, ◌↔◌, refl, sym, ◌∙◌, ap, subst, arith, inl, inr, bit_and, Option, Some, None, IsSome, IfSome}
use Rattle.std.proofs.lemmas.Bool.{cases_lt}
use Rattle.std.proofs.lemmas.Nat.{pow_pos, div-add-mod'}
use Rattle.std.proofs.Math.Nat.{mul-mod_left, lt-div-mul-add, add-mod_right}
use Rattle.inet_num.specs.Net.{width_of, Address, Cidr, IsBlock, size_of, HasAddress, block_at}
use Rattle.inet_num.proofs.Numbers.{and_ones, aligned_fits, block_fits, width_fits, ends_of_inside, same_block}
use Rattle.inet_num.proofs.Aligned.{multiples_apart, inside_by_start}
use Rattle.block_list.specs.Places.{IsPlace, IsNextPlace}

-- the size of a block of the length, and the last multiple of it up to a number
abbrev pub step_of : Cidr → ℕ → ℕ
step_of w len = 2 ^ (width_of w.family - len)

abbrev pub start_of : Cidr → ℕ → ℕ → ℕ
start_of w len last = last / step_of w len * step_of w len

-- the end of the block of the length around a number, by its mask
pub top_is : (w : Cidr) (len last ones : ℕ) → ones + 1 ≡ step_of w len → last - bit_and last ones + ones + 1 ≡ start_of w len last + step_of w len
top_is w len last ones e =
    let past = and_ones last ones (width_of w.family - len) e in
    let split = div-add-mod' last (2 ^ (width_of w.family - len)) in
    omega arith

-- it is within the family
pub top_fits : (w : Cidr) (len last ones : ℕ) → ones + 1 ≡ step_of w len → len ≤ width_of w.family → last < 2 ^ width_of w.family → last - bit_and last ones + ones < 2 ^ 128
top_fits w len last ones e short range =
    let top = top_is w len last ones e in
    let split = div-add-mod' last (2 ^ (width_of w.family - len)) in
    let fits = aligned_fits (start_of w len last) (width_of w.family - len) (width_of w.family) (omega arith) (mul-mod_left (last / step_of w len) (step_of w len)) (omega arith) in
    let wide = width_fits w.family in
    omega arith

-- a place behind the number begins at that end or after it
behind_top : (w : Cidr) (len last : ℕ) (c : Cidr) → IsPlace w len c → last < c.first → start_of w len last + step_of w len ≤ c.first
behind_top w len last c h less =
    let width_is : width_of c.family ≡ width_of w.family = ap width_of h.inside.family in
    let size_is : width_of c.family - c.len ≡ width_of w.family - len = (let e = h.len_is in omega arith) in
    let al : c.first % step_of w len ≡ 0 = subst (λ (k : ℕ). c.first % 2 ^ k ≡ 0) size_is h.lawful.aligned in
    let split = div-add-mod' last (2 ^ (width_of w.family - len)) in
    multiples_apart (start_of w len last) c.first (step_of w len) (pow_pos (width_of w.family - len)) (mul-mod_left (last / step_of w len) (step_of w len)) al (omega arith)

-- the block's end is past the outer one's: no place is left
pub none_behind : (w : Cidr) (len last ones high : ℕ) → ones + 1 ≡ step_of w len → high ≡ w.first + size_of w - 1 → high ≤ last - bit_and last ones + ones → (c : Cidr) → IsPlace w len c → c.first < last + 1
none_behind w len last ones high e end over c h = elim (cases_lt last c.first) [
  | inr before ↦ omega arith
  | inl behind ↦
      let low = behind_top w len last c h behind in
      let top = top_is w len last ones e in
      let ends = ends_of_inside c w h.inside in
      let some = pow_pos (width_of c.family - c.len) in
      let some_w = pow_pos (width_of w.family - w.len) in
      absurd (omega (arith, ends.1))
]

-- else the block behind it is the lowest place
next_is : (w : Cidr) (len last next : ℕ) → IsBlock w → w.len ≤ len → len ≤ width_of w.family → HasAddress w last → next ≡ start_of w len last + step_of w len → next < w.first + size_of w
    → IsNextPlace w len (last + 1) (Some (record { family = w.family; first = next; len = len }))
next_is w len last next hw long short inside is within =
    let b : Cidr = record { family = w.family; first = next; len = len } in
    let above : last < last / step_of w len * step_of w len + step_of w len = lt-div-mul-add (pow_pos (width_of w.family - len)) in
    let fits = block_fits w hw in
    let low = inside.0 in
    let al : next % step_of w len ≡ 0 = ap (λ (n : ℕ). n % step_of w len) is ∙ add-mod_right (start_of w len last) (step_of w len) ∙ mul-mod_left (last / step_of w len) (step_of w len) in
    let lawful : IsBlock (record { family = w.family; first = next; len = len }) = record { short = short; aligned = al; in_range = omega arith } in (
      record { lawful = lawful; len_is = refl; inside = inside_by_start (record { family = w.family; first = next; len = len }) w lawful hw refl long (omega arith) within },
      omega arith,
      λ c h from. (let k = behind_top w len last c h (omega arith) in omega arith),
    )

-- what `of` answers there
pub next_of : (w : Cidr) (len last ones top high : ℕ) (addr : Address) (r : Option Cidr) → IsBlock w → w.len ≤ len → len ≤ width_of w.family → HasAddress w last → ones + 1 ≡ step_of w len
    → top ≡ last - bit_and last ones + ones → high ≡ w.first + size_of w - 1 → top < high → addr ≡ record { family = w.family; value = top + 1 }
    → IfSome r (λ b. b ≡ block_at addr len) → IsSome r ↔ IsBlock (block_at addr len) → IsNextPlace w len (last + 1) r
next_of w len last ones top high addr r hw long short inside e top_e high_e less addr_is some cause =
    let up = top_is w len last ones e in
    let some_w = pow_pos (width_of w.family - w.len) in
    let next = next_is w len last (top + 1) hw long short inside (omega arith) (omega arith) in
    let lawful : IsBlock (block_at addr len) = subst (λ (a : Address). IsBlock (block_at a len)) (sym addr_is) next.0.lawful in
    go r some cause lawful (subst (λ (a : Address). IsNextPlace w len (last + 1) (Some (block_at a len))) (sym addr_is) next)
  where
    go : (r : Option Cidr) → IfSome r (λ b. b ≡ block_at addr len) → IsSome r ↔ IsBlock (block_at addr len) → IsBlock (block_at addr len) → IsNextPlace w len (last + 1) (Some (block_at addr len)) → IsNextPlace w len (last + 1) r
    go None s c l n = absurd (let wrong = c.1 l in cc)
    go (Some b) s c l n = subst (λ (x : Cidr). IsNextPlace w len (last + 1) (Some x)) (sym s) n

-- a block at the number itself is the lowest place
pub place_here : (w : Cidr) (len from : ℕ) (addr : Address) (b : Cidr) → IsBlock w → w.len ≤ len → len ≤ width_of w.family → HasAddress w from → addr ≡ record { family = w.family; value = from } → b ≡ block_at addr len → IsBlock (block_at addr len)
    → IsNextPlace w len from (Some b)
place_here w len from addr b hw long short inside addr_is is lawful =
    let here : b ≡ record { family = w.family; first = from; len = len } = is ∙ ap (λ (a : Address). block_at a len) addr_is in
    let hb : IsBlock (record { family = w.family; first = from; len = len }) = subst (λ (a : Address). IsBlock (block_at a len)) addr_is lawful in
    let place : IsNextPlace w len from (Some (record { family = w.family; first = from; len = len })) = (
      record { lawful = hb; len_is = refl; inside = inside_by_start (record { family = w.family; first = from; len = len }) w hb hw refl long inside.0 inside.1 },
      omega arith,
      λ c h low. low,
    ) in
    subst (λ (x : Cidr). IsNextPlace w len from (Some x)) (sym here) place

-- and where none begins there, the lowest place behind it is the lowest from it on
pub place_later : (w : Cidr) (len from : ℕ) (addr : Address) (r : Option Cidr) → addr ≡ record { family = w.family; value = from } → ¬ IsBlock (block_at addr len) → IsNextPlace w len (from + 1) r → IsNextPlace w len from r
place_later w len from addr r addr_is none = go r where
  not_here : (c : Cidr) → IsPlace w len c → c.first ≡ from → ⊥
  not_here c h at =
      let is : c ≡ block_at addr len = same_block c (record { family = w.family; first = from; len = len }) h.inside.family at h.len_is ∙ sym (ap (λ (a : Address). block_at a len) addr_is) in
      none (subst IsBlock is h.lawful)

  go : (r : Option Cidr) → IsNextPlace w len (from + 1) r → IsNextPlace w len from r
  go None h = λ c k. elim (cases_lt c.first from) [
    | inl before ↦ before
    | inr behind ↦ (let top = h c k in absurd (not_here c k (omega arith)))
  ]
  go (Some b) h = (
    h.0,
    (let low = h.1 in omega arith),
    λ c k low. elim (cases_lt from c.first) [
      | inl past ↦ h.2 c k (omega arith)
      | inr here ↦ absurd (not_here c k (omega arith))
    ],
  )
