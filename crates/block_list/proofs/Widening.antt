-- From a free block to the available one around it, and from there to the first available block from an address on.
use Rattle.std.proofs.Common.{◌≡◌, ℕ, ◌+◌, ◌-◌, ◌<◌, ◌≤◌, ◌↔◌, refl, sym, ◌∙◌, ap, subst, arith, inl, inr, Bool, true, false, ◌&&◌, IsTrue, List, Some, None}
use Rattle.std.specs.List.{list_any}
use Rattle.std.proofs.lemmas.Bool.{cases_lt}
use Rattle.std.proofs.lemmas.Nat.{pow_pos}
use Rattle.inet_num.specs.Net.{width_of, Cidr, IsBlock, size_of, IsInside, enclosing_of}
use Rattle.inet_num.specs.Free.{IsFree, meets, IsAvailable}
use Rattle.inet_num.proofs.Numbers.{ends_of_inside}
use Rattle.inet_num.proofs.Frees.{free_by_test, not_free_by_test}
use Rattle.inet_num.proofs.Nested.{inside_trans, available_apart}
use Rattle.block_space.specs.Listed.{counts, counting_of}
use Rattle.block_space.specs.Fit.{Fits, IsFirstFit, block_from, IsFirstAvailable}
use Rattle.block_space.proofs.Alike.{any_filter}
use Rattle.block_space.proofs.InAvailable.{enclosing_lawful, inside_enclosing, begins_there}
use Rattle.block_list.specs.Places.{IsAround}

-- a free block inside around the one that was begun with
pub record IsWide (w : Cidr) (blocks : List Cidr) (b wide : Cidr) : Type 0 where
  pub lawful : IsBlock wide
  pub inside : IsInside wide w
  pub free : IsFree blocks wide
  pub around : IsInside b wide

pub wide_first : (w : Cidr) (blocks : List Cidr) (b : Cidr) → IsBlock b → IsInside b w → IsFree blocks b → IsWide w blocks b b
wide_first w blocks b hb i f = record { lawful = hb; inside = i; free = f; around = record { family = refl; each = λ a k. k } }

-- one bit shorter
pub wide_more : (w : Cidr) (all : List Cidr) (strict met inner : Bool) (b wide wider : Cidr) → IsWide w (counting_of all w strict) b wide → wider ≡ enclosing_of wide → IsTrue inner ↔ IsInside wider w → inner ≡ true
    → met ≡ list_any (λ x. counts w strict x && meets wider x) all → met ≡ false → IsWide w (counting_of all w strict) b wider
wide_more w all strict met inner b wide wider h e i t m f = record {
  lawful = subst IsBlock (sym e) (enclosing_lawful wide h.lawful);
  inside = i.0 t;
  free = free_by_test (counting_of all w strict) wider (any_filter (meets wider) (counts w strict) all ∙ sym m ∙ f);
  around = inside_trans b wide wider h.around (subst (IsInside wide) (sym e) (inside_enclosing wide h.lawful));
}

-- where that is not inside, the block is an available one
pub wide_outside : (w : Cidr) (blocks : List Cidr) (inner : Bool) (b wide wider : Cidr) → IsWide w blocks b wide → wider ≡ enclosing_of wide → IsTrue inner ↔ IsInside wider w → inner ≡ false → IsAround w blocks b wide
wide_outside w blocks inner b wide wider h e i t = record {
  available = record { lawful = h.lawful; inside = h.inside; free = h.free; largest = λ some outer free. (let yes : inner ≡ true = i.1 (subst (λ (x : Cidr). IsInside x w) (sym e) outer) in cc) };
  inside = h.around;
}

-- and so where it is not free
pub wide_met : (w : Cidr) (all : List Cidr) (strict met : Bool) (b wide wider : Cidr) → IsWide w (counting_of all w strict) b wide → wider ≡ enclosing_of wide
    → met ≡ list_any (λ x. counts w strict x && meets wider x) all → met ≡ true → IsAround w (counting_of all w strict) b wide
wide_met w all strict met b wide wider h e m t = record {
  available = record {
    lawful = h.lawful;
    inside = h.inside;
    free = h.free;
    largest = λ some outer free. not_free_by_test (counting_of all w strict) wider (any_filter (meets wider) (counts w strict) all ∙ sym m ∙ t) (subst (IsFree (counting_of all w strict)) (sym e) free);
  };
  inside = h.around;
}

-- or where there is none
pub wide_whole : (w : Cidr) (blocks : List Cidr) (b wide : Cidr) → IsWide w blocks b wide → (0 < wide.len → ⊥) → IsAround w blocks b wide
wide_whole w blocks b wide h none = record {
  available = record { lawful = h.lawful; inside = h.inside; free = h.free; largest = λ some outer free. none some };
  inside = h.around;
}

-- ---- the first available block from an address on

-- the single address with which an available block begins fits
single_fits : (w : Cidr) (blocks : List Cidr) (from : ℕ) (c : Cidr) → IsAvailable w blocks c → from ≤ c.first → Fits w blocks (width_of w.family) from (block_from w (width_of w.family) c.first)
single_fits w blocks from c h le =
    let width_is : width_of c.family ≡ width_of w.family = ap width_of h.inside.family in
    let short = h.lawful.short in
    let f = begins_there w blocks (width_of w.family) c (omega arith) (omega arith) h in
    record { lawful = f.lawful; len_is = f.len_is; inside = f.inside; free = f.free; from_on = le }

-- where no single address is free from there on, no block is available
pub none_here : (w : Cidr) (blocks : List Cidr) (from : ℕ) → IsFirstFit w blocks (width_of w.family) from None → IsFirstAvailable w blocks from None
none_here w blocks from h = λ c k le. h (block_from w (width_of w.family) c.first) (single_fits w blocks from c k le)

-- the block around the first free address, where it does not begin before
pub here_is : (w : Cidr) (blocks : List Cidr) (from : ℕ) (s m : Cidr) → IsFirstFit w blocks (width_of w.family) from (Some s) → IsAround w blocks s m → from ≤ m.first → IsFirstAvailable w blocks from (Some m)
here_is w blocks from s m h a le = (
  a.available,
  le,
  λ c k low. (
      let first = h.1 (block_from w (width_of w.family) c.first) (single_fits w blocks from c k low) in
      let ends = ends_of_inside s m a.inside in
      omega arith
      ),
)

-- an available block from an address on begins behind one that begins before the address
past : (w : Cidr) (blocks : List Cidr) (from : ℕ) (m c : Cidr) → IsAvailable w blocks m → m.first < from → IsAvailable w blocks c → from ≤ c.first → m.first + size_of m ≤ c.first
past w blocks from m c hm before hc le = elim (cases_lt c.first (m.first + size_of m)) [
  | inr ok ↦ ok
  | inl under ↦
      let some = pow_pos (width_of c.family - c.len) in
      let same = ap (λ (x : Cidr). x.first) (available_apart w blocks m c c.first hm hc (omega arith, under) (omega arith, omega arith)) in
      absurd (omega arith)
]

-- none is left behind one that ends where the outer block does
pub none_after : (w : Cidr) (blocks : List Cidr) (from : ℕ) (s m : Cidr) (end high : ℕ) → IsAround w blocks s m → m.first < from → end ≡ m.first + size_of m - 1 → high ≡ w.first + size_of w - 1 → high ≤ end → IsFirstAvailable w blocks from None
none_after w blocks from s m end high a before end_is high_is le = λ c k low.
    let behind = past w blocks from m c a.available before k low in
    let ends = ends_of_inside c w k.inside in
    let some = pow_pos (width_of c.family - c.len) in
    let some_m = pow_pos (width_of m.family - m.len) in
    let some_w = pow_pos (width_of w.family - w.len) in
    omega arith

-- none is left where no address behind it is free
pub none_behind : (w : Cidr) (blocks : List Cidr) (from : ℕ) (s m : Cidr) (end : ℕ) → IsAround w blocks s m → m.first < from → end ≡ m.first + size_of m - 1 → IsFirstFit w blocks (width_of w.family) (end + 1) None → IsFirstAvailable w blocks from None
none_behind w blocks from s m end a before end_is h = λ c k low.
    let behind = past w blocks from m c a.available before k low in
    let some_m = pow_pos (width_of m.family - m.len) in
    h (block_from w (width_of w.family) c.first) (single_fits w blocks (end + 1) c k (omega arith))

-- and else the block around the first free address behind it is the first one
pub behind_is : (w : Cidr) (blocks : List Cidr) (from : ℕ) (s m t n : Cidr) (end : ℕ) → IsFirstFit w blocks (width_of w.family) from (Some s) → IsAround w blocks s m → m.first < from → end ≡ m.first + size_of m - 1
    → IsFirstFit w blocks (width_of w.family) (end + 1) (Some t) → IsAround w blocks t n → IsFirstAvailable w blocks from (Some n)
behind_is w blocks from s m t n end h a before end_is k b =
    let some_m = pow_pos (width_of m.family - m.len) in
    let some_s = pow_pos (width_of s.family - s.len) in
    let some_t = pow_pos (width_of t.family - t.len) in
    let s_from = h.0.from_on in
    let t_from = k.0.from_on in
    let s_in = ends_of_inside s m a.inside in
    let t_in = ends_of_inside t n b.inside in
    let apart : m.first + size_of m ≤ n.first = elim (cases_lt n.first (m.first + size_of m)) [
      | inr ok ↦ ok
      | inl under ↦
          let same = available_apart w blocks m n (m.first + size_of m - 1) a.available b.available (omega arith, omega arith) (omega arith, omega arith) in
          let ends : m.first + size_of m ≡ n.first + size_of n = ap (λ (x : Cidr). x.first + size_of x) same in
          absurd (omega arith)
    ] in (
      b.available,
      omega arith,
      λ c j low. (
          let behind = past w blocks from m c a.available before j low in
          let first = k.1 (block_from w (width_of w.family) c.first) (single_fits w blocks (end + 1) c j (omega arith)) in
          omega arith
          ),
    )
