-- The parts of a search for the first available block.
use Rattle.std.proofs.Common.{◌≡◌, ◌≢◌, ℕ, ◌<◌, ◌≤◌, Bool, true, false, not, ◌&&◌, refl, sym, ap, subst, arith, inl, inr, Option, Some, None, List}
use Rattle.std.proofs.lemmas.Bool.{cases_lt}
use Rattle.inet_num.specs.Net.{Cidr, width_of, HasAddress, IsBlock, IsInside, enclosing_of}
use Rattle.inet_num.specs.Free.{is_taken, IsFree, IsAvailable}
use Rattle.inet_num.proofs.Nested.{same_by_len}
use Rattle.inet_num.proofs.Aligned.{enclosing_inside}
use Rattle.block_space.specs.Listed.{is_same, counting_of}
use Rattle.block_space.specs.Fit.{IsFirstAvailable}
use Rattle.node_pool.specs.Pooled.{node_at}
use Rattle.radix_tree.specs.declared.Node.{Node}
use Rattle.radix_tree.specs.declared.links.Linked.{Linked}
use Rattle.radix_tree.specs.Shape.{half, HasRoom}
use Rattle.radix_tree.specs.Listed.{blocks_of}
use Rattle.radix_tree.specs.Sound.{IsSound}
use Rattle.radix_tree.proofs.Sides.{self_in, has_first, len_of_inside}
use Rattle.radix_tree.proofs.Mending.{child_node}
use Rattle.radix_tree.proofs.Halving.{free_agree, available_low, available_high}
use Rattle.radix_tree.proofs.Lands.{land_taken, half_taken}

-- lists that take the same of a land have the same available blocks there
pub available_agree : (xs ys : List Cidr) (land : Cidr) (from : ℕ) → ((a : ℕ) → HasAddress land a → is_taken xs a ≡ is_taken ys a) → (r : Option Cidr) → IsFirstAvailable land xs from r → IsFirstAvailable land ys from r
available_agree xs ys land from same r h = go r h where
  moved : (ps qs : List Cidr) → ((a : ℕ) → HasAddress land a → is_taken ps a ≡ is_taken qs a) → (b : Cidr) → IsAvailable land ps b → IsAvailable land qs b
  moved ps qs agree b f = record {
    lawful = f.lawful;
    inside = f.inside;
    free = free_agree ps qs b (λ a k. agree a (f.inside.each a k)) f.free;
    largest = λ some i free. f.largest some i (free_agree qs ps (enclosing_of b) (λ a k. sym (agree a (i.each a k))) free);
  }

  go : (r : Option Cidr) → IsFirstAvailable land xs from r → IsFirstAvailable land ys from r
  go None h = λ b f. h b (moved ys xs (λ a k. sym (same a k)) b f)
  go (Some b) h = (moved xs ys same b h.0, h.1, λ c f on. h.2 c (moved ys xs (λ a k. sym (same a k)) c f) on)

-- a land that is free is its own available block
whole_one : (land : Cidr) (xs : List Cidr) → IsBlock land → IsFree xs land → (b : Cidr) → IsAvailable land xs b → b ≡ land
whole_one land xs hl free b h = elim (cases_lt land.len b.len) [
  | inl less ↦ (let inside = enclosing_inside land b hl h.lawful h.inside less in absurd (h.largest (omega arith) inside (λ a k. free a (inside.each a k))))
  | inr le ↦ same_by_len b land h.inside (omega arith) h.lawful.short hl.short
]

pub whole_available : (land : Cidr) (xs : List Cidr) (from : ℕ) (r : Option Cidr) → IsBlock land → IsFree xs land → (from ≤ land.first → r ≡ Some land) → (land.first < from → r ≡ None) → IsFirstAvailable land xs from r
whole_available land xs from r hl free some none = elim (cases_lt land.first from) [
  | inl before ↦ subst (IsFirstAvailable land xs from) (sym (none before)) (λ b h on. (let is = ap (λ (c : Cidr). c.first) (whole_one land xs hl free b h) in omega arith))
  | inr not_before ↦ subst (IsFirstAvailable land xs from) (sym (some (omega arith))) (
    record { lawful = hl; inside = self_in land; free = free; largest = λ some i. absurd (around some i) },
    omega arith,
    λ c h on. (let is = ap (λ (c : Cidr). c.first) (whole_one land xs hl free c h) in omega arith),
  )
] where
  around : 0 < land.len → IsInside (enclosing_of land) land → ⊥
  around some i = (let le = len_of_inside (enclosing_of land) land (let short = hl.short in omega arith) hl.short i in omega arith)

-- nothing is free
pub none_available : (land : Cidr) (xs : List Cidr) (from : ℕ) → ((b : Cidr) → IsBlock b → IsInside b land → IsFree xs b → ⊥) → IsFirstAvailable land xs from None
none_available land xs from none = λ b h on. none b h.lawful h.inside h.free

-- a land that ends before the number
pub before_available : (land : Cidr) (xs : List Cidr) (from last : ℕ) → ((a : ℕ) → HasAddress land a → a ≤ last) → last < from → IsFirstAvailable land xs from None
before_available land xs from last ends less = λ b h on. (let le = ends b.first (h.inside.each b.first (has_first b)) in omega arith)

module _ (t : Linked) (w : IsSound t) (land : Cidr) (hl : IsBlock land) (fam : land.family ≡ t.family) (room : HasRoom land) (strict : Bool) (strictly : (id : ℕ) (m : Node) → node_at t.pool id ≡ Some m → m.count ≢ 0 → not (strict && is_same m.block land) ≡ true → m.block ≢ land)
    (taken : IsFree (counting_of (blocks_of t.pool) land strict) land → ⊥) (from : ℕ) (low : Cidr) (low_is : low ≡ half false land) (r : Option Cidr) where
  agree : (s : Bool) (a : ℕ) → HasAddress (half s land) a → is_taken (counting_of (blocks_of t.pool) land strict) a ≡ is_taken (counting_of (blocks_of t.pool) (half s land) false) a
  agree = half_taken t w.tree land hl fam room strict (λ a h. strictly h.id h.node h.here h.some h.counted)

  pub avail_low : (b : Cidr) → r ≡ Some b → IsFirstAvailable low (counting_of (blocks_of t.pool) low false) from r → IsFirstAvailable land (counting_of (blocks_of t.pool) land strict) from (Some b)
  avail_low b is h = available_low land hl room (counting_of (blocks_of t.pool) land strict) (λ s. counting_of (blocks_of t.pool) (half s land) false) agree taken from b
      (subst (λ (x : Cidr). IsFirstAvailable x (counting_of (blocks_of t.pool) x false) from (Some b)) low_is (subst (IsFirstAvailable low (counting_of (blocks_of t.pool) low false) from) is h))

  pub avail_high : (high : Cidr) → high ≡ half true land → (q : Option Cidr) → r ≡ None → IsFirstAvailable low (counting_of (blocks_of t.pool) low false) from r → IsFirstAvailable high (counting_of (blocks_of t.pool) high false) from q
      → IsFirstAvailable land (counting_of (blocks_of t.pool) land strict) from q
  avail_high high high_is q is h k = available_high land hl room (counting_of (blocks_of t.pool) land strict) (λ s. counting_of (blocks_of t.pool) (half s land) false) agree taken from q
      (subst (λ (x : Cidr). IsFirstAvailable x (counting_of (blocks_of t.pool) x false) from None) low_is (subst (IsFirstAvailable low (counting_of (blocks_of t.pool) low false) from) is h))
      (subst (λ (x : Cidr). IsFirstAvailable x (counting_of (blocks_of t.pool) x false) from q) high_is k)

-- a node that is no leaf has halves
pub parent_room : (t : Linked) → IsSound t → (id : ℕ) (n : Node) → node_at t.pool id ≡ Some n → ((n.low ≡ None) × (n.high ≡ None) → ⊥) → HasRoom n.block
parent_room t w id n e full = go n.low n.high refl refl where
  go : (x y : Option ℕ) → n.low ≡ x → n.high ≡ y → HasRoom n.block
  go (Some c) y low high = (child_node t w.tree id n false c e low).3
  go None (Some c) low high = (child_node t w.tree id n true c e high).3
  go None None low high = absurd (full (low, high))

-- a single address with a node is taken
pub single_available : (t : Linked) → IsSound t → (land : Cidr) → IsBlock land → (id : ℕ) (n : Node) → node_at t.pool id ≡ Some n → IsInside n.block land → land.len ≡ width_of land.family → (from : ℕ) → IsFirstAvailable land (counting_of (blocks_of t.pool) land false) from None
single_available t w land hl id n e i full from = none_available land (counting_of (blocks_of t.pool) land false) from (λ b hb j free.
    let fam : width_of b.family ≡ width_of land.family = ap width_of j.family in
    let short = hb.short in
    land_taken t w land false id n e i (λ m k. refl) (subst (IsFree (counting_of (blocks_of t.pool) land false)) (same_by_len b land j (omega arith) hb.short hl.short) free))
