-- What nodes say of the addresses that the blocks inside them have: it is that number, where their blocks are not those of length 0.
use Rattle.std.proofs.Common.{◌≡◌, ℕ, zero, suc, ◌+◌, ◌^◌, ◌<◌, ◌≤◌, Bool, true, false, refl, sym, ◌∙◌, ap, arith, Option, Some, None}
use Rattle.inet_num.specs.Net.{Cidr, width_of, size_of, IsInside}
use Rattle.inet_num.proofs.Nested.{inside_trans}
use Rattle.block_space.specs.Listed.{counting_of, covered_of}
use Rattle.node_pool.specs.Pooled.{node_at}
use Rattle.radix_tree.specs.declared.Node.{Node}
use Rattle.radix_tree.specs.declared.links.Linked.{Linked}
use Rattle.radix_tree.specs.declared.links.Place.{Place}
use Rattle.radix_tree.specs.declared.links.Place.TheVariants.{Under}
use Rattle.radix_tree.specs.Shape.{half, child, HasRoom, HasLink}
use Rattle.radix_tree.specs.Listed.{blocks_of}
use Rattle.radix_tree.specs.Figures.{Figures}
use Rattle.radix_tree.specs.Frees.{covered_said, side_covered, wrapped_wide, own_size, by_count, HasFrees}
use Rattle.radix_tree.specs.Sound.{IsSound}
use Rattle.radix_tree.proofs.Sides.{half_family, half_in, len_of_inside}
use Rattle.radix_tree.proofs.Covers.{half_len}
use Rattle.radix_tree.proofs.Covered.{half_short, covered_no_link, covered_node, covered_both, covered_fits, room_of, halves_fit}
use Rattle.radix_tree.proofs.Mending.{child_node}

-- how many addresses of a block the blocks of a land have
abbrev held_in : Linked → Cidr → Cidr → ℕ
held_in t land within = covered_of (counting_of (blocks_of t.pool) land false) within

-- the node says how many addresses the blocks of each land have of which it is the topmost node
abbrev pub SaysCovered : Linked → ℕ → Node → Type 0
SaysCovered t id n = (place : Place) (land within : Cidr) → HasLink t place (Some id) land → IsInside n.block within → n.covered ≡ held_in t land within

own_size_is : (len : ℕ) (b : Cidr) → 1 ≤ len → own_size len b ≡ size_of b
own_size_is zero b long = absurd (omega arith)
own_size_is (suc len) b long = refl

fits : (a b x y : ℕ) → a ≡ x → b ≡ y → x + y < 2 ^ 128 → wrapped_wide a b ≡ x + y
fits a b x y e f less = omega (arith, e, f, less)

module _ (t : Linked) (w : IsSound t) (frees : HasFrees t.pool) (id : ℕ) (n : Node) (e : node_at t.pool id ≡ Some n) (long : 1 ≤ n.block.len)
    (deeper : HasRoom n.block → (c : ℕ) (k : Node) → node_at t.pool c ≡ Some k → n.block.len < k.block.len → k.block.family ≡ n.block.family → SaysCovered t c k) where
  side : (room : HasRoom n.block) (s : Bool) (within : Cidr) → IsInside n.block within → (x : Option ℕ) → child s n ≡ x → side_covered t.pool x ≡ held_in t (half s n.block) within
  side room s within own None is = sym (covered_no_link t w.tree (Under id s) (child s n) (half s n.block) within (n, e, room, refl, refl) is)
  side room s within own (Some c) is =
      let land = half s n.block in
      let k = child_node t w.tree id n s c e is in
      let le = len_of_inside k.0.block land (w.tree.each c k.0 k.1).lawful.short (half_short s n.block room) k.2 in
      let len = half_len s n.block in
      let fam : k.0.block.family ≡ n.block.family = k.2.family ∙ half_family s n.block in
      let inside = inside_trans k.0.block land within k.2 (inside_trans land n.block within (half_in s n.block room) own) in
      ap covered_said k.1 ∙ deeper room c k.0 k.1 (omega (arith, le, len)) fam (Under id s) land within (n, e, room, sym is, refl) inside

  side_half : (room : HasRoom n.block) (s : Bool) (x : Option ℕ) → child s n ≡ x → side_covered t.pool x ≤ size_of (half s n.block)
  side_half room s None is = omega arith
  side_half room s (Some c) is =
      let land = half s n.block in
      let k = child_node t w.tree id n s c e is in
      let le = len_of_inside k.0.block land (w.tree.each c k.0 k.1).lawful.short (half_short s n.block room) k.2 in
      let len = half_len s n.block in
      let fam : k.0.block.family ≡ n.block.family = k.2.family ∙ half_family s n.block in
      let said = ap covered_said k.1 ∙ deeper room c k.0 k.1 (omega (arith, le, len)) fam (Under id s) land land (n, e, room, sym is, refl) k.2 in
      omega (arith, said, covered_fits (counting_of (blocks_of t.pool) land false) land)

  by : (count : ℕ) → n.count ≡ count → (place : Place) (land within : Cidr) → HasLink t place (Some id) land → IsInside n.block within
      → by_count count (own_size n.block.len n.block) (wrapped_wide (side_covered t.pool n.low) (side_covered t.pool n.high)) ≡ held_in t land within
  by zero none place land within here own =
      let room = room_of t w place land id n here e none in
      let low = side room false within own n.low refl in
      let high = side room true within own n.high refl in
      let less = halves_fit n.block room long (side_covered t.pool n.low) (side_covered t.pool n.high) (side_half room false n.low refl) (side_half room true n.high refl) in
      fits (side_covered t.pool n.low) (side_covered t.pool n.high) (side_covered t.pool n.low) (side_covered t.pool n.high) refl refl less
      ∙ omega (arith, low, high, covered_both t w place land id n here e within none)
  by (suc count) some place land within here own =
      own_size_is n.block.len n.block long
      ∙ sym (covered_node t w place land id n here e within (λ z. (let f : ⊥ = omega (arith, some, z) in f)) own)

  pub covered_step : SaysCovered t id n
  covered_step place land within here own = ap (λ (f : Figures). f.covered) (frees id n e) ∙ by n.count refl place land within here own

pub node_covered : (t : Linked) → IsSound t → HasFrees t.pool → (d : ℕ) (id : ℕ) (n : Node) → node_at t.pool id ≡ Some n → 1 ≤ n.block.len → width_of n.block.family ≤ n.block.len + d → SaysCovered t id n
node_covered t w frees zero id n e long deep = covered_step t w frees id n e long (λ room c k f less fam. absurd (omega arith))
node_covered t w frees (suc d) id n e long deep = covered_step t w frees id n e long (λ room c k f less fam.
    let wide : width_of k.block.family ≡ width_of n.block.family = ap width_of fam in
    node_covered t w frees d c k f (omega arith) (omega arith))

-- at whatever depth
pub covered_is : (t : Linked) → IsSound t → HasFrees t.pool → (id : ℕ) (n : Node) → node_at t.pool id ≡ Some n → 1 ≤ n.block.len → SaysCovered t id n
covered_is t w frees id n e long = node_covered t w frees (width_of n.block.family) id n e long (omega arith)
