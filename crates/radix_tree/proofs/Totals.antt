-- What nodes say of the number of blocks inside them: it is that number, as a u32 that wraps has it.
use Rattle.std.proofs.Common.{◌≡◌, ℕ, zero, suc, ◌+◌, ◌%◌, ◌^◌, ◌<◌, ◌≤◌, Bool, true, false, refl, sym, ◌∙◌, ap, subst, arith, inl, inr, Option, Some, None, length}
use Rattle.std.proofs.lemmas.Bool.{cases_lt}
use Rattle.inet_num.specs.Net.{Cidr, width_of, IsBlock}
use Rattle.block_space.specs.Listed.{counting_of}
use Rattle.node_pool.specs.Pooled.{node_at}
use Rattle.radix_tree.specs.declared.Node.{Node}
use Rattle.radix_tree.specs.declared.links.Linked.{Linked}
use Rattle.radix_tree.specs.declared.links.Place.TheVariants.{Under}
use Rattle.radix_tree.specs.Shape.{half, child, HasRoom, IsLink}
use Rattle.radix_tree.specs.Listed.{blocks_of}
use Rattle.radix_tree.specs.Figures.{Figures}
use Rattle.radix_tree.specs.Frees.{total_said, side_total, wrapped, HasFrees}
use Rattle.radix_tree.specs.Sound.{IsSound}
use Rattle.radix_tree.proofs.Sides.{half_family, len_of_inside}
use Rattle.radix_tree.proofs.Covers.{half_len}
use Rattle.radix_tree.proofs.Covered.{half_short}
use Rattle.radix_tree.proofs.Mending.{child_node}
use Rattle.radix_tree.proofs.Counted.{counted_none, counted_halves, counted_single}

-- how many blocks of the tree count for a land
abbrev many : Linked → Cidr → ℕ
many t land = length (counting_of (blocks_of t.pool) land false)

-- the node says how many blocks count for each land of which it is the topmost node
abbrev pub SaysTotal : Linked → ℕ → Node → Type 0
SaysTotal t id n = (land : Cidr) → land.family ≡ t.family → IsLink t.pool (Some id) land → n.total ≡ many t land % 2 ^ 32

wraps : (a b c x y z : ℕ) → a ≡ x → b ≡ y % 2 ^ 32 → c ≡ z % 2 ^ 32 → wrapped (wrapped a b) c ≡ (x + y + z) % 2 ^ 32
wraps a b c x y z e f g = omega (arith, e, f, g)

module _ (t : Linked) (w : IsSound t) (frees : HasFrees t.pool) (id : ℕ) (n : Node) (e : node_at t.pool id ≡ Some n)
    (deeper : HasRoom n.block → (c : ℕ) (k : Node) → node_at t.pool c ≡ Some k → n.block.len < k.block.len → k.block.family ≡ n.block.family → SaysTotal t c k) where
  own : IsBlock n.block
  own = (w.tree.each id n e).lawful

  own_fam : n.block.family ≡ t.family
  own_fam = (w.tree.each id n e).family_is

  side : (room : HasRoom n.block) (s : Bool) (x : Option ℕ) → child s n ≡ x → side_total t.pool x ≡ many t (half s n.block) % 2 ^ 32
  side room s None is =
      let land = half s n.block in
      let link = subst (λ (x : Option ℕ). IsLink t.pool x land) is (w.tree.links (Under id s) (child s n) land (n, e, room, refl, refl)) in
      let none = counted_none t w land false (half_family s n.block ∙ own_fam) link in
      sym (ap (λ (m : ℕ). m % 2 ^ 32) none)
  side room s (Some c) is =
      let land = half s n.block in
      let link = subst (λ (x : Option ℕ). IsLink t.pool x land) is (w.tree.links (Under id s) (child s n) land (n, e, room, refl, refl)) in
      let k = child_node t w.tree id n s c e is in
      let le = len_of_inside k.0.block land (w.tree.each c k.0 k.1).lawful.short (half_short s n.block room) k.2 in
      let len = half_len s n.block in
      let fam : k.0.block.family ≡ n.block.family = k.2.family ∙ half_family s n.block in
      ap total_said k.1 ∙ deeper room c k.0 k.1 (omega (arith, le, len)) fam land (half_family s n.block ∙ own_fam) link

  none_below : (n.block.len ≡ width_of n.block.family) → (s : Bool) (x : Option ℕ) → child s n ≡ x → side_total t.pool x ≡ 0
  none_below full s None is = refl
  none_below full s (Some c) is = (let none = (w.tree.each id n e).shut (λ room. omega arith) s in let f : None ≡ Some c = sym none ∙ is in cc)

  pub total_step : SaysTotal t id n
  total_step land fam link = ap (λ (f : Figures). f.total) (frees id n e) ∙ elim (cases_lt n.block.len (width_of n.block.family)) [
    | inl room ↦ wraps n.count (side_total t.pool n.low) (side_total t.pool n.high) n.count (many t (half false n.block)) (many t (half true n.block)) refl (side room false n.low refl) (side room true n.high refl)
        ∙ ap (λ (m : ℕ). m % 2 ^ 32) (sym (counted_halves t w land fam id n e link room))
    | inr full ↦
        let at : n.block.len ≡ width_of n.block.family = (let short = own.short in omega arith) in
        wraps n.count (side_total t.pool n.low) (side_total t.pool n.high) n.count 0 0 refl (none_below at false n.low refl) (none_below at true n.high refl)
        ∙ ap (λ (m : ℕ). m % 2 ^ 32) (let single = counted_single t w land fam id n e link at in let sum : n.count + 0 + 0 ≡ many t land = omega (arith, single) in sum)
  ]

pub node_total : (t : Linked) → IsSound t → HasFrees t.pool → (d : ℕ) (id : ℕ) (n : Node) → node_at t.pool id ≡ Some n → width_of n.block.family ≤ n.block.len + d → SaysTotal t id n
node_total t w frees zero id n e deep = total_step t w frees id n e (λ room c k f less fam. absurd (omega arith))
node_total t w frees (suc d) id n e deep = total_step t w frees id n e (λ room c k f less fam. (let wide : width_of k.block.family ≡ width_of n.block.family = ap width_of fam in node_total t w frees d c k f (omega arith)))

-- where there are few blocks, it is the number itself
pub total_is : (t : Linked) → IsSound t → HasFrees t.pool → (id : ℕ) (n : Node) → node_at t.pool id ≡ Some n → (land : Cidr) → land.family ≡ t.family → IsLink t.pool (Some id) land → many t land < 2 ^ 32 → n.total ≡ many t land
total_is t w frees id n e land fam link few = (let said = node_total t w frees (width_of n.block.family) id n e (omega arith) land fam link in omega (arith, said, few))
