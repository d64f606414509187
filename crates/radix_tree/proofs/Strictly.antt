-- What counts for a block whose own node does not: the nodes below it. And where that node is not the block's, all that lie in it.
use Rattle.std.proofs.Common.{◌≡◌, ◌≢◌, ℕ, Bool, true, false, not, ◌&&◌, refl, sym, ◌∙◌, ap, subst, arith, Option, Some, None}
use Rattle.inet_num.specs.Net.{Cidr, IsBlock, IsInside}
use Rattle.inet_num.specs.Free.{is_taken, IsFree}
use Rattle.inet_num.proofs.Nested.{inside_trans, same_by_len}
use Rattle.block_space.specs.Listed.{is_same, counting_of}
use Rattle.block_space.specs.Fit.{IsFirstFit}
use Rattle.node_pool.specs.Pooled.{node_at}
use Rattle.radix_tree.specs.declared.Node.{Node}
use Rattle.radix_tree.specs.declared.links.Linked.{Linked}
use Rattle.radix_tree.specs.declared.links.Place.TheVariants.{Under}
use Rattle.radix_tree.specs.Shape.{half, child, HasRoom, IsLink}
use Rattle.radix_tree.specs.Listed.{blocks_of}
use Rattle.radix_tree.specs.Sound.{IsSound}
use Rattle.radix_tree.proofs.Sides.{not_in_half, side_of, longer, room_above}
use Rattle.radix_tree.proofs.Order.{not_both, one_node}
use Rattle.radix_tree.proofs.Copies.{same_true}
use Rattle.radix_tree.proofs.Times.{same_false}
use Rattle.radix_tree.proofs.Covered.{not_true}
use Rattle.radix_tree.proofs.Taken.{HasHeld, taken_of, held_from, held_to, tests_agree}
use Rattle.radix_tree.proofs.Mending.{child_node, child_in}
use Rattle.radix_tree.proofs.Lands.{land_taken, none_is_land}

-- the block itself does not count
pub not_itself : (within m : Cidr) → not (true && is_same m within) ≡ true → m ≢ within
not_itself within m k same = (let g : not true ≡ true = sym (ap not (same_true m within same)) ∙ k in cc)

-- another block does
pub counts_other : (strict : Bool) (within m : Cidr) → m.family ≡ within.family → m ≢ within → not (strict && is_same m within) ≡ true
counts_other false within m fam other = refl
counts_other true within m fam other = ap not (same_false m within fam other)

module _ (t : Linked) (w : IsSound t) (within : Cidr) (hb : IsBlock within) (fam : within.family ≡ t.family) (id : ℕ) (n : Node) (e : node_at t.pool id ≡ Some n) (same : n.block ≡ within) where
  own : IsBlock n.block
  own = (w.tree.each id n e).lawful

  -- what counts lies below the node
  below_own : (strict : Bool) → strict ≡ true → (a : ℕ) (h : HasHeld t within strict a) → (s : Bool) × (c : ℕ) × (child s n ≡ Some c)
  below_own strict is a h =
      let own_m = (w.tree.each h.id h.node h.here).lawful in
      let inside : IsInside h.node.block n.block = subst (IsInside h.node.block) (sym same) h.inside in
      let counted : not (true && is_same h.node.block within) ≡ true = subst (λ (x : Bool). not (x && is_same h.node.block within) ≡ true) is h.counted in
      let less = longer h.node.block n.block own_m own inside (λ k. not_itself within h.node.block counted (k ∙ same)) in
      let room = room_above h.node.block n.block own_m inside less in
      let side = side_of n.block h.node.block own own_m inside less in
      let lead = (w.tree.links (Under id side.0) (child side.0 n) (half side.0 n.block) (n, e, room, refl, refl)).leads h.id h.node h.here side.1 in
      (side.0, lead.0, lead.2)

  pub leaf_free : n.low ≡ None → n.high ≡ None → (a : ℕ) → is_taken (counting_of (blocks_of t.pool) within true) a ≡ false
  leaf_free low high a = not_true (taken_of t within true a) (λ x.
      let b = below_own true refl a (held_from t w.tree within fam true a x) in go b.0 b.1 b.2)
    where
      go : (s : Bool) (c : ℕ) → child s n ≡ Some c → ⊥
      go false c is = not_both n.low c low is
      go true c is = not_both n.high c high is

  -- a node below it counts, so the block is not free
  pub under_taken : ((n.low ≡ None) × (n.high ≡ None) → ⊥) → IsFree (counting_of (blocks_of t.pool) within true) within → ⊥
  under_taken full = go n.low n.high refl refl where
    by : (s : Bool) (c : ℕ) → child s n ≡ Some c → IsFree (counting_of (blocks_of t.pool) within true) within → ⊥
    by s c k =
        let r = child_node t w.tree id n s c e k in
        let inside = subst (IsInside r.0.block) same (child_in n r.0 s r.3 r.2) in
        land_taken t w within true c r.0 r.1 inside (λ m i. counts_other true within m (i.family ∙ inside.family) (λ z.
        not_in_half s n.block r.3 (inside_trans n.block r.0.block (half s n.block) (subst (λ (b : Cidr). IsInside b r.0.block) (z ∙ sym same) i) r.2)))

    go : (x y : Option ℕ) → n.low ≡ x → n.high ≡ y → IsFree (counting_of (blocks_of t.pool) within true) within → ⊥
    go (Some c) y low high = by false c low
    go None (Some c) low high = by true c high
    go None None low high = absurd (full (low, high))

  pub under_none : ((n.low ≡ None) × (n.high ≡ None) → ⊥) → (len from : ℕ) → within.len ≡ len → IsFirstFit within (counting_of (blocks_of t.pool) within true) len from None
  under_none full len from is = λ b f.
      let len_is = f.len_is in
      under_taken full (subst (IsFree (counting_of (blocks_of t.pool) within true)) (same_by_len b within f.inside (omega arith) f.lawful.short hb.short) f.free)

  pub under_link : (s : Bool) → HasRoom within → IsLink t.pool (child s n) (half s within)
  under_link s room = w.tree.links (Under id s) (child s n) (half s within) (n, e, subst HasRoom (sym same) room, refl, ap (half s) (sym same))

-- where the topmost node is not the block's own, it is no matter whether the block itself counts
pub strict_agree : (t : Linked) → IsSound t → (within : Cidr) → IsBlock within → within.family ≡ t.family → (strict : Bool) (id : ℕ) (n : Node) → node_at t.pool id ≡ Some n → IsLink t.pool (Some id) within → ((strict ≡ true) × (n.block ≡ within) → ⊥)
    → (a : ℕ) → is_taken (counting_of (blocks_of t.pool) within false) a ≡ is_taken (counting_of (blocks_of t.pool) within strict) a
strict_agree t w within hb fam strict id n e link counts a = tests_agree (taken_of t within false a) (taken_of t within strict a)
    (λ x. let h = held_from t w.tree within fam false a x in
    held_to t within strict a (record { id = h.id; node = h.node; here = h.here; some = h.some; inside = h.inside; counted = counted strict refl h.id h.node h.here h.inside; has = h.has }))
    (λ x. let h = held_from t w.tree within fam strict a x in
    held_to t within false a (record { id = h.id; node = h.node; here = h.here; some = h.some; inside = h.inside; counted = refl; has = h.has }))
  where
    counted : (s : Bool) → s ≡ strict → (j : ℕ) (m : Node) → node_at t.pool j ≡ Some m → IsInside m.block within → not (s && is_same m.block within) ≡ true
    counted false is j m k i = refl
    counted true is j m k i =
        let own = (w.tree.each id n e).lawful in
        let top = link.top id refl in
        let inside : IsInside n.block within = subst (λ (x : Node). IsInside x.block within) (one_node t.pool id id top.0 n refl top.1 e) top.2 in
        let other : n.block ≢ within = λ z. counts (sym is, z) in
        counts_other true within m.block i.family (none_is_land t within id n e link hb own (longer n.block within own hb inside other) j m k)
