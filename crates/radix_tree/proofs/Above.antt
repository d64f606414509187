-- The blocks around a block, counted on the way to it.
use Rattle.std.proofs.Common.{◌≡◌, ℕ, ◌+◌, ◌<◌, ◌≤◌, min, refl, sym, ◌∙◌, ap, subst, arith, inl, inr, Option, Some}
use Rattle.inet_num.specs.Net.{Cidr, IsBlock, IsInside, IsStrictlyInside}
use Rattle.inet_num.proofs.Numbers.{strictly_by_len, len_of_strictly}
use Rattle.inet_num.proofs.Aligned.{nested}
use Rattle.inet_num.proofs.Nested.{inside_trans, same_by_len}
use Rattle.block_space.specs.Listed.{times_of, wider_of, around_below, around_of}
use Rattle.block_space.proofs.Around.{wider_lawful, inside_wider, wider_is, around_next, around_none, around_skip, around_few}
use Rattle.node_pool.specs.Pooled.{node_at}
use Rattle.radix_tree.specs.declared.Node.{Node}
use Rattle.radix_tree.specs.declared.links.Place.{Place}
use Rattle.radix_tree.specs.declared.links.Linked.{Linked}
use Rattle.radix_tree.specs.Shape.{whole, HasLink, IsTree, LeadsTo}
use Rattle.radix_tree.specs.Listed.{blocks_of}
use Rattle.radix_tree.proofs.Sides.{self_in, has_first, len_of_inside}
use Rattle.radix_tree.proofs.Order.{some_same, one_node}
use Rattle.radix_tree.proofs.Descent.{land_len}
use Rattle.radix_tree.proofs.Times.{times_none, times_node}

-- those around the block that are shorter than the land are counted
pub record IsAroundUpTo (t : Linked) (block land : Cidr) (count : ℕ) : Type 0 where
  pub counted : count ≡ around_below (blocks_of t.pool) block land.len
  pub few : count ≤ land.len

pub around_first : (t : Linked) (block land : Cidr) → land ≡ whole t.family → IsAroundUpTo t block land 0
around_first t block land is = record {
  counted = sym (ap (λ (b : Cidr). around_below (blocks_of t.pool) block b.len) is ∙ around_none (blocks_of t.pool) block);
  few = omega arith;
}

module _ (t : Linked) (w : IsTree t) (block : Cidr) (hb : IsBlock block) (own : block.family ≡ t.family) (place : Place) (land : Cidr) (hl : IsBlock land) (at : Option ℕ) (here : HasLink t place at land) (inside : IsInside block land) where
  -- a block around the block that is no shorter than the land lies in it
  in_land : (e : Cidr) → IsBlock e → IsInside block e → land.len ≤ e.len → IsInside e land
  in_land e he i le =
      let first = has_first block in
      elim (nested e land he hl (sym i.family ∙ inside.family) block.first (i.each block.first first) (inside.each block.first first)) [
        | inl k ↦ k
        | inr k ↦ subst (λ (b : Cidr). IsInside e b) (sym (same_by_len land e k le hl.short he.short)) (self_in e)
      ]

  -- so where the link leads to nothing around the block of a length, the tree has no such block
  none_of : (n : ℕ) → n ≤ block.len → land.len ≤ n → (LeadsTo t.pool at (wider_of block n) → ⊥) → times_of (blocks_of t.pool) (wider_of block n) ≡ 0
  none_of n le from out = times_none t w (wider_of block n) own (λ j m f same.
      let around : IsInside block m.block = subst (IsInside block) (sym same) (inside_wider block n hb le) in
      let len : m.block.len ≡ n = ap (λ (b : Cidr). b.len) same in
      let lead = (w.links place at land here).leads j m f (in_land m.block (w.each j m f).lawful around (omega arith)) in
      out (subst (LeadsTo t.pool at) same lead))

  -- no node is left, or the next one is not around the block
  pub around_out : (count : ℕ) → IsAroundUpTo t block land count → ((id : ℕ) (n : Node) → at ≡ Some id → node_at t.pool id ≡ Some n → IsStrictlyInside block n.block → ⊥) → count ≡ around_of (blocks_of t.pool) block
  around_out count h out =
      h.counted ∙ sym (around_skip (blocks_of t.pool) block land.len block.len (len_of_inside block land hb.short hl.short inside) (λ k from below.
      none_of k (omega arith) from (λ lead.
      let around = inside_trans block (wider_of block k) lead.1.block (inside_wider block k hb (omega arith)) lead.4 in
      let le = len_of_inside (wider_of block k) lead.1.block (wider_lawful block k hb (omega arith)).short (w.each lead.0 lead.1 lead.3).lawful.short lead.4 in
      out lead.0 lead.1 lead.2 lead.3 (strictly_by_len block lead.1.block (omega arith) around))))

  -- the node of the link is around the block
  pub around_more : (id : ℕ) (n : Node) (count : ℕ) (next : Cidr) → at ≡ Some id → node_at t.pool id ≡ Some n → IsStrictlyInside block n.block → IsAroundUpTo t block land count → next.len ≡ n.block.len + 1
      → IsAroundUpTo t block next (count + min n.count 1)
  around_more id n count next is e strict h longer =
      let lawful = (w.each id n e).lawful in
      let less : n.block.len < block.len = len_of_strictly block n.block lawful.short hb.short strict in
      let deep : land.len ≤ n.block.len = land_len t w place at land id n here hl is e in
      let skip = around_skip (blocks_of t.pool) block land.len n.block.len deep (λ k from below.
      none_of k (omega arith) from (λ lead.
      let in_n : IsInside (wider_of block k) n.block = subst (λ (x : Node). IsInside (wider_of block k) x.block) (one_node t.pool lead.0 id lead.1 n (some_same lead.0 id (sym lead.2 ∙ is)) lead.3 e) lead.4 in
      let le = len_of_inside (wider_of block k) n.block (wider_lawful block k hb (omega arith)).short lawful.short in_n in
      let f : ⊥ = omega arith in f)) in
      let own_n = wider_is block n.block hb lawful strict.inside (omega arith) in
      let times = times_node t w n.block (w.each id n e).family_is id n e refl in
      let step = around_next (blocks_of t.pool) block n.block.len in
      let once : min (times_of (blocks_of t.pool) (wider_of block n.block.len)) 1 ≡ min n.count 1 = ap (λ (b : Cidr). min (times_of (blocks_of t.pool) b) 1) own_n ∙ ap (λ (k : ℕ). min k 1) times in
      let last : around_below (blocks_of t.pool) block next.len ≡ around_below (blocks_of t.pool) block (n.block.len + 1) = ap (around_below (blocks_of t.pool) block) longer in
      let so_far = h.counted in
      let counted : count + min n.count 1 ≡ around_below (blocks_of t.pool) block next.len = omega arith in
      let bound = around_few (blocks_of t.pool) block next.len in
      record { counted = counted; few = omega arith }
