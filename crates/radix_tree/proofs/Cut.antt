use Rattle.std.proofs.Common.{◌≡◌, ◌≢◌, ℕ, Bool, refl, sym, ◌∙◌, ap, subst, arith, inl, inr, Option, Some, None}
use Rattle.std.proofs.lemmas.Bool.{cases_lt}
use Rattle.inet_num.specs.Net.{Cidr, width_of, IsInside}
use Rattle.inet_num.proofs.Nested.{inside_trans}
use Rattle.node_pool.specs.Pooled.{node_at}
use Rattle.radix_tree.specs.declared.Node.{Node}
use Rattle.radix_tree.specs.declared.links.Place.{Place}
use Rattle.radix_tree.specs.declared.links.Place.TheVariants.{Under}
use Rattle.radix_tree.specs.declared.links.Linked.{Linked}
use Rattle.radix_tree.specs.Shape.{half, child, HasRoom, LeadsTo, IsLink, HasLink, IsNode, IsTree}
use Rattle.radix_tree.specs.Edits.{IsCut}
use Rattle.radix_tree.proofs.Sides.{has_first, not_in_half, half_in, same_side, longer, room_above, side_of}
use Rattle.radix_tree.proofs.Order.{some_same, not_both, one_node, move_link, order, one_land, IsAbove}
use Rattle.radix_tree.proofs.Put.{set_node}

module _ (old new : Linked) (place : Place) (land : Cidr) (i : ℕ) (n : Node) (side : Bool) (w : IsTree old) (here : HasLink old place (Some i) land)
    (lone : (s : Bool) → s ≢ side → child s n ≡ None) (h : IsCut old new place i n side) where
  -- each node that is left was there, with its block
  keeps_lead : (at : Option ℕ) (b : Cidr) → at ≢ Some i → LeadsTo old.pool at b → LeadsTo new.pool at b
  keeps_lead at b other l =
      let kept = h.kept l.0 l.1 (λ same. other (l.2 ∙ ap (λ (j : ℕ). Some j) same)) l.3 in
      (l.0, kept.0, l.2, kept.1, subst (IsInside b) (sym kept.2.block) l.4)

  -- a link that does not lead to the node stays right
  keeps_link : (at : Option ℕ) (field : Cidr) → at ≢ Some i → IsLink old.pool at field → IsLink new.pool at field
  keeps_link at field other was = record {
    top = λ id e.
        let top = was.top id e in
        let kept = h.kept id top.0 (λ same. other (e ∙ ap (λ (j : ℕ). Some j) same)) top.1 in
        (kept.0, kept.1, subst (λ (b : Cidr). IsInside b field) (sym kept.2.block) top.2);
    leads = λ id q e inside.
        let was_one = (h.was id q e).1 in
        let in_field : IsInside was_one.0.block field = subst (λ (b : Cidr). IsInside b field) was_one.2.block inside in
        subst (LeadsTo new.pool at) (sym was_one.2.block) (keeps_lead at was_one.0.block other (was.leads id was_one.0 was_one.1 in_field));
  }

  -- the node's own block and its place in the land
  own_in : IsInside n.block land
  own_in = let top = (w.links place (Some i) land here).top i refl in
      subst (λ (x : Node). IsInside x.block land) (one_node old.pool i i top.0 n refl top.1 h.here) top.2

  -- a node above a land has the node's block only if it is another
  not_above : (field : Cidr) → IsInside n.block field → IsAbove old (Some i) field → ⊥
  not_above field inside above =
      let lead = above.3 in
      let ids : i ≡ lead.0 = some_same i lead.0 lead.2 in
      let same : n ≡ lead.1 = one_node old.pool i lead.0 n lead.1 ids h.here lead.3 in
      let p_in_n : IsInside above.1.block n.block = subst (λ (x : Node). IsInside above.1.block x.block) (sym same) lead.4 in
      above.5 (inside_trans above.1.block n.block field p_in_n inside)

  -- no other place has the node
  other_at : (q : Place) (at : Option ℕ) (field : Cidr) → HasLink old q at field → q ≢ place → at ≢ Some i
  other_at q at field k other same =
      let top = (w.links q at field k).top i same in
      let in_field : IsInside n.block field = subst (λ (x : Node). IsInside x.block field) (one_node old.pool i i top.0 n refl top.1 h.here) top.2 in
      let first = has_first n.block in
      elim (order old w q place at (Some i) field land k here other n.block.first (in_field.each n.block.first first) (own_in.each n.block.first first)) [
        | inl above ↦ not_above field in_field above
        | inr above ↦ not_above land own_in (subst (λ (x : Option ℕ). IsAbove old x land) same above)
      ]

  -- what lies in the land besides the node lies on its one side
  below : (id : ℕ) (m : Node) → id ≢ i → node_at old.pool id ≡ Some m → IsInside m.block land → HasRoom n.block × LeadsTo old.pool (child side n) m.block
  below id m other e inside =
      let lead = (w.links place (Some i) land here).leads id m e inside in
      let ids : i ≡ lead.0 = some_same i lead.0 lead.2 in
      let in_n : IsInside m.block n.block = subst (λ (x : Node). IsInside m.block x.block) (sym (one_node old.pool i lead.0 n lead.1 ids h.here lead.3)) lead.4 in
      let hm = (w.each id m e).lawful in
      let hn = (w.each i n h.here).lawful in
      let less = longer m.block n.block hm hn in_n (λ same. other (w.one id i m n e h.here same)) in
      let room = room_above m.block n.block hm in_n less in
      let in_half = side_of n.block m.block hn hm in_n less in
      let led = (w.links (Under i in_half.0) (child in_half.0 n) (half in_half.0 n.block) (n, h.here, room, refl, refl)).leads id m e in_half.1 in
      elim (same_side in_half.0 side) [
        | inl same ↦ (room, subst (λ (s : Bool). LeadsTo old.pool (child s n) m.block) same led)
        | inr apart ↦ absurd (not_both (child in_half.0 n) led.0 (lone in_half.0 apart) led.2)
      ]

  -- the side's node has the room for it, and is another node
  child_is : (id : ℕ) → child side n ≡ Some id → HasRoom n.block × ((m : Node) × (node_at old.pool id ≡ Some m) × IsInside m.block (half side n.block) × (id ≢ i))
  child_is id e = elim (cases_lt n.block.len (width_of n.block.family)) [
    | inl room ↦
        let top = (w.links (Under i side) (child side n) (half side n.block) (n, h.here, room, refl, refl)).top id e in
        (room, (top.0, top.1, top.2, λ same. not_in_half side n.block room (subst (λ (x : Node). IsInside x.block (half side n.block)) (one_node old.pool id i top.0 n same top.1 h.here) top.2)))
    | inr full ↦ absurd (not_both (child side n) id ((w.each i n h.here).shut (λ room. omega arith) side) e)
  ]

  cut_here : IsLink new.pool (child side n) land
  cut_here = record {
    top = λ id e.
        let is = child_is id e in
        let kept = h.kept id is.1.0 is.1.3 is.1.1 in
        let in_land = inside_trans is.1.0.block n.block land (inside_trans is.1.0.block (half side n.block) n.block is.1.2 (half_in side n.block is.0)) own_in in
        (kept.0, kept.1, subst (λ (b : Cidr). IsInside b land) (sym kept.2.block) in_land);
    leads = λ id q e inside.
        let was = h.was id q e in
        let one = was.1 in
        let led = (below id one.0 was.0 one.1 (subst (λ (b : Cidr). IsInside b land) one.2.block inside)).1 in
        subst (LeadsTo new.pool (child side n)) (sym one.2.block) (keeps_lead (child side n) one.0.block (λ same. (child_is i same).1.3 refl) led);
  }

  pub cut_tree : IsTree new
  cut_tree = record {
    each = λ id q e.
        let one = (h.was id q e).1 in
        subst (λ f. IsNode f q) (sym h.family) (set_node old.family place (child side n) id one.0 q one.2 (w.each id one.0 one.1));
    one = λ x y p q e f same.
        let wx = (h.was x p e).1 in
        let wy = (h.was y q f).1 in
        w.one x y wx.0 wy.0 wx.1 wy.1 (sym wx.2.block ∙ same ∙ wy.2.block);
    links = λ q at field k. elim (h.links q at field k) [
      | inl own ↦ move_link new.pool (child side n) at land field own.1 (one_land old place own.2.0 (Some i) field land own.2.1 here).1 cut_here
      | inr was ↦ keeps_link at field (other_at q at field was.1 was.0) (w.links q at field was.1)
    ];
  }
