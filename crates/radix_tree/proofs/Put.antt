use Rattle.std.proofs.Common.{◌≡◌, ◌≢◌, ◌⊎◌, ℕ, refl, sym, ◌∙◌, ap, subst, inl, inr, Option, Some}
use Rattle.inet_num.specs.Net.{Cidr, IsBlock, IsInside}
use Rattle.inet_num.proofs.Nested.{inside_trans}
use Rattle.node_pool.specs.Pooled.{node_at}
use Rattle.radix_tree.specs.declared.Node.{Node}
use Rattle.radix_tree.specs.declared.links.Place.{Place}
use Rattle.radix_tree.specs.declared.links.Linked.{Linked}
use Rattle.radix_tree.specs.Shape.{half, child, HasRoom, LeadsTo, IsLink, HasLink, IsNode, IsTree, IsSet}
use Rattle.radix_tree.specs.Edits.{CanPut, IsPut}
use Rattle.radix_tree.proofs.Sides.{self_in, has_first, not_in_half}
use Rattle.radix_tree.proofs.Order.{some_same, one_node, leads_weaker, move_link, order, one_land}

-- a node whose link was set is still lawful
pub set_node : (family : _) (place : Place) (to : Option ℕ) (id : ℕ) (m n : Node) → IsSet place to id m n → IsNode family m → IsNode family n
set_node family place to id m n h own = record {
  lawful = subst IsBlock (sym h.block) own.lawful;
  family_is = ap (λ (b : Cidr). b.family) h.block ∙ own.family_is;
  shut = λ full side. (let full_m : HasRoom m.block → ⊥ = λ room. full (subst HasRoom (sym h.block) room) in
      elim (h.links side) [
        | inl same ↦ same ∙ own.shut full_m side
        | inr put ↦ absurd (full_m put.0)
      ]);
}

module _ (old new : Linked) (place : Place) (before : Option ℕ) (land : Cidr) (i : ℕ) (n : Node) (w : IsTree old) (here : HasLink old place before land) (c : CanPut old land n) (h : IsPut old new place i n) where
  -- each node is the new one, or there was one of its block under its id
  origin : (id : ℕ) (q : Node) → node_at new.pool id ≡ Some q → ((id ≡ i) × (q ≡ n)) ⊎ ((m : Node) × (node_at old.pool id ≡ Some m) × (q.block ≡ m.block))
  origin id q e = elim (h.was id q e) [
    | inl own ↦ inl own
    | inr was ↦ inr (was.0, was.1, was.2.block)
  ]

  keeps_lead : (at : Option ℕ) (b : Cidr) → LeadsTo old.pool at b → LeadsTo new.pool at b
  keeps_lead at b l =
      let kept = h.kept l.0 l.1 l.3 in
      (l.0, kept.0, l.2, kept.1, subst (IsInside b) (sym kept.2.block) l.4)

  -- a right link stays right if it leads to the new node or has not got it in its land
  keeps_link : (at : Option ℕ) (field : Cidr) → IsLink old.pool at field → (IsInside n.block field → LeadsTo old.pool at n.block) → IsLink new.pool at field
  keeps_link at field was leads = record {
    top = λ id e. (let top = was.top id e in let kept = h.kept id top.0 top.1 in (kept.0, kept.1, subst (λ (b : Cidr). IsInside b field) (sym kept.2.block) top.2));
    leads = λ id q e inside. elim (origin id q e) [
      | inl own ↦
          let in_field : IsInside n.block field = subst (λ (x : Node). IsInside x.block field) own.1 inside in
          subst (λ (x : Node). LeadsTo new.pool at x.block) (sym own.1) (keeps_lead at n.block (leads in_field))
      | inr old_one ↦
          let in_field : IsInside old_one.0.block field = subst (λ (b : Cidr). IsInside b field) old_one.2 inside in
          subst (LeadsTo new.pool at) (sym old_one.2) (keeps_lead at old_one.0.block (was.leads id old_one.0 old_one.1 in_field))
    ];
  }

  -- a link of another place leads to the new node if its land has it
  other_leads : (q : Place) (at : Option ℕ) (field : Cidr) → HasLink old q at field → q ≢ place → IsInside n.block field → LeadsTo old.pool at n.block
  other_leads q at field k other inside =
      let first = has_first n.block in
      elim (order old w q place at before field land k here other n.block.first (inside.each n.block.first first) (c.inside.each n.block.first first)) [
        | inl above ↦
            let lead = above.3 in
            let top = (w.links place before land here).top lead.0 lead.2 in
            let same : top.0 ≡ lead.1 = one_node old.pool lead.0 lead.0 top.0 lead.1 refl top.1 lead.3 in
            let in_top : IsInside n.block lead.1.block = inside_trans n.block field lead.1.block inside (inside_trans field above.1.block lead.1.block above.4 lead.4) in
            absurd (c.clear lead.0 lead.1 lead.3 (subst (λ (x : Node). IsInside x.block land) same top.2) in_top)
        | inr above ↦ leads_weaker old.pool at above.1.block n.block (inside_trans n.block land above.1.block c.inside above.4) above.3
      ]

  new_block : (id : ℕ) (m : Node) → node_at old.pool id ≡ Some m → m.block ≡ n.block → ⊥
  new_block id m e same = c.clear id m e (subst (λ (b : Cidr). IsInside b land) (sym same) c.inside) (subst (IsInside n.block) (sym same) (self_in n.block))

  -- the place itself
  put_here : (q : Place) (at : Option ℕ) (field : Cidr) → q ≡ place → at ≡ Some i → (was : Option ℕ) → HasLink old place was field → IsLink new.pool at field
  put_here q at field same at_is was k =
      let land_is : field ≡ land = (one_land old place was before field land k here).1 in
      move_link new.pool (Some i) at land field at_is land_is (record {
        top = λ id e. (n, ap (node_at new.pool) (sym (some_same i id e)) ∙ h.put, c.inside);
        leads = λ id q e inside. (
          i,
          n,
          refl,
          h.put,
          elim (origin id q e) [
            | inl own ↦ subst (λ (x : Node). IsInside x.block n.block) (sym own.1) (self_in n.block)
            | inr old_one ↦
                let in_land : IsInside old_one.0.block land = subst (λ (b : Cidr). IsInside b land) old_one.2 inside in
                subst (λ (b : Cidr). IsInside b n.block) (sym old_one.2) (c.below id old_one.0 old_one.1 in_land)
          ],
        );
      })

  put_links : (q : Place) (at : Option ℕ) (field : Cidr) → HasLink new q at field → IsLink new.pool at field
  put_links q at field k = elim (h.links q at field k) [
    | inl own ↦ put_here q at field own.0 own.1 own.2.0 own.2.1
    | inr more ↦ elim more [
      | inl half_link ↦ move_link new.pool (child half_link.0 n) at (half half_link.0 n.block) field half_link.2 half_link.3
          (keeps_link (child half_link.0 n) (half half_link.0 n.block) (c.children half_link.0 half_link.1) (λ inside. absurd (not_in_half half_link.0 n.block half_link.1 inside)))
      | inr was ↦ keeps_link at field (w.links q at field was.1) (other_leads q at field was.1 was.0)
    ]
  ]

  pub put_tree : IsTree new
  put_tree = record {
    each = λ id q e. elim (h.was id q e) [
      | inl own ↦ subst (IsNode new.family) (sym own.1) (record { lawful = c.lawful; family_is = c.family_is ∙ sym h.family; shut = c.shut })
      | inr was ↦ subst (λ f. IsNode f q) (sym h.family) (set_node old.family place (Some i) id was.0 q was.2 (w.each id was.0 was.1))
    ];
    one = λ x y p q e f same. elim (origin x p e) [
      | inl px ↦ elim (origin y q f) [
        | inl py ↦ px.0 ∙ sym py.0
        | inr was ↦ absurd (new_block y was.0 was.1 (sym was.2 ∙ sym same ∙ ap (λ (z : Node). z.block) px.1))
      ]
      | inr wx ↦ elim (origin y q f) [
        | inl py ↦ absurd (new_block x wx.0 wx.1 (sym wx.2 ∙ same ∙ ap (λ (z : Node). z.block) py.1))
        | inr wy ↦ w.one x y wx.0 wy.0 wx.1 wy.1 (sym wx.2 ∙ same ∙ wy.2)
      ]
    ];
    links = put_links;
  }
