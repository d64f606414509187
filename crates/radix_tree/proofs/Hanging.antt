-- All nodes of a tree hang together under its topmost one.
use Rattle.std.proofs.Common.{◌≡◌, ◌∙◌, ℕ, zero, suc, ◌≤◌, Bool, List, [], ◌∷◌, IsSome, refl, sym, ap, subst, arith, inl, inr, Option, Some}
use Rattle.std.proofs.lemmas.Bool.{cases_lt}
use Rattle.inet_num.specs.Net.{Cidr, IsInside}
use Rattle.inet_num.proofs.Nested.{same_by_len}
use Rattle.node_pool.specs.Pooled.{node_at}
use Rattle.radix_tree.specs.declared.Node.{Node}
use Rattle.radix_tree.specs.declared.links.Place.TheVariants.{Root, Under}
use Rattle.radix_tree.specs.declared.links.Linked.{Linked}
use Rattle.radix_tree.specs.Shape.{half, child, IsLink, IsTree, rank, rank_of, whole}
use Rattle.radix_tree.specs.Lent.{HasHalves, IsShaped, LeadsDown}
use Rattle.radix_tree.proofs.Descent.{rank_child}
use Rattle.radix_tree.proofs.Mending.{child_node}
use Rattle.radix_tree.proofs.Order.{one_node}
use Rattle.radix_tree.proofs.Sides.{room_above, side_of, whole_in}

has_halves : (t : Linked) → IsTree t → HasHalves t.pool
has_halves t w id below n kid side e is f =
    let k = child_node t w id n side below e is in
    subst (λ (x : Node). IsInside x.block (half side n.block)) (one_node t.pool below below k.0 kid refl k.1 f) k.2

-- the way down to a node in the land of a link
way : (t : Linked) → IsTree t → (d : ℕ) (at : Option ℕ) (land : Cidr) → IsLink t.pool at land → rank t.pool at ≤ d → (id : ℕ) (n : Node) → node_at t.pool id ≡ Some n → IsInside n.block land
    → (sides : List Bool) × LeadsDown t.pool at sides id
way t w zero at land link small id n e i =
    let lead = link.leads id n e i in
    let short = (w.each lead.0 lead.1 lead.3).lawful.short in
    let none : rank t.pool (Some lead.0) ≤ 0 = subst (λ (x : Option ℕ). rank t.pool x ≤ 0) lead.2 small in
    let own = ap rank_of lead.3 in
    absurd (omega (arith, none, own, short))
way t w (suc d) at land link small id n e i =
    let lead = link.leads id n e i in
    let k = lead.0 in
    let m = lead.1 in
    let hm = (w.each k m lead.3).lawful in
    let hn = (w.each id n e).lawful in
    let more : rank t.pool (Some k) ≤ suc d = subst (λ (x : Option ℕ). rank t.pool x ≤ suc d) lead.2 small in
    elim (cases_lt m.block.len n.block.len) [
      | inl less ↦
          let room = room_above n.block m.block hn lead.4 less in
          let s = side_of m.block n.block hm hn lead.4 less in
          let lower = rank_child t w k m s.0 lead.3 room in
          let below = way t w d (child s.0 m) (half s.0 m.block) (w.links (Under k s.0) (child s.0 m) (half s.0 m.block) (m, lead.3, room, refl, refl)) (omega (arith, lower, more)) id n e s.1 in
          (s.0 ∷ below.0, (k, m, lead.2, lead.3, below.1))
      | inr le ↦
          let same = same_by_len n.block m.block lead.4 le hn.short hm.short in
          ([], lead.2 ∙ ap (λ (x : ℕ). Some x) (sym (w.one id k n m e lead.3 same)))
    ]

pub shaped : (t : Linked) → IsTree t → IsShaped t.pool
shaped t w =
    let link = w.links Root t.root (whole t.family) (refl, refl) in
    record {
      root = t.root;
      live = λ id is. (let top = link.top id is in subst IsSome (sym top.1) refl);
      halves = has_halves t w;
      hangs = λ id n e. (let own = w.each id n e in way t w (rank t.pool t.root) t.root (whole t.family) link (omega arith) id n e (whole_in t.family n.block own.lawful own.family_is));
    }
