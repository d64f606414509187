use Rattle.std.proofs.Common.{◌≡◌, ◌⊎◌, ℕ, ◌+◌, ◌-◌, ◌<◌, ◌≤◌, nat_le, Bool, true, false, refl, sym, ◌∙◌, ap, subst, arith, inl, inr, Option, Some, None}
use Rattle.std.proofs.lemmas.Bool.{cases_lt}
use Rattle.std.proofs.lemmas.Bool.Decides.{nat_tests}
use Rattle.std.proofs.lemmas.Nat.{pow_pos}
use Rattle.inet_num.specs.Net.{Cidr, width_of, size_of, IsBlock, IsInside, IsStrictlyInside}
use Rattle.inet_num.proofs.Aligned.{inside_half}
use Rattle.inet_num.proofs.Numbers.{strictly_by_len, len_of_strictly, ends_of_inside}
use Rattle.inet_num.proofs.Nested.{same_by_len}
use Rattle.node_pool.specs.Pooled.{node_at}
use Rattle.radix_tree.specs.declared.Node.{Node}
use Rattle.radix_tree.specs.declared.links.Place.{Place}
use Rattle.radix_tree.specs.declared.links.Place.TheVariants.{Under}
use Rattle.radix_tree.specs.declared.links.Linked.{Linked}
use Rattle.radix_tree.specs.Shape.{half, child, HasRoom, HasLink, IsTree, rank}
use Rattle.radix_tree.proofs.Sides.{len_of_inside}
use Rattle.radix_tree.proofs.Order.{some_same, one_node}

-- what stands for a land is at least as far down
pub rank_land : (t : Linked) → IsTree t → (place : Place) (at : Option ℕ) (land : Cidr) → HasLink t place at land → land.len ≤ width_of land.family → rank t.pool at + land.len ≤ width_of land.family + 1
rank_land t w place None land h short = omega arith
rank_land t w place (Some id) land h short =
    let top = (w.links place (Some id) land h).top id refl in
    let own = (w.each id top.0 top.1).lawful in
    let le = len_of_inside top.0.block land own.short short top.2 in
    let same : width_of top.0.block.family ≡ width_of land.family = ap width_of top.2.family in
    rw top.1 (omega arith)

-- the node of a link is at least as long as its land
pub land_len : (t : Linked) → IsTree t → (place : Place) (at : Option ℕ) (land : Cidr) (id : ℕ) (n : Node) → HasLink t place at land → IsBlock land → at ≡ Some id → node_at t.pool id ≡ Some n → land.len ≤ n.block.len
land_len t w place at land id n h hl is e =
    let top = (w.links place at land h).top id is in
    let inside : IsInside n.block land = subst (λ (x : Node). IsInside x.block land) (one_node t.pool id id top.0 n refl top.1 e) top.2 in
    len_of_inside n.block land (w.each id n e).lawful.short hl.short inside

-- a node's children are of lower rank
pub rank_child : (t : Linked) → IsTree t → (id : ℕ) (n : Node) (s : Bool) → node_at t.pool id ≡ Some n → HasRoom n.block → rank t.pool (child s n) + 1 ≤ rank t.pool (Some id)
rank_child t w id n false e room = let below = rank_land t w (Under id false) (child false n) (half false n.block) (n, e, room, refl, refl) (omega arith) in rw e (omega arith)
rank_child t w id n true e room = let below = rank_land t w (Under id true) (child true n) (half true n.block) (n, e, room, refl, refl) (omega arith) in rw e (omega arith)

-- a block strictly inside another one is in the high half just where it does not begin before that
pub half_by_first : (block around : Cidr) → IsBlock block → IsBlock around → IsStrictlyInside block around → (at : ℕ) → at ≡ (half true around).first → IsInside block (half (nat_le at block.first) around)
half_by_first block around hb ha strict at is = go (nat_le at block.first) refl (inside_half around block ha hb strict.inside (len_of_strictly block around ha.short hb.short strict)) where
  some : 0 < size_of block
  some = pow_pos (width_of block.family - block.len)

  go : (t : Bool) → nat_le at block.first ≡ t → (IsInside block (half false around) ⊎ IsInside block (half true around)) → IsInside block (half t around)
  go true e (inl low) = (let ends = (ends_of_inside block (half false around) low).1 in let from : at ≤ block.first = grind (arith, nat_tests) in absurd (omega (arith, some)))
  go true e (inr high) = high
  go false e (inl low) = low
  go false e (inr high) = (let ends = (ends_of_inside block (half true around) high).0 in let below : block.first < at = grind (arith, nat_tests) in absurd (omega arith))

pub strict_room : (t : Linked) → IsTree t → (block : Cidr) → IsBlock block → (id : ℕ) (n : Node) → node_at t.pool id ≡ Some n → IsStrictlyInside block n.block → HasRoom n.block
strict_room t w block hb id n e strict =
    let own = (w.each id n e).lawful in
    let less = len_of_strictly block n.block own.short hb.short strict in
    let short = hb.short in
    let same : width_of block.family ≡ width_of n.block.family = ap width_of strict.inside.family in
    omega arith

-- where the descent stops
pub stops : (t : Linked) → IsTree t → (block : Cidr) → IsBlock block → (at : Option ℕ) (id : ℕ) (n : Node) → at ≡ Some id → node_at t.pool id ≡ Some n → (IsStrictlyInside block n.block → ⊥)
    → (j : ℕ) (m : Node) → at ≡ Some j → node_at t.pool j ≡ Some m → IsInside block m.block → m.block ≡ block
stops t w block hb at id n is e out j m js f inside =
    let ids : j ≡ id = some_same j id (sym js ∙ is) in
    let same : m ≡ n = one_node t.pool j id m n ids f e in
    let in_n : IsInside block n.block = subst (λ (x : Node). IsInside block x.block) same inside in
    let own = (w.each id n e).lawful in
    elim (cases_lt n.block.len block.len) [
      | inl less ↦ absurd (out (strictly_by_len block n.block less in_n))
      | inr le ↦ ap (λ (x : Node). x.block) same ∙ sym (same_by_len block n.block in_n le hb.short own.short)
    ]
