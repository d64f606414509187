use Rattle.std.proofs.Common.{ℕ, ◌+◌, false, IsTrue, refl, sym, ap, subst, arith, ◌∙◌}
use Rattle.inet_num.specs.Net.{Cidr, IsBlock, IsInside, IsStrictlyInside}
use Rattle.radix_tree.specs.Shape.{rank}
use Rattle.radix_tree.proofs.Sides.{whole_in, whole_lawful}
use Rattle.radix_tree.proofs.Order.{not_both, some_same, one_node}
use Rattle.radix_tree.proofs.Covers.{half_len}
use Rattle.radix_tree.proofs.Joints.{half_lawful}
use Rattle.radix_tree.proofs.Descent.{rank_child, strict_room}
use Rattle.radix_tree.proofs.Above.{IsAroundUpTo, around_first, around_out, around_more}
use Rattle.radix_tree.specs.declared.Node.{Node}
use Rattle.radix_tree.proofs.links.Linked.count_around.Goals as goal

pub loop-found-init : goal.loop-found-init
loop-found-init g c = record {
  here = (refl, c.whole_of.ensures);
  inside = subst (IsInside c.args.block.now) (sym c.whole_of.ensures) (whole_in c.args.self.now.family c.args.block.now c.requires.lawful c.requires.family);
  lawful = subst IsBlock (sym c.whole_of.ensures) (whole_lawful c.args.self.now.family);
  around = around_first c.args.self.now c.args.block.now c.whole_of.result c.whole_of.ensures;
}

pub is_in_high_half-right-requires-clause-lawful_around : goal.is_in_high_half-right-requires-clause-lawful_around
is_in_high_half-right-requires-clause-lawful_around g c = (c.requires.tree.each c.in-Some.id c.visit-node.result.now c.visit-node.ensures.node).lawful

pub is_in_high_half-right-requires-clause-inside : goal.is_in_high_half-right-requires-clause-inside
is_in_high_half-right-requires-clause-inside g c = c.strictly_inside.ensures.0 c.if-not-strictly_inside.false

pub half_of-requires : goal.half_of-requires
half_of-requires g c =
    strict_room c.args.self.now c.requires.tree c.args.block.now c.requires.lawful c.in-Some.id c.visit-node.result.now c.visit-node.ensures.node (c.strictly_inside.ensures.0 c.if-not-strictly_inside.false)

pub loop-found-smaller : goal.loop-found-smaller
loop-found-smaller g c =
    let n = c.visit-node.result.now in
    let strict : IsStrictlyInside c.args.block.now n.block = c.strictly_inside.ensures.0 c.if-not-strictly_inside.false in
    let room = strict_room c.args.self.now c.requires.tree c.args.block.now c.requires.lawful c.in-Some.id n c.visit-node.ensures.node strict in
    let less = rank_child c.args.self.now c.requires.tree c.in-Some.id n c.is_in_high_half-right.result c.visit-node.ensures.node room in
    let at_is = ap (rank c.args.self.now.pool) c.in-Some.is in
    let to_is = ap (rank c.args.self.now.pool) c.link.ensures in
    omega arith

pub loop-found-preserved : goal.loop-found-preserved
loop-found-preserved g c =
    let t = c.args.self.now in
    let block = c.args.block.now in
    let n = c.visit-node.result.now in
    let e = c.visit-node.ensures.node in
    let v = c.loop-found.invariant in
    let strict : IsStrictlyInside block n.block = c.strictly_inside.ensures.0 c.if-not-strictly_inside.false in
    let room = strict_room t c.requires.tree block c.requires.lawful c.in-Some.id n e strict in
    let half_is = c.half_of.ensures in
    let own = (c.requires.tree.each c.in-Some.id n e).lawful in
    let longer = ap (λ (b : Cidr). b.len) half_is ∙ half_len c.is_in_high_half-right.result n.block in
    record {
      here = (n, e, room, c.link.ensures, half_is);
      inside = subst (IsInside block) (sym half_is) c.is_in_high_half-right.ensures;
      lawful = subst IsBlock (sym half_is) (half_lawful c.is_in_high_half-right.result n.block own room);
      around = subst (λ (k : ℕ). IsAroundUpTo t block c.half_of.result (c.loop-found.count + k)) (sym c.min-count.ensures)
          (around_more t c.requires.tree block c.requires.lawful c.requires.family c.loop-found.found.place c.loop-found.found.land v.lawful c.loop-found.found.at v.here v.inside c.in-Some.id n c.loop-found.count c.half_of.result
          c.in-Some.is e strict v.around longer);
    }

pub returns-then-not-strictly_inside : goal.returns-then-not-strictly_inside
returns-then-not-strictly_inside g c =
    let t = c.args.self.now in
    let v = c.loop-found.invariant in
    around_out t c.requires.tree c.args.block.now c.requires.lawful c.requires.family c.loop-found.found.place c.loop-found.found.land v.lawful c.loop-found.found.at v.here v.inside c.loop-found.count v.around
    (λ j m is f strict.
    let same = one_node t.pool j c.in-Some.id m c.visit-node.result.now (some_same j c.in-Some.id (sym is ∙ c.in-Some.is)) f c.visit-node.ensures.node in
    let wrong : IsTrue false = c.if-not-strictly_inside.ensures.1 (subst (λ (x : Node). IsStrictlyInside c.args.block.now x.block) same strict) in
    cc)

pub returns : goal.returns
returns g c =
    let v = c.loop-found.invariant in
    around_out c.args.self.now c.requires.tree c.args.block.now c.requires.lawful c.requires.family c.loop-found.found.place c.loop-found.found.land v.lawful c.loop-found.found.at v.here v.inside c.loop-found.count v.around
    (λ j m is f strict. not_both c.loop-found.found.at j c.in_default.is is)
