use Rattle.std.proofs.Common.{refl, sym, ap, subst, arith}
use Rattle.inet_num.specs.Net.{Cidr, IsBlock, IsInside, IsStrictlyInside}
use Rattle.radix_tree.specs.Shape.{rank}
use Rattle.radix_tree.proofs.Sides.{whole_in, whole_lawful, len_of_inside}
use Rattle.radix_tree.proofs.Covers.{half_len}
use Rattle.radix_tree.proofs.Joints.{half_lawful}
use Rattle.radix_tree.proofs.Descent.{land_len, rank_child, strict_room}
use Rattle.radix_tree.proofs.links.Linked.find.Goals as goal

pub loop-found-init : goal.loop-found-init
loop-found-init g c = record {
  here = (refl, c.whole_of.ensures);
  inside = subst (IsInside c.args.block.now) (sym c.whole_of.ensures) (whole_in c.args.self.now.family c.args.block.now c.requires.lawful c.requires.family);
  lawful = subst IsBlock (sym c.whole_of.ensures) (whole_lawful c.args.self.now.family);
  cost = omega arith;
}

pub is_in_high_half-right-requires-clause-lawful_around : goal.is_in_high_half-right-requires-clause-lawful_around
is_in_high_half-right-requires-clause-lawful_around g c = (c.requires.tree.each c.in-Some.id c.visit-node.result.now c.visit-node.ensures.node).lawful

pub is_in_high_half-right-requires-clause-inside : goal.is_in_high_half-right-requires-clause-inside
is_in_high_half-right-requires-clause-inside g c = c.strictly_inside.ensures.0 c.if-not-strictly_inside.false

pub half_of-requires : goal.half_of-requires
half_of-requires g c =
    strict_room c.args.self.now c.requires.tree c.args.block.now c.requires.lawful c.in-Some.id c.visit-node.result.now c.visit-node.ensures.node (c.strictly_inside.ensures.0 c.if-not-strictly_inside.false)

pub loop-found-smaller : goal.loop-found-smaller
loop-found-smaller g c =
    let n = c.visit-node.result.now in
    let strict : IsStrictlyInside c.args.block.now n.block = c.strictly_inside.ensures.0 c.if-not-strictly_inside.false in
    let room = strict_room c.args.self.now c.requires.tree c.args.block.now c.requires.lawful c.in-Some.id n c.visit-node.ensures.node strict in
    let less = rank_child c.args.self.now c.requires.tree c.in-Some.id n c.is_in_high_half-right.result c.visit-node.ensures.node room in
    let at_is = ap (rank c.args.self.now.pool) c.in-Some.is in
    let to_is = ap (rank c.args.self.now.pool) c.link.ensures in
    omega arith

pub loop-found-preserved : goal.loop-found-preserved
loop-found-preserved g c =
    let t = c.args.self.now in
    let block = c.args.block.now in
    let n = c.visit-node.result.now in
    let e = c.visit-node.ensures.node in
    let strict : IsStrictlyInside block n.block = c.strictly_inside.ensures.0 c.if-not-strictly_inside.false in
    let room = strict_room t c.requires.tree block c.requires.lawful c.in-Some.id n e strict in
    let less = rank_child t c.requires.tree c.in-Some.id n c.is_in_high_half-right.result e room in
    let at_is = ap (rank t.pool) c.in-Some.is in
    let to_is = ap (rank t.pool) c.link.ensures in
    let half_is = c.half_of.ensures in
    let len_is = ap (λ (b : Cidr). b.len) half_is in
    let own = (c.requires.tree.each c.in-Some.id n e).lawful in
    record {
      here = (n, e, room, c.link.ensures, half_is);
      inside = subst (IsInside block) (sym half_is) c.is_in_high_half-right.ensures;
      lawful = subst IsBlock (sym half_is) (half_lawful c.is_in_high_half-right.result n.block own room);
      cost = omega (arith, c.loop-found.invariant.cost, c.visit-node.ensures.cost, land_len t c.requires.tree c.loop-found.found.place c.loop-found.found.at c.loop-found.found.land c.in-Some.id n c.loop-found.invariant.here c.loop-found.invariant.lawful c.in-Some.is e, half_len c.is_in_high_half-right.result n.block, len_is);
    }

pub returns-then-not-strictly_inside-clause-cost : goal.returns-then-not-strictly_inside-clause-cost
returns-then-not-strictly_inside-clause-cost g c =
    let v = c.loop-found.invariant in
    omega (arith, v.cost, c.visit-node.ensures.cost, len_of_inside c.args.block.now c.loop-found.found.land c.requires.lawful.short v.lawful.short v.inside)

pub returns-clause-cost : goal.returns-clause-cost
returns-clause-cost g c =
    let v = c.loop-found.invariant in
    omega (arith, v.cost, len_of_inside c.args.block.now c.loop-found.found.land c.requires.lawful.short v.lawful.short v.inside)
